use Rattle.std.proofs.Common.{◌≡◌, ◌≤◌, ◌+◌, ◌*◌, drop, length}
use Rattle.c_grammar.specs.Weights.{weight, weights}
use Rattle.c_grammar.specs.Views.{words_of}
use Rattle.c_statements.specs.Nodes.{items_of}
use Rattle.tidy_refusal.specs.FileJumps.{list_jump, sections_jump}
use Rattle.tidy_refusal.proofs.file_jumps.+jumps.Given as goal

abbrev pub decreases-item_jump : goal.decreases-item_jump
decreases-item_jump l = 2 * weight l.x.now

abbrev pub decreases-section_jump : goal.decreases-section_jump
decreases-section_jump l = 2 * weight l.x.now

abbrev pub decreases-plain_jump : goal.decreases-plain_jump
decreases-plain_jump l = 2 * weight l.x.now

abbrev pub decreases-body_jump : goal.decreases-body_jump
decreases-body_jump l = 2 * weight l.x.now + 1

abbrev pub decreases-switch_jump : goal.decreases-switch_jump
decreases-switch_jump l = 2 * weight l.x.now + 1

abbrev pub decreases-list_jump : goal.decreases-list_jump
decreases-list_jump l = 2 * weights l.items.now + 1

abbrev pub decreases-sections_jump : goal.decreases-sections_jump
decreases-sections_jump l = 2 * weights l.items.now + 1

abbrev pub invariant-list_jump-loop-i : goal.invariant-list_jump-loop-i
invariant-list_jump-loop-i l = record {
  within : l.i ≤ length l.items;
  found : l.found ≡ list_jump (items_of (words_of l.words) (drop l.i l.items)) l.fn.rest;
}

abbrev pub decreases-list_jump-loop-i : goal.decreases-list_jump-loop-i
decreases-list_jump-loop-i l = l.i

abbrev pub invariant-sections_jump-loop-i : goal.invariant-sections_jump-loop-i
invariant-sections_jump-loop-i l = record {
  within : l.i ≤ length l.items;
  found : l.found ≡ sections_jump (items_of (words_of l.words) (drop l.i l.items)) l.fn.rest;
}

abbrev pub decreases-sections_jump-loop-i : goal.decreases-sections_jump-loop-i
decreases-sections_jump-loop-i l = l.i
