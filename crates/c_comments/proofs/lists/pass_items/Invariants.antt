use Rattle.std.proofs.Common.{◌≤◌, ◌-◌, drop, length}
use Rattle.c_grammar.specs.Views.{words_of}
use Rattle.c_statements.specs.Nodes.{items_of}
use Rattle.c_comments.specs.Notes.{list_place}
use Rattle.c_comments.specs.Steps.{Behind}
use Rattle.c_comments.proofs.lists.pass_items.Given as goal

abbrev pub invariant-loop-i : goal.invariant-loop-i
invariant-loop-i l = record {
  within : l.i ≤ length l.items;
  rest : Behind (list_place l.fn.end (items_of (words_of l.words) (drop l.i l.items))) (list_place l.fn.end (items_of (words_of l.words) l.items)) l.fn.token;
}

abbrev pub decreases-loop-i : goal.decreases-loop-i
decreases-loop-i l = length l.items - l.i
