use Rattle.std.proofs.Common.{◌≡◌, ◌≤◌, drop, length}
use Rattle.c_grammar.specs.ItemViews.{labels_of}
use Rattle.c_grammar.specs.Views.{words_of}
use Rattle.tidy_refusal.specs.FileJumps.{labels_jump}
use Rattle.tidy_refusal.proofs.file_jumps.labels_jump.Given as goal

abbrev pub invariant-loop-i : goal.invariant-loop-i
invariant-loop-i l = record {
  within : l.i ≤ length l.nodes;
  found : l.found ≡ labels_jump (labels_of (words_of l.words) (drop l.i l.nodes)) l.fn.rest;
}

abbrev pub decreases-loop-i : goal.decreases-loop-i
decreases-loop-i l = l.i
