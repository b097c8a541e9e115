use Rattle.std.proofs.Common.{◌≡◌, ◌≤◌, drop, length, map}
use Rattle.c_grammar.specs.TopViews.{top_of}
use Rattle.c_grammar.specs.Views.{words_of}
use Rattle.tidy_refusal.specs.FileJumps.{first_jump}
use Rattle.tidy_refusal.proofs.file_jumps.tops_jump.Given as goal

abbrev pub invariant-loop-i : goal.invariant-loop-i
invariant-loop-i l = record {
  within : l.i ≤ length l.nodes;
  found : l.found ≡ first_jump (map (top_of (words_of l.words)) (drop l.i l.nodes));
}

abbrev pub decreases-loop-i : goal.decreases-loop-i
decreases-loop-i l = l.i
