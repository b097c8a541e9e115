use Rattle.std.proofs.Common.{◌≡◌, ◌≤◌, drop, length}
use Rattle.c_grammar.specs.ItemViews.{labels_of}
use Rattle.c_grammar.specs.Views.{words_of}
use Rattle.c_statements.specs.Labels.{named_in}
use Rattle.c_statements.proofs.labels.add_named.Given as goal

abbrev pub invariant-loop-i : goal.invariant-loop-i
invariant-loop-i l = record {
  within : l.i ≤ length l.nodes;
  out : l.out ≡ named_in (labels_of (words_of l.words) (drop l.i l.nodes)) l.initial.out;
}

abbrev pub decreases-loop-i : goal.decreases-loop-i
decreases-loop-i l = l.i
