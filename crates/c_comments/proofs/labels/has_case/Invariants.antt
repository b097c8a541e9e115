use Rattle.std.proofs.Common.{◌≡◌, drop}
use Rattle.c_grammar.specs.ItemViews.{labels_of}
use Rattle.c_grammar.specs.Views.{words_of}
use Rattle.c_statements.specs.Labels.{has_case}
use Rattle.c_comments.proofs.labels.has_case.Given as goal

abbrev pub invariant-loop-x : goal.invariant-loop-x
invariant-loop-x l = has_case (labels_of (words_of l.words) (drop l.x-index l.nodes)) ≡ has_case (labels_of (words_of l.words) l.nodes)
