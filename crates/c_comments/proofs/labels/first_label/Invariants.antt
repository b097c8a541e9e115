use Rattle.std.proofs.Common.{◌≡◌, drop}
use Rattle.c_grammar.specs.ItemViews.{labels_of}
use Rattle.c_grammar.specs.Views.{words_of}
use Rattle.c_grammar.specs.Items.{first_label}
use Rattle.c_comments.proofs.labels.first_label.Given as goal

abbrev pub invariant-loop-x : goal.invariant-loop-x
invariant-loop-x l = first_label (labels_of (words_of l.words) (drop l.x-index l.nodes)) ≡ first_label (labels_of (words_of l.words) l.nodes)
