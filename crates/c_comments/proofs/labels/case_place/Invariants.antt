use Rattle.std.proofs.Common.{◌≡◌, drop}
use Rattle.c_grammar.specs.ItemViews.{labels_of}
use Rattle.c_grammar.specs.Views.{words_of}
use Rattle.c_comments.specs.Notes.{case_place}
use Rattle.c_comments.proofs.labels.case_place.Given as goal

abbrev pub invariant-loop-x : goal.invariant-loop-x
invariant-loop-x l = case_place l.fn.first (labels_of (words_of l.words) (drop l.x-index l.nodes)) ≡ case_place l.fn.first
    (labels_of (words_of l.words) l.nodes)
