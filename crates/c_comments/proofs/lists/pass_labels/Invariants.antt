use Rattle.std.proofs.Common.{ℕ, ◌≡◌, ◌≤◌, ◌-◌, drop, length}
use Rattle.c_grammar.specs.ItemViews.{labels_of}
use Rattle.c_grammar.specs.Views.{words_of}
use Rattle.c_comments.specs.Steps.{place_in_labels}
use Rattle.c_comments.proofs.lists.pass_labels.Given as goal

abbrev pub invariant-loop-i : goal.invariant-loop-i
invariant-loop-i l = record {
  within : l.i ≤ length l.labels;
  rest : (t : ℕ) → l.fn.token ≤ t → place_in_labels l.fn.section (labels_of (words_of l.words) (drop l.i l.labels)) t ≡ place_in_labels l.fn.section
      (labels_of (words_of l.words) l.labels) t;
}

abbrev pub decreases-loop-i : goal.decreases-loop-i
decreases-loop-i l = length l.labels - l.i
