use Rattle.std.proofs.Common.{◌≡◌, ◌≤◌, ◌+◌, ◌*◌, drop, length}
use Rattle.c_grammar.specs.Weights.{weight, weights}
use Rattle.c_grammar.specs.Views.{words_of}
use Rattle.c_statements.specs.Labels.{list_labels}
use Rattle.c_statements.specs.Nodes.{items_of}
use Rattle.c_statements.proofs.labels.+labels.Given as goal

abbrev pub decreases-item_labels : goal.decreases-item_labels
decreases-item_labels l = 2 * weight l.x.now

abbrev pub decreases-plain_labels : goal.decreases-plain_labels
decreases-plain_labels l = 2 * weight l.x.now

abbrev pub decreases-body_labels : goal.decreases-body_labels
decreases-body_labels l = 2 * weight l.x.now + 1

abbrev pub decreases-list_labels : goal.decreases-list_labels
decreases-list_labels l = 2 * weights l.items.now + 1

abbrev pub invariant-list_labels-loop-i : goal.invariant-list_labels-loop-i
invariant-list_labels-loop-i l = record {
  within : l.i ≤ length l.items;
  out : l.out ≡ list_labels (items_of (words_of l.words) (drop l.i l.items)) l.initial.out;
}

abbrev pub decreases-list_labels-loop-i : goal.decreases-list_labels-loop-i
decreases-list_labels-loop-i l = l.i
