use Rattle.std.proofs.Common.{◌≡◌, ◌+◌, ◌*◌, drop, max}
use Rattle.c_grammar.specs.Weights.{weight, weights}
use Rattle.c_grammar.specs.Views.{words_of}
use Rattle.c_statements.specs.Measures.{list_longest}
use Rattle.c_statements.specs.Nodes.{items_of}
use Rattle.c_statements.proofs.longest.+longest.Given as goal

abbrev pub decreases-item_longest : goal.decreases-item_longest
decreases-item_longest l = 2 * weight l.x.now

abbrev pub decreases-plain_longest : goal.decreases-plain_longest
decreases-plain_longest l = 2 * weight l.x.now

abbrev pub decreases-body_longest : goal.decreases-body_longest
decreases-body_longest l = 2 * weight l.x.now + 1

abbrev pub decreases-list_longest : goal.decreases-list_longest
decreases-list_longest l = 2 * weights l.items.now + 1

abbrev pub invariant-list_longest-loop-x : goal.invariant-list_longest-loop-x
invariant-list_longest-loop-x l =
    max l.longest (list_longest (words_of l.words) (items_of (words_of l.words) (drop l.x-index l.items))) ≡ list_longest (words_of l.words)
    (items_of (words_of l.words) l.items)
