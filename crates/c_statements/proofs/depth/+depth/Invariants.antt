use Rattle.std.proofs.Common.{◌≡◌, ◌+◌, ◌*◌, drop, max}
use Rattle.c_grammar.specs.Weights.{weight, weights}
use Rattle.c_grammar.specs.Views.{words_of}
use Rattle.c_statements.specs.Measures.{bounded, list_depth}
use Rattle.c_statements.specs.Nodes.{items_of}
use Rattle.c_statements.proofs.depth.+depth.Given as goal

abbrev pub decreases-item_depth : goal.decreases-item_depth
decreases-item_depth l = 2 * weight l.x.now

abbrev pub decreases-plain_depth : goal.decreases-plain_depth
decreases-plain_depth l = 2 * weight l.x.now

abbrev pub decreases-body_depth : goal.decreases-body_depth
decreases-body_depth l = 2 * weight l.x.now + 1

abbrev pub decreases-list_depth : goal.decreases-list_depth
decreases-list_depth l = 2 * weights l.items.now + 1

abbrev pub invariant-list_depth-loop-x : goal.invariant-list_depth-loop-x
invariant-list_depth-loop-x l =
    max l.deepest (bounded (list_depth (items_of (words_of l.words) (drop l.x-index l.items)))) ≡ bounded (list_depth (items_of (words_of l.words) l.items))
