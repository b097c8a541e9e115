use Rattle.std.proofs.Common.{option_map, ap, sym, ◌∙◌}
use Rattle.c_tree.specs.Trees.{Arrival, tree_of}
use Rattle.c_tree.specs.ExpressionTrees.{expression_tree}
use Rattle.c_tree.proofs.TreeLaws.{tree-Arrival}
use Rattle.jump_meaning.specs.Search.{ToCase, is_goal}
use Rattle.step_tasks.proofs.SearchLemmas.{no_arrival}
use Rattle.step_tasks.proofs.search.is_arrival.Goals as goal

pub returns-in-Some : goal.returns-in-Some
returns-in-Some c =
    c.is_case.ensures
    ∙ sym (ap (λ t. is_goal (ToCase c.args.kind c.args.number.now) t)
    (ap tree_of c.in-Arrival.is ∙ tree-Arrival c.in-Arrival.case ∙ ap (λ e. Arrival (option_map expression_tree e)) c.in-Some.is))

pub returns-in-None : goal.returns-in-None
returns-in-None c =
    sym (ap (λ t. is_goal (ToCase c.args.kind c.args.number.now) t)
    (ap tree_of c.in-Arrival.is ∙ tree-Arrival c.in-Arrival.case ∙ ap (λ e. Arrival (option_map expression_tree e)) c.in-None.is))

pub returns-in_default : goal.returns-in_default
returns-in_default c = sym (no_arrival c.args.kind c.args.number.now c.args.item.now c.in_default.not-Arrival)
