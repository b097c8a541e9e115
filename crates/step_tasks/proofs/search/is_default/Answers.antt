use Rattle.std.proofs.Common.{option_map, ap, sym, ◌∙◌}
use Rattle.c_tree.specs.Trees.{Arrival, tree_of}
use Rattle.c_tree.specs.ExpressionTrees.{expression_tree}
use Rattle.c_tree.proofs.TreeLaws.{tree-Arrival}
use Rattle.jump_meaning.specs.Search.{ToDefault, is_goal}
use Rattle.step_tasks.proofs.SearchLemmas.{no_default}
use Rattle.step_tasks.proofs.search.is_default.Goals as goal

pub returns-in-Some : goal.returns-in-Some
returns-in-Some c = sym (ap (is_goal ToDefault) (ap tree_of c.in-Arrival.is ∙ tree-Arrival c.in-Arrival.case ∙
    ap (λ e. Arrival (option_map expression_tree e)) c.in-Some.is))

pub returns-in-None : goal.returns-in-None
returns-in-None c = sym (ap (is_goal ToDefault) (ap tree_of c.in-Arrival.is ∙ tree-Arrival c.in-Arrival.case ∙
    ap (λ e. Arrival (option_map expression_tree e)) c.in-None.is))

pub returns-in_default : goal.returns-in_default
returns-in_default c = sym (no_default c.args.item.now c.in_default.not-Arrival)
