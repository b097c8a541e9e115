use Rattle.std.proofs.Common.{Some, option_map, ap, sym, ◌∙◌, arith}
use Rattle.std.proofs.lemmas.Result.{IfOk-weaker}
use Rattle.c_tree.specs.ExpressionTrees.{expression_tree}
use Rattle.c_tree.specs.Trees.{For, tree_of, trees_of}
use Rattle.c_tree.proofs.TreeLaws.{tree-For}
use Rattle.step_tasks.specs.Tasks.{tasks_of}
use Rattle.step_tasks.proofs.TopLemmas.{below}
use Rattle.step_ahead.proofs.AheadLemmas.{stays}
use Rattle.step_ahead.proofs.loops.head.Goals as goal

pub returns-in-Some-clause-ok : goal.returns-in-Some-clause-ok
returns-in-Some-clause-ok c =
    let f = trees_of c.in-For.field-0 in
    let u = option_map expression_tree c.in-For.field-2 in
    let i = ap tree_of c.in-For.is ∙ tree-For c.in-For.field-0 c.in-For.test c.in-For.field-2 c.in-For.a ∙
    ap (λ t. For f (option_map expression_tree t) u (trees_of c.in-For.a)) c.in-Some.is
    ∙ ap (λ xs. For f (Some (expression_tree c.in-Some.e)) u (trees_of xs)) (sym c.as_slice.ensures.value)
    ∙ ap (λ e. For f (Some (expression_tree e)) u (trees_of c.as_slice.result.now)) (sym c.get.ensures) in
    IfOk-weaker c.turn.result _ _ (λ n h. h f u i) c.turn.ensures.ok

pub returns-in-None-clause-ok : goal.returns-in-None-clause-ok
returns-in-None-clause-ok c x below q e = stays c.args.store.now (tasks_of c.args.tasks.now)

pub returns-in_default : goal.returns-in_default
returns-in_default c = record { most = omega arith; ok = λ x below q e. stays c.args.store.now (tasks_of c.args.tasks.now) }
