use Rattle.std.proofs.Common.{Some, option_map, refl, ap, sym, ◌∙◌, arith}
use Rattle.std.proofs.lemmas.Result.{IfOk-weaker}
use Rattle.c_tree.specs.ExpressionTrees.{expression_tree}
use Rattle.c_tree.specs.TestTrees.{Source, test_tree}
use Rattle.c_tree.specs.Trees.{While, For, tree_of, trees_of}
use Rattle.c_tree.proofs.ExpressionLaws.{test-Source}
use Rattle.c_tree.proofs.TreeLaws.{tree-While, tree-For}
use Rattle.step_tasks.specs.Tasks.{tasks_of}
use Rattle.step_tasks.proofs.TopLemmas.{below}
use Rattle.step_ahead.proofs.AheadLemmas.{stays}
use Rattle.step_ahead.proofs.loops.loop_end.Goals as goal

pub returns-in-Source-clause-ok : goal.returns-in-Source-clause-ok
returns-in-Source-clause-ok c =
    let i = ap tree_of c.in-While.is ∙ tree-While c.in-While.test c.in-While.a ∙
    ap (λ t. While t (trees_of c.in-While.a)) (ap test_tree c.in-Source.is ∙ test-Source c.in-Source.e)
    ∙ ap (λ xs. While (Source (expression_tree c.in-Source.e)) (trees_of xs)) (sym c.as_slice.ensures.value) in
    IfOk-weaker c.again.result _ _ (λ n h. h i) c.again.ensures.ok

pub returns-in-Some-clause-ok : goal.returns-in-Some-clause-ok
returns-in-Some-clause-ok c =
    let f = trees_of c.in-For.field-0 in
    let t = option_map expression_tree c.in-For.field-1 in
    let a = trees_of c.in-For.field-3 in
    let i = ap tree_of c.in-For.is ∙ tree-For c.in-For.field-0 c.in-For.field-1 c.in-For.step c.in-For.field-3 ∙
    ap (λ u. For f t (option_map expression_tree u) a) c.in-Some.is
    ∙ ap (λ e. For f t (Some (expression_tree e)) a) (sym c.get.ensures) in
    IfOk-weaker c.for_step.result _ _ (λ n h. h f a t i) c.for_step.ensures.ok

pub returns-in-None-clause-ok : goal.returns-in-None-clause-ok
returns-in-None-clause-ok c x below q e = stays c.args.store.now (tasks_of c.args.tasks.now)

pub returns-in_default-test : goal.returns-in_default-test
returns-in_default-test c = record { names = refl; most = omega arith; ok = λ x below q e. stays c.args.store.now (tasks_of c.args.tasks.now) }

pub returns-in_default : goal.returns-in_default
returns-in_default c = record { names = refl; most = omega arith; ok = λ x below q e. stays c.args.store.now (tasks_of c.args.tasks.now) }
