use Rattle.std.proofs.Common.{◌∷◌, ap, sym, ◌∙◌, arith}
use Rattle.std.proofs.lemmas.Result.{IfOk-weaker}
use Rattle.c_tree.specs.ExpressionTrees.{expression_tree}
use Rattle.c_tree.specs.TestTrees.{Source, test_tree}
use Rattle.c_tree.specs.Trees.{If, While, tree_of, trees_of}
use Rattle.c_tree.proofs.ExpressionLaws.{test-Source}
use Rattle.c_tree.proofs.TreeLaws.{tree-If, tree-While}
use Rattle.jump_meaning.specs.Tasks.{Runs, items}
use Rattle.step_tasks.specs.Tasks.{tasks_of}
use Rattle.step_ahead.proofs.AheadLemmas.{stays}
use Rattle.step_ahead.proofs.statements.choose.Goals as goal

pub returns-in-Source-clause-ok : goal.returns-in-Source-clause-ok
returns-in-Source-clause-ok c =
    let t = Source (expression_tree c.in-Source.e) in
    let i = ap tree_of c.in-If.is ∙ tree-If c.in-If.test c.in-If.a c.in-If.b ∙
    ap (λ y. If y (trees_of c.in-If.a) (trees_of c.in-If.b)) (ap test_tree c.in-Source.is ∙ test-Source c.in-Source.e)
    ∙ ap (λ xs. If t (trees_of xs) (trees_of c.in-If.b)) (sym c.as_slice.ensures.value) ∙
    ap (λ xs. If t (trees_of c.as_slice.result.now) (trees_of xs)) (sym c.as_slice-in-Source.ensures.value) in
    IfOk-weaker c.branch-tasks.result _ _ (λ n w x below q e. w x below q
    (e ∙ ap (λ y. Runs y ∷ items (trees_of c.args.rest.now) (tasks_of below)) i)) c.branch-tasks.ensures.ok

pub returns-in-Source-test-clause-ok : goal.returns-in-Source-test-clause-ok
returns-in-Source-test-clause-ok c =
    let i = ap tree_of c.in-While.is ∙ tree-While c.in-While.test c.in-While.a ∙
    ap (λ t. While t (trees_of c.in-While.a)) (ap test_tree c.in-Source-test.is ∙ test-Source c.in-Source-test.e)
    ∙ ap (λ xs. While (Source (expression_tree c.in-Source-test.e)) (trees_of xs)) (sym c.as_slice-in-Source-test.ensures.value) in
    IfOk-weaker c.enter_while.result _ _ (λ n h. h i) c.enter_while.ensures.ok

pub returns-in_default-test : goal.returns-in_default-test
returns-in_default-test c = record { most = omega arith; ok = λ x below q e. stays c.args.store.now (tasks_of c.args.tasks.now) }

pub returns-in_default-test-2 : goal.returns-in_default-test-2
returns-in_default-test-2 c = record { most = omega arith; ok = λ x below q e. stays c.args.store.now (tasks_of c.args.tasks.now) }

pub returns-in_default : goal.returns-in_default
returns-in_default c = record { most = omega arith; ok = λ x below q e. stays c.args.store.now (tasks_of c.args.tasks.now) }
