use Rattle.std.proofs.Common.{◌∷◌, cond, ap, ◌∙◌}
use Rattle.c_tree.specs.ExpressionTrees.{expression_tree}
use Rattle.c_tree.specs.TestTrees.{Source}
use Rattle.c_tree.specs.Trees.{tree_of, trees_of}
use Rattle.jump_meaning.specs.Tasks.{Loops, WhileLoop, items}
use Rattle.step_tasks.specs.Tasks.{tasks_of, loop_of}
use Rattle.step_tasks.proofs.TopLemmas.{below}
use Rattle.step_ahead.proofs.AheadLemmas.{stays, reaches_as, again_reaches}
use Rattle.step_ahead.proofs.loops.again.Goals as goal

pub returns-in_default-clause-ok : goal.returns-in_default-clause-ok
returns-in_default-clause-ok c i x below q e = stays c.args.store.now (tasks_of c.args.tasks.now)

pub returns-clause-ok : goal.returns-clause-ok
returns-clause-ok c i x below q e =
    let s = c.args.store.now in
    let t = expression_tree c.args.e.now in
    let a = trees_of c.args.a.now in
    let k = tasks_of below in
    let r = c.in-Some.asked in
    let mid = ap tasks_of (c.take_off.ensures x below q) in
    reaches_as s s r.steps (tasks_of c.args.tasks.now) _ (cond r.holds (items a (Loops (WhileLoop (Source t) a) ∷ k)) k)
    (tasks_of c.add_body.new.tasks) (ap tasks_of q ∙ e ∙ ap (λ y. loop_of y ∷ k) i)
    (c.in_ok-add_body.ensures.ok ∙ ap (λ m. cond r.holds (items a (loop_of (tree_of c.args.item.now) ∷ m)) m) mid ∙
    ap (λ y. cond r.holds (items a (loop_of y ∷ k)) k) i)
    (again_reaches s t a k c.args.most r c.in-Some.ensures)
