use Rattle.std.proofs.Common.{pos, not, cond, ◌∷◌, ap, sym, ◌∙◌}
use Rattle.std.proofs.lemmas.Result.{on_ok_weaker}
use Rattle.c_tree.specs.Operators.{truth}
use Rattle.c_tree.specs.TestTrees.{test_tree}
use Rattle.c_tree.proofs.ExpressionLaws.{test-Source, test-On, test-Off, test-AndOff, test-OrOn}
use Rattle.jump_meaning.specs.Tasks.{Asks}
use Rattle.jump_meaning.specs.Step.{Goes, Yields, view}
use Rattle.step_tasks.specs.Controls.{body_of, guards_of}
use Rattle.step_tasks.specs.Tasks.{tasks_of}
use Rattle.step_tasks.proofs.ControlLemmas.{goes, yields}
use Rattle.step_tasks.proofs.tests_asked.ask.Goals as goal

pub returns-in-Source-clause-ok : goal.returns-in-Source-clause-ok
returns-in-Source-clause-ok c =
    on_ok_weaker c.add.result (λ p. goes (Asks (test_tree c.args.test.now)) c.args.call.now c.add.new.tasks
    (ap (λ x. view (body_of c.args.call.now.function.now) (guards_of c.args.call.now.guards) (Asks x ∷ tasks_of c.args.call.now.tasks))
    (ap test_tree c.in-Source.is ∙ test-Source c.in-Source.e) ∙ ap Goes (sym p))) c.add.ensures.ok

pub returns-in-On-clause-ok : goal.returns-in-On-clause-ok
returns-in-On-clause-ok c =
    on_ok_weaker c.leave_truth.result (λ p. yields (Asks (test_tree c.args.test.now)) c.args.call.now c.leave_truth.new.values (truth c.is_set.result)
    (ap (λ x. view (body_of c.args.call.now.function.now) (guards_of c.args.call.now.guards) (Asks x ∷ tasks_of c.args.call.now.tasks))
    (ap test_tree c.in-On.is ∙ test-On c.in-On.label) ∙ ap (λ b. Yields (truth b) (tasks_of c.args.call.now.tasks)) (sym c.is_set.ensures)) p)
    c.leave_truth.ensures.ok

pub returns-in-Off-clause-ok : goal.returns-in-Off-clause-ok
returns-in-Off-clause-ok c =
    on_ok_weaker c.leave_truth-in-Off.result (λ p. yields (Asks (test_tree c.args.test.now)) c.args.call.now c.leave_truth-in-Off.new.values
    (truth (not c.is_set-in-Off.result))
    (ap (λ x. view (body_of c.args.call.now.function.now) (guards_of c.args.call.now.guards) (Asks x ∷ tasks_of c.args.call.now.tasks))
    (ap test_tree c.in-Off.is ∙ test-Off c.in-Off.label) ∙ ap (λ b. Yields (truth (not b)) (tasks_of c.args.call.now.tasks))
    (sym c.is_set-in-Off.ensures)) p) c.leave_truth-in-Off.ensures.ok

pub returns-then-is_set-clause-ok : goal.returns-then-is_set-clause-ok
returns-then-is_set-clause-ok c =
    on_ok_weaker c.leave_number.result (λ p. yields (Asks (test_tree c.args.test.now)) c.args.call.now c.leave_number.new.values (pos 0)
    (ap (λ x. view (body_of c.args.call.now.function.now) (guards_of c.args.call.now.guards) (Asks x ∷ tasks_of c.args.call.now.tasks))
    (ap test_tree c.in-AndOff.is ∙ test-AndOff c.in-AndOff.label c.in-AndOff.rest) ∙
    ap (λ b. cond b (Yields (pos 0) (tasks_of c.args.call.now.tasks)) (Goes (Asks (test_tree c.in-AndOff.rest) ∷ tasks_of c.args.call.now.tasks)))
    (sym c.is_set-in-AndOff.ensures ∙ c.if-is_set.true)) p) c.leave_number.ensures.ok

pub returns-else-is_set-clause-ok : goal.returns-else-is_set-clause-ok
returns-else-is_set-clause-ok c =
    on_ok_weaker c.add-in-AndOff.result (λ p. goes (Asks (test_tree c.args.test.now)) c.args.call.now c.add-in-AndOff.new.tasks
    (ap (λ x. view (body_of c.args.call.now.function.now) (guards_of c.args.call.now.guards) (Asks x ∷ tasks_of c.args.call.now.tasks))
    (ap test_tree c.in-AndOff.is ∙ test-AndOff c.in-AndOff.label c.in-AndOff.rest) ∙
    ap (λ b. cond b (Yields (pos 0) (tasks_of c.args.call.now.tasks)) (Goes (Asks (test_tree c.in-AndOff.rest) ∷ tasks_of c.args.call.now.tasks)))
    (sym c.is_set-in-AndOff.ensures ∙ c.if-is_set.false) ∙ ap Goes
    (sym (p ∙ ap (λ t. Asks (test_tree t) ∷ tasks_of c.args.call.now.tasks) c.get.ensures)))) c.add-in-AndOff.ensures.ok

pub returns-then-is_set-2-clause-ok : goal.returns-then-is_set-2-clause-ok
returns-then-is_set-2-clause-ok c =
    on_ok_weaker c.leave_number-then-is_set-2.result (λ p. yields (Asks (test_tree c.args.test.now)) c.args.call.now
    c.leave_number-then-is_set-2.new.values (pos 1)
    (ap (λ x. view (body_of c.args.call.now.function.now) (guards_of c.args.call.now.guards) (Asks x ∷ tasks_of c.args.call.now.tasks))
    (ap test_tree c.in-OrOn.is ∙ test-OrOn c.in-OrOn.label c.in-OrOn.rest) ∙
    ap (λ b. cond b (Yields (pos 1) (tasks_of c.args.call.now.tasks)) (Goes (Asks (test_tree c.in-OrOn.rest) ∷ tasks_of c.args.call.now.tasks)))
    (sym c.is_set-in-OrOn.ensures ∙ c.if-is_set-2.true)) p) c.leave_number-then-is_set-2.ensures.ok

pub returns-else-is_set-2-clause-ok : goal.returns-else-is_set-2-clause-ok
returns-else-is_set-2-clause-ok c =
    on_ok_weaker c.add-in-OrOn.result (λ p. goes (Asks (test_tree c.args.test.now)) c.args.call.now c.add-in-OrOn.new.tasks
    (ap (λ x. view (body_of c.args.call.now.function.now) (guards_of c.args.call.now.guards) (Asks x ∷ tasks_of c.args.call.now.tasks))
    (ap test_tree c.in-OrOn.is ∙ test-OrOn c.in-OrOn.label c.in-OrOn.rest) ∙
    ap (λ b. cond b (Yields (pos 1) (tasks_of c.args.call.now.tasks)) (Goes (Asks (test_tree c.in-OrOn.rest) ∷ tasks_of c.args.call.now.tasks)))
    (sym c.is_set-in-OrOn.ensures ∙ c.if-is_set-2.false) ∙ ap Goes
    (sym (p ∙ ap (λ t. Asks (test_tree t) ∷ tasks_of c.args.call.now.tasks) c.get-in-OrOn.ensures)))) c.add-in-OrOn.ensures.ok
