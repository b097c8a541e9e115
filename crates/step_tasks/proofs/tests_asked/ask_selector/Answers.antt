use Rattle.std.proofs.Common.{cond, ◌∷◌, ap, sym, ◌∙◌}
use Rattle.std.proofs.lemmas.Result.{on_ok_weaker}
use Rattle.c_types.specs.Numbers.{promoted}
use Rattle.c_tree.specs.ExpressionTrees.{expression_tree}
use Rattle.c_tree.specs.TestTrees.{selector_tree}
use Rattle.c_tree.proofs.ExpressionLaws.{selector-Source, selector-Pick}
use Rattle.jump_meaning.specs.Effects.{Computes, Converts}
use Rattle.jump_meaning.specs.Tasks.{AsksSelector, Works}
use Rattle.jump_meaning.specs.Step.{Goes, Yields, view}
use Rattle.step_tasks.specs.Controls.{body_of, guards_of}
use Rattle.step_tasks.specs.Tasks.{tasks_of}
use Rattle.jump_meaning.specs.Operations.{operand_kind}
use Rattle.step_tasks.proofs.NodeEffects.{kind_is}
use Rattle.step_tasks.proofs.ControlLemmas.{goes, yields}
use Rattle.step_tasks.proofs.tests_asked.ask_selector.Goals as goal

pub returns-in-Source-clause-ok : goal.returns-in-Source-clause-ok
returns-in-Source-clause-ok c =
    on_ok_weaker c.add_two.result (λ p. goes (AsksSelector (selector_tree c.args.selector.now)) c.args.call.now c.add_two.new.tasks
    (ap (λ x. view (body_of c.args.call.now.function.now) (guards_of c.args.call.now.guards) (AsksSelector x ∷ tasks_of c.args.call.now.tasks))
    (ap selector_tree c.in-Source.is ∙ selector-Source c.in-Source.e) ∙
    ap Goes (sym (p ∙ ap (λ k. Works (Computes (expression_tree c.in-Source.e)) ∷ Works (Converts k) ∷ tasks_of c.args.call.now.tasks)
    (c.promote-kind.ensures ∙ ap promoted (c.operand_kind.ensures ∙ ap operand_kind (sym (kind_is c.in-Source.e)))))))) c.add_two.ensures.ok

pub returns-then-is_set-clause-ok : goal.returns-then-is_set-clause-ok
returns-then-is_set-clause-ok c =
    on_ok_weaker c.leave_constant.result (λ p. yields (AsksSelector (selector_tree c.args.selector.now)) c.args.call.now c.leave_constant.new.values
    (c.in-Pick.number) (ap (λ x. view (body_of c.args.call.now.function.now) (guards_of c.args.call.now.guards)
    (AsksSelector x ∷ tasks_of c.args.call.now.tasks)) (ap selector_tree c.in-Pick.is ∙
    selector-Pick c.in-Pick.label c.in-Pick.number c.in-Pick.rest) ∙
    ap (λ b. cond b (Yields c.in-Pick.number (tasks_of c.args.call.now.tasks))
    (Goes (AsksSelector (selector_tree c.in-Pick.rest) ∷ tasks_of c.args.call.now.tasks))) (sym c.is_set.ensures ∙ c.if-is_set.true)) p)
    c.leave_constant.ensures.ok

pub returns-else-is_set-clause-ok : goal.returns-else-is_set-clause-ok
returns-else-is_set-clause-ok c =
    on_ok_weaker c.add.result (λ p. goes (AsksSelector (selector_tree c.args.selector.now)) c.args.call.now c.add.new.tasks
    (ap (λ x. view (body_of c.args.call.now.function.now) (guards_of c.args.call.now.guards) (AsksSelector x ∷ tasks_of c.args.call.now.tasks))
    (ap selector_tree c.in-Pick.is ∙ selector-Pick c.in-Pick.label c.in-Pick.number c.in-Pick.rest) ∙
    ap (λ b. cond b (Yields c.in-Pick.number (tasks_of c.args.call.now.tasks))
    (Goes (AsksSelector (selector_tree c.in-Pick.rest) ∷ tasks_of c.args.call.now.tasks))) (sym c.is_set.ensures ∙ c.if-is_set.false) ∙
    ap Goes (sym (p ∙ ap (λ t. AsksSelector (selector_tree t) ∷ tasks_of c.args.call.now.tasks) c.get.ensures)))) c.add.ensures.ok
