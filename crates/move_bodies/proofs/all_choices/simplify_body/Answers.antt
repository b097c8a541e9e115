use Rattle.std.proofs.Common.{◌≤◌, ◌++◌, ◌∷◌, [], sym, subst, ◌∙◌}
use Rattle.c_tree.specs.Trees.{trees_of}
use Rattle.c_tree.specs.WellMade.{IsWellMade}
use Rattle.move_laws.specs.MoveRuleLaws.{Keeps}
use Rattle.move_order_laws.specs.Nesting.{nesting}
use Rattle.guard_simplify.specs.Application.{Reaches, none, then}
use Rattle.guard_simplify.proofs.Next.{next_facts, reached_made, reached_keeps}
use Rattle.move_bodies.proofs.ChoiceApplied.{is_next, always_err}
use Rattle.move_bodies.proofs.Levels.{reached_simpler}
use Rattle.move_bodies.proofs.all_choices.simplify_body.Goals as goal

pub loop-next-init : goal.loop-next-init
loop-next-init c = record {
  reaches = subst (λ z. Reaches c.args.body.now z c.args.body.now) (sym c.new-choices.ensures) none;
  next_is = c.in_ok-next.ensures.next;
  marks = c.in_ok-next.ensures.marks;
}

pub returns-in_err-next-clause-well_made : goal.returns-in_err-next-clause-well_made
returns-in_err-next-clause-well_made c = λ w. w

pub returns-in_err-next-clause-behaviour : goal.returns-in_err-next-clause-behaviour
returns-in_err-next-clause-behaviour c = let n : Reaches c.args.body.now [] c.args.body.now = none in reached_keeps n

pub returns-in_err-next-clause-err : goal.returns-in_err-next-clause-err
returns-in_err-next-clause-err c = always_err c.from_residual.result (record { choices = []; reaches = none })

pub returns-in_err-apply-clause-well_made : goal.returns-in_err-apply-clause-well_made
returns-in_err-apply-clause-well_made c = subst (λ z. IsWellMade (trees_of c.args.body.now) → IsWellMade (trees_of z))
    (sym c.in_err-apply.ensures.err) (reached_made c.loop-next.invariant.reaches)

pub returns-in_err-apply-clause-behaviour : goal.returns-in_err-apply-clause-behaviour
returns-in_err-apply-clause-behaviour c = subst (λ z. Keeps c.args.body.now z) (sym c.in_err-apply.ensures.err) (reached_keeps c.loop-next.invariant.reaches)

pub loop-next-smaller : goal.loop-next-smaller
loop-next-smaller c = (next_facts c.in-Some.choice c.loop-next.body c.apply.new.body
    (is_next c.in-Some.choice c.loop-next.body c.apply.new.body (sym c.loop-next.invariant.next_is ∙ c.in-Some.is) c.in_ok-apply.ensures.ok)).smaller

pub loop-next-preserved : goal.loop-next-preserved
loop-next-preserved c =
    let n = is_next c.in-Some.choice c.loop-next.body c.apply.new.body (sym c.loop-next.invariant.next_is ∙ c.in-Some.is) c.in_ok-apply.ensures.ok in
    record {
      reaches = subst (λ z. Reaches c.args.body.now z c.apply.new.body) (sym c.in_ok-push.ensures.ok)
          (then c.in-Some.choice c.loop-next.invariant.reaches n);
      next_is = c.in_ok-next-2.ensures.next;
      marks = c.in_ok-next-2.ensures.marks;
    }

pub returns-in_err-push-clause-well_made : goal.returns-in_err-push-clause-well_made
returns-in_err-push-clause-well_made c =
    let n = is_next c.in-Some.choice c.loop-next.body c.apply.new.body (sym c.loop-next.invariant.next_is ∙ c.in-Some.is) c.in_ok-apply.ensures.ok in
    reached_made (then c.in-Some.choice c.loop-next.invariant.reaches n)

pub returns-in_err-push-clause-behaviour : goal.returns-in_err-push-clause-behaviour
returns-in_err-push-clause-behaviour c =
    let n = is_next c.in-Some.choice c.loop-next.body c.apply.new.body (sym c.loop-next.invariant.next_is ∙ c.in-Some.is) c.in_ok-apply.ensures.ok in
    reached_keeps (then c.in-Some.choice c.loop-next.invariant.reaches n)

pub returns-in_err-push-clause-err : goal.returns-in_err-push-clause-err
returns-in_err-push-clause-err c =
    let n = is_next c.in-Some.choice c.loop-next.body c.apply.new.body (sym c.loop-next.invariant.next_is ∙ c.in-Some.is) c.in_ok-apply.ensures.ok in
    always_err c.from_residual-in_err-push.result
    (record { choices = c.loop-next.choices ++ c.in-Some.choice ∷ []; reaches = then c.in-Some.choice c.loop-next.invariant.reaches n })

pub returns-in_err-next-2-clause-well_made : goal.returns-in_err-next-2-clause-well_made
returns-in_err-next-2-clause-well_made c =
    let n = is_next c.in-Some.choice c.loop-next.body c.apply.new.body (sym c.loop-next.invariant.next_is ∙ c.in-Some.is) c.in_ok-apply.ensures.ok in
    reached_made (then c.in-Some.choice c.loop-next.invariant.reaches n)

pub returns-in_err-next-2-clause-behaviour : goal.returns-in_err-next-2-clause-behaviour
returns-in_err-next-2-clause-behaviour c =
    let n = is_next c.in-Some.choice c.loop-next.body c.apply.new.body (sym c.loop-next.invariant.next_is ∙ c.in-Some.is) c.in_ok-apply.ensures.ok in
    reached_keeps (then c.in-Some.choice c.loop-next.invariant.reaches n)

pub returns-in_err-next-2-clause-err : goal.returns-in_err-next-2-clause-err
returns-in_err-next-2-clause-err c =
    let n = is_next c.in-Some.choice c.loop-next.body c.apply.new.body (sym c.loop-next.invariant.next_is ∙ c.in-Some.is) c.in_ok-apply.ensures.ok in
    always_err c.from_residual-in_err-next-2.result
    (record { choices = c.loop-next.choices ++ c.in-Some.choice ∷ []; reaches = then c.in-Some.choice c.loop-next.invariant.reaches n })

pub returns-clause-well_made : goal.returns-clause-well_made
returns-clause-well_made c = reached_made c.loop-next.invariant.reaches

pub returns-clause-behaviour : goal.returns-clause-behaviour
returns-clause-behaviour c = reached_keeps c.loop-next.invariant.reaches

pub next_choice-requires : goal.next_choice-requires
next_choice-requires c =
    record {
      old = c.loop-next.body;
      next = is_next c.in-Some.choice c.loop-next.body c.apply.new.body
          (sym c.loop-next.invariant.next_is ∙ c.in-Some.is) c.in_ok-apply.ensures.ok;
      marks = c.loop-next.invariant.marks;
    }

pub returns-in_err-next-clause-levels : goal.returns-in_err-next-clause-levels
returns-in_err-next-clause-levels c = let n : Reaches c.args.body.now [] c.args.body.now = none in reached_simpler n

pub returns-in_err-apply-clause-levels : goal.returns-in_err-apply-clause-levels
returns-in_err-apply-clause-levels c = subst (λ z. nesting (trees_of z) ≤ nesting (trees_of c.args.body.now)) (sym c.in_err-apply.ensures.err)
    (reached_simpler c.loop-next.invariant.reaches)

pub returns-in_err-push-clause-levels : goal.returns-in_err-push-clause-levels
returns-in_err-push-clause-levels c =
    let n = is_next c.in-Some.choice c.loop-next.body c.apply.new.body (sym c.loop-next.invariant.next_is ∙ c.in-Some.is) c.in_ok-apply.ensures.ok in
    reached_simpler (then c.in-Some.choice c.loop-next.invariant.reaches n)

pub returns-in_err-next-2-clause-levels : goal.returns-in_err-next-2-clause-levels
returns-in_err-next-2-clause-levels c =
    let n = is_next c.in-Some.choice c.loop-next.body c.apply.new.body (sym c.loop-next.invariant.next_is ∙ c.in-Some.is) c.in_ok-apply.ensures.ok in
    reached_simpler (then c.in-Some.choice c.loop-next.invariant.reaches n)

pub returns-clause-levels : goal.returns-clause-levels
returns-clause-levels c = reached_simpler c.loop-next.invariant.reaches
