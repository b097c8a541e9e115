use Rattle.move_bodies.proofs.Lawfuls.{none_named, other_name, other_place, not_both}
use Rattle.move_bodies.proofs.lawful.lawful_choice.Goals as goal

pub returns-in_default-clause-none : goal.returns-in_default-clause-none
returns-in_default-clause-none c = none_named c.args.body.now c.args.labels.now c.args.step.now (rw c.in_default.is at c.in_ok-choice.ensures.none)

pub returns-then-not-has_name-clause-none : goal.returns-then-not-has_name-clause-none
returns-then-not-has_name-clause-none c =
    other_name c.args.body.now c.args.labels.now c.args.step.now c.in-Some.choice (rw c.in-Some.is at c.in_ok-choice.ensures.some)
    (λ e. not_both c.has_name.result c.if-not-has_name.true (c.has_name.ensures.1 e))

pub returns-else-branch-clause-none : goal.returns-else-branch-clause-none
returns-else-branch-clause-none c =
    other_place c.args.body.now c.args.labels.now c.args.step.now c.in-Some.choice (rw c.in-Some.is at c.in_ok-choice.ensures.some)
    (λ e. not_both c.in_ok-is_first_place.field-0 c.if-branch.false (c.in_ok-is_first_place.ensures.1 e))
