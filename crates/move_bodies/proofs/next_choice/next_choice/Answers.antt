use Rattle.std.proofs.Common.{ℕ, Bool, List, sym, ap, ◌∙◌}
use Rattle.std.proofs.lemmas.Result.{IfOk-weaker}
use Rattle.std.proofs.Math.Path.{fun_ext}
use Rattle.guard_simplify.specs.Choice.{has}
use Rattle.guard_simplify.specs.Later.{first_from}
use Rattle.move_bodies.proofs.ChoiceApplied.{always_ok}
use Rattle.move_bodies.proofs.OnwardPlaces.{same_bars, goes_on_from}
use Rattle.move_bodies.proofs.next_choice.next_choice.Goals as goal

pub returns-then-goes_on-clause-next : goal.returns-then-goes_on-clause-next
returns-then-goes_on-clause-next c =
    let p = c.args.last.now in
    let body = c.args.body.now in
    IfOk-weaker c.choice_from.result _ _ (λ r e. e ∙ ap (λ (z : List ℕ). first_from (λ l. has l z) body p.path.steps p.path.item) c.as_slice.ensures.value
    ∙ ap (λ (f : ℕ → Bool). first_from f body p.path.steps p.path.item) (fun_ext c.requires.marks) ∙
    goes_on_from p c.requires.old body c.requires.next (c.goes_on.ensures c.if-goes_on.true)) c.choice_from.ensures

pub returns-then-goes_on-clause-marks : goal.returns-then-goes_on-clause-marks
returns-then-goes_on-clause-marks c =
    let g = c.goes_on.ensures c.if-goes_on.true in
    always_ok c.choice_from.result (λ l. c.requires.marks l ∙ sym (same_bars c.args.last.now c.requires.old c.args.body.now c.requires.next g l))
