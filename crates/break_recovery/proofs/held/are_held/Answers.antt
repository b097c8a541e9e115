use Rattle.std.proofs.Common.{◌≡◌, ◌⊎◌, length, get_or, ap, subst, arith}
use Rattle.tidy_loops.specs.Slots.{count_in}
use Rattle.break_recovery.specs.Held.{IsHeldBehind}
use Rattle.break_recovery.proofs.HeldLaws.{all_held}
use Rattle.break_recovery.proofs.held.are_held.Goals as goal

pub returns-clause-held : goal.returns-clause-held
returns-clause-held c = λ e.
    let same = c.loop-i.invariant.same in
    let long = ap length same in
    all_held c.args.counts.now c.args.turned.now c.args.list.now c.args.place c.if-turned.false
    (λ i l. subst (λ gs. (count_in c.args.counts.now (get_or gs i 0) ≡ 0) ⊎ IsHeldBehind (get_or gs i 0) c.args.list.now c.args.place) same
    (c.loop-i.invariant.held i (omega (arith, l, long, c.loop-i-test.false))))
