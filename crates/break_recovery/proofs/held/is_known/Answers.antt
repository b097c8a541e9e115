use Rattle.std.proofs.Common.{sym, subst}
use Rattle.break_recovery.specs.Held.{AreHeld}
use Rattle.break_recovery.proofs.HeldLaws.{known_held}
use Rattle.break_recovery.proofs.held.is_known.Goals as goal

pub loop-i-init : goal.loop-i-init
loop-i-init c = c.as_slice-all.ensures.value

pub returns-then-place-held : goal.returns-then-place-held
returns-then-place-held c = λ r xs a.
    known_held c.as_slice-all.result.now xs c.args.place c.loop-i.i (record { slot = 0; place = 0 }) c.args.slot c.loop-i-test.true
    c.if-held-slot.true c.if-place-held.true (subst (λ hs. AreHeld hs xs c.args.place) (sym c.loop-i.invariant) a)

pub loop-i-preserved : goal.loop-i-preserved
loop-i-preserved c = c.loop-i.invariant
