use Rattle.std.proofs.Common.{◌-◌, ◌<◌, ◌≡◌, suc, false, length, get_or, ap, arith}
use Rattle.tidy_slots.proofs.NumberLaws.{none_taken, one_taken, all_taken}
use Rattle.tidy_slots.proofs.numbers.remove_gone.Goals as goal

pub loop-i-init : goal.loop-i-init
loop-i-init c =
    let e = ap length c.as_slice-marks.ensures.value in
    (omega (arith, e), none_taken c.args.gone.now c.args.slots.now (length c.as_slice-marks.result.now) e c.requires)

pub loop-i-preserved : goal.loop-i-preserved
loop-i-preserved c =
    let i = c.loop-i.i in
    let q : i ≡ suc (i - 1) = omega (arith, c.loop-i-test.true) in
    let m : i - 1 < length c.args.gone.now = omega (arith, q, c.loop-i.invariant.0) in (
      omega (arith, m),
      one_taken c.args.gone.now c.args.slots.now c.loop-i.slots c.remove_if.new.slots (i - 1) i (get_or c.as_slice-marks.result.now (i - 1) false) q m
          c.requires
          (ap (λ xs. get_or xs (i - 1) false) c.as_slice-marks.ensures.value) c.remove_if.ensures c.loop-i.invariant.1,
    )

pub returns : goal.returns
returns c = all_taken c.args.gone.now c.args.slots.now c.loop-i.slots c.loop-i.i (omega (arith, c.loop-i-test.false)) c.loop-i.invariant.1
