use Rattle.std.proofs.Common.{◌+◌, ◌≡◌, suc, false, length, get_or, ap, arith}
use Rattle.tidy_slots.proofs.NumberLaws.{none_counted, one_counted, all_counted}
use Rattle.tidy_slots.proofs.numbers.new_numbers.Goals as goal

pub loop-i-init : goal.loop-i-init
loop-i-init c = none_counted c.args.gone.now c.new-before.result c.new-before.ensures

pub loop-i-preserved : goal.loop-i-preserved
loop-i-preserved c =
    let i = c.loop-i.i in
    let q : i + 1 ≡ suc i = omega arith in
    one_counted c.args.gone.now i (i + 1) c.loop-i.before c.push.new.self c.loop-i.total c.in_ok-total.total
    (get_or c.as_slice-marks.result.now i false) q c.in_ok-push.ensures.ok
    (ap (λ xs. get_or xs i false) c.as_slice-marks.ensures.value) c.in_ok-total.ensures c.loop-i.invariant

pub returns : goal.returns
returns c =
    let e = ap length c.as_slice-marks.ensures.value in
    all_counted c.args.gone.now c.loop-i.i (record { before = c.loop-i.before; total = c.loop-i.total })
    (omega (arith, c.loop-i-test.false, c.loop-i.auto.i-end, e)) c.loop-i.invariant
