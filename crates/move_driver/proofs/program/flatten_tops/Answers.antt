use Rattle.std.proofs.Common.{◌≡◌, ◌∙◌, ◌+◌, suc, slice_set, refl, subst, arith}
use Rattle.move_driver.proofs.Programs.{AreFlatTo, starts, one_more, all_flat}
use Rattle.move_driver.proofs.program.flatten_tops.Goals as goal

pub loop-i-init : goal.loop-i-init
loop-i-init c = record { used = refl; taken = refl; flat = λ names file a. starts names file c.args.tops.now }

pub loop-i-preserved : goal.loop-i-preserved
loop-i-preserved c =
    let more : suc c.loop-i.i ≡ c.loop-i.i + 1 = omega arith in
    let inv = c.loop-i.invariant in
    record {
      used = c.flatten_top.ensures.used ∙ inv.used;
      taken = c.flatten_top.ensures.taken ∙ inv.taken;
      flat = λ names file a.
          subst (λ k. AreFlatTo names file k c.args.tops.now (slice_set c.loop-i.tops c.loop-i.i c.flatten_top.new.top)) more
          (one_more names file c.loop-i.i c.args.tops.now c.loop-i.tops c.at_mut.result.now c.flatten_top.new.top c.at_mut.ensures.value
          (c.in_ok-flatten_top.ensures.ok names file (record { used = inv.used ∙ a.used; taken = inv.taken ∙ a.taken })) (inv.flat names file a));
    }

pub returns : goal.returns
returns c names file a = all_flat names file c.loop-i.i c.args.tops.now c.loop-i.tops (omega (arith, c.loop-i-test.false, c.len.ensures.value))
    (c.loop-i.invariant.flat names file a)
