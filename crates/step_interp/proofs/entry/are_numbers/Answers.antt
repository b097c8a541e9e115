use Rattle.std.proofs.Common.{IsNone, refl, sym, subst, arith}
use Rattle.step_interp.proofs.EntryLemmas.{taken_slot, short_of, numbers_more}
use Rattle.step_interp.proofs.entry.are_numbers.Goals as goal

pub returns-then-at-count : goal.returns-then-at-count
returns-then-at-count c = (
  λ t k d l. subst (λ x. IsNone x.cells) (sym (taken_slot c.args.slots.now c.args.count k d l))
      (c.loop-at.invariant k d (omega (arith, short_of c.args.slots.now c.args.count k l, c.if-at-count.true))),
  λ a. refl,
)

pub loop-at-preserved : goal.loop-at-preserved
loop-at-preserved c k d l =
    numbers_more c.args.slots.now c.loop-at.at c.index-slots-at.result c.loop-at-test.true c.index-slots-at.is (sym c.if-is_some.ensures)
    c.loop-at.invariant k d l
