use Rattle.std.proofs.Common.{arith}
use Rattle.label_offsets.proofs.PlaceLaws.{around_none, around_more, around_all}
use Rattle.label_offsets.proofs.search.place_around.Goals as goal

pub loop-far-init : goal.loop-far-init
loop-far-init c = (omega (arith, c.min-middle.ensures), λ p. around_none c.args.label c.min-middle.result c.args.items.now)

pub loop-far-preserved : goal.loop-far-preserved
loop-far-preserved c = (
  c.loop-far.invariant.0,
  λ p.
      let before = (rw c.in_default-2.is at c.in_ok-path-2.ensures.none) p in
      around_more c.args.label c.min-middle.result c.loop-far.far c.args.items.now (c.loop-far.invariant.1 p)
      ((rw c.in_default.is at c.in_ok-path.ensures.none) p) (rw c.saturating_sub.ensures at before),
)

pub returns-clause-none : goal.returns-clause-none
returns-clause-none c = λ p. around_all c.args.label c.min-middle.result c.loop-far.far c.args.items.now c.loop-far.invariant.0 c.loop-far-test.false
    (c.loop-far.invariant.1 p)
