use Rattle.std.proofs.Common.{length, refl, ◌∙◌}
use Rattle.flat_items.proofs.SoughtPlaces.{one_more, all_entered}
use Rattle.flat_items.proofs.places.places_of.Goals as goal

pub loop-k-preserved : goal.loop-k-preserved
loop-k-preserved c = λ n. c.in_ok-enter.ensures n ∙ one_more c.args.numbers.now _ c.loop-k.k n _ c.loop-k-test.true (c.loop-k.invariant n)

pub returns : goal.returns
returns c = all_entered (record { table = c.loop-k.table; behind = length c.args.numbers.now }) c.args.numbers.now c.loop-k.k refl c.loop-k-test.false
    c.loop-k.invariant
