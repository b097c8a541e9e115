use Rattle.std.proofs.Common.{◌≡◌, ◌||◌, refl}
use Rattle.c_tree.specs.Trees.{Tree, Forest, Then, Local}
use Rattle.c_tree.proofs.Searches.{found, passed, missed}
use Rattle.tidy_laws.specs.Changes.{has_local}
use Rattle.tidy_loops.specs.Exits.{is_local}
use Rattle.tidy_loops.proofs.ways.has_local.Goals as goal

step : (x : Tree) (xs : Forest) → has_local (Then x xs) ≡ (is_local x || has_local xs)
step (Local x es) xs = refl
step _ xs = refl

pub returns-then-is_local : goal.returns-then-is_local
returns-then-is_local c = found has_local is_local step c.args.items.now c.loop-i.i c.index-items-i.result c.loop-i-test.true c.index-items-i.is
    c.loop-i.invariant c.is_local.result c.is_local.ensures c.if-is_local.true

pub loop-i-preserved : goal.loop-i-preserved
loop-i-preserved c = passed has_local is_local step c.args.items.now c.loop-i.i c.index-items-i.result c.loop-i-test.true c.index-items-i.is
    c.loop-i.invariant c.is_local.result c.is_local.ensures c.if-is_local.false

pub returns : goal.returns
returns c = missed has_local refl c.args.items.now c.loop-i.i c.loop-i-test.false c.loop-i.invariant
