use Rattle.std.proofs.Common.{refl}
use Rattle.c_tree.proofs.Searches.{found, passed, missed}
use Rattle.tidy_laws.specs.Tails.{is_check}
use Rattle.tidy_loops.specs.Exits.{has_check}
use Rattle.tidy_loops.proofs.ways.has_check.Goals as goal

pub returns-then-is_check : goal.returns-then-is_check
returns-then-is_check c =
    found (has_check c.args.slot) (is_check c.args.slot) (λ x xs. refl) c.args.items.now c.loop-i.i c.index-items-i.result c.loop-i-test.true
    c.index-items-i.is c.loop-i.invariant c.is_check.result c.is_check.ensures c.if-is_check.true

pub loop-i-preserved : goal.loop-i-preserved
loop-i-preserved c =
    passed (has_check c.args.slot) (is_check c.args.slot) (λ x xs. refl) c.args.items.now c.loop-i.i c.index-items-i.result c.loop-i-test.true
    c.index-items-i.is c.loop-i.invariant c.is_check.result c.is_check.ensures c.if-is_check.false

pub returns : goal.returns
returns c = missed (has_check c.args.slot) refl c.args.items.now c.loop-i.i c.loop-i-test.false c.loop-i.invariant
