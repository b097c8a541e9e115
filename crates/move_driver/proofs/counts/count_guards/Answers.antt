use Rattle.std.proofs.Common.{arith}
use Rattle.move_driver.proofs.Guards.{none_left, none_beside}
use Rattle.move_driver.proofs.counts.count_guards.Goals as goal

pub returns-then-i-plain : goal.returns-then-i-plain
returns-then-i-plain c =
    let none = none_beside c.args.before.now c.args.plain.now c.loop-i.i c.if-i-plain.true in
    let all = c.loop-i.invariant.1 in
    let few = c.loop-i.invariant.0 in
    omega (arith, none, all, few)

pub returns : goal.returns
returns c =
    let none = none_left c.args.before.now c.args.plain.now c.loop-i.i c.loop-i-test.false in
    let all = c.loop-i.invariant.1 in
    let few = c.loop-i.invariant.0 in
    omega (arith, none, all, few)
