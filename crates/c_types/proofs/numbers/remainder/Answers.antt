use Rattle.c_types.proofs.Results.{remainder_overflow, remainder_value, remainder_in_range}
use Rattle.c_types.proofs.numbers.remainder.Goals as goal

pub returns-then-not-contains-clause-value : goal.returns-then-not-contains-clause-value
returns-then-not-contains-clause-value c =
    remainder_overflow c.args.kind c.args.a c.args.b c.ranges.a c.ranges.b c.requires.left c.if-b-eq0.false c.contains.result c.contains.ensures.value
    c.if-not-contains.true

pub returns-clause-value : goal.returns-clause-value
returns-clause-value c =
    remainder_value c.args.kind c.args.a c.args.b c.ranges.a c.ranges.b c.requires.left c.if-b-eq0.false c.contains.result c.contains.ensures.value
    c.if-not-contains.false

pub returns-clause-in_range : goal.returns-clause-in_range
returns-clause-in_range c =
    remainder_in_range c.args.kind c.args.a c.args.b c.ranges.a c.ranges.b c.requires.left
