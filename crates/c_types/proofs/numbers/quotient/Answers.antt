use Rattle.std.proofs.Common.{◌∙◌}
use Rattle.c_types.proofs.Results.{quotient_value}
use Rattle.c_types.proofs.numbers.quotient.Goals as goal

pub returns-clause-value : goal.returns-clause-value
returns-clause-value c =
    c.number_or.ensures.value ∙ quotient_value c.args.kind c.args.a c.args.b c.ranges.a c.ranges.b c.requires.left c.if-b-eq0.false
