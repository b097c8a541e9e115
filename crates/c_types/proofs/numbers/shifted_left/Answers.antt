use Rattle.std.proofs.Common.{◌∙◌, sym, ap}
use Rattle.std.specs.Prelude.{Ok}
use Rattle.std.specs.Int.{w128}
use Rattle.std.proofs.lemmas.Int.{to_z-of_z}
use Rattle.c_types.proofs.Results.{is_unsigned, wrapped_shift, shift_value}
use Rattle.c_types.proofs.numbers.shifted_left.Goals as goal

pub returns-then-not-is_signed-clause-value : goal.returns-then-not-is_signed-clause-value
returns-then-not-is_signed-clause-value c =
    let s = sym c.is_signed.ensures ∙ c.if-not-is_signed.true in
    ap Ok (to_z-of_z w128 c.convert.result (record { sfits = c.convert.type_inv }) ∙ c.convert.ensures.value)
    ∙ wrapped_shift c.args.kind c.args.a c.args.b c.in-Some.count c.ranges.b c.in-Some.ensures s (is_unsigned c.args.kind c.args.a s c.requires)

pub returns-clause-value : goal.returns-clause-value
returns-clause-value c =
    c.number_or.ensures.value
    ∙ shift_value c.args.kind c.args.a c.args.b c.in-Some.count c.ranges.b c.in-Some.ensures c.requires c.if-a-lt0.false c.ranges.a
