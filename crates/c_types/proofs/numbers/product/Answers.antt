use Rattle.std.proofs.Common.{◌∙◌, sym, ap}
use Rattle.std.specs.Prelude.{Ok}
use Rattle.std.specs.Int.{w128}
use Rattle.std.proofs.lemmas.Int.{to_z-of_z}
use Rattle.c_types.proofs.Results.{product_value, wrapped_product, is_unsigned}
use Rattle.c_types.proofs.numbers.product.Goals as goal

pub returns-then-is_signed-clause-value : goal.returns-then-is_signed-clause-value
returns-then-is_signed-clause-value c =
    c.number_or.ensures.value
    ∙ product_value c.args.kind c.args.a c.args.b c.ranges.a c.ranges.b c.requires.left c.requires.right (sym c.is_signed.ensures ∙ c.if-is_signed.true)

pub returns-else-is_signed-clause-value : goal.returns-else-is_signed-clause-value
returns-else-is_signed-clause-value c =
    let s = sym c.is_signed.ensures ∙ c.if-is_signed.false in
    ap Ok (to_z-of_z w128 c.convert.result (record { sfits = c.convert.type_inv }) ∙ c.convert.ensures.value)
    ∙ wrapped_product c.args.kind c.args.a c.args.b s (is_unsigned c.args.kind c.args.a s c.requires.left) (is_unsigned c.args.kind c.args.b s c.requires.right)
