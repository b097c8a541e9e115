use Rattle.std.proofs.Common.{◌≡◌, ◌∙◌, sym, ap, ℤ}
use Rattle.std.specs.Prelude.{Ok, Result}
use Rattle.std.specs.Int.{w128}
use Rattle.std.proofs.lemmas.Int.{to_z-of_z}
use Rattle.c_types.specs.declared.kinds.ArithOp.{ArithOp}
use Rattle.c_types.specs.declared.kinds.ArithOp.TheVariants.{Add, Sub, And, Or, Xor}
use Rattle.c_types.specs.declared.kinds.IntKind.{IntKind}
use Rattle.c_types.specs.declared.trap.Trap.{Trap}
use Rattle.c_types.specs.declared.trap.Trap.TheVariants.{Overflow}
use Rattle.c_types.specs.Numbers.{is_shift, number_or, arith_result}
use Rattle.c_types.proofs.Results.{sum_value, difference_value, and_value, or_value, xor_value}
use Rattle.c_types.proofs.numbers.arith.Goals as goal

-- the result at the mark that the operation is
at_mark : (k : IntKind) (a b : ℤ) (op mark : ArithOp) → op ≡ mark → (r : Result ℤ Trap) → r ≡ arith_result mark k a b → r ≡ arith_result op k a b
at_mark k a b op mark e r h = h ∙ ap (λ o. arith_result o k a b) (sym e)

pub returns-in-Add-clause-value : goal.returns-in-Add-clause-value
unfolding arith_result
returns-in-Add-clause-value c =
    at_mark c.args.kind c.args.a c.args.b c.args.op Add c.in-Add.is c.number_or.result
    (c.number_or.ensures.value ∙ ap (number_or Overflow c.args.kind)
    (sum_value c.args.kind c.args.a c.args.b c.ranges.a c.ranges.b c.requires.left (c.requires.right (ap is_shift c.in-Add.is))))

pub returns-in-Sub-clause-value : goal.returns-in-Sub-clause-value
unfolding arith_result
returns-in-Sub-clause-value c =
    at_mark c.args.kind c.args.a c.args.b c.args.op Sub c.in-Sub.is c.number_or-in-Sub.result
    (c.number_or-in-Sub.ensures.value ∙ ap (number_or Overflow c.args.kind)
    (difference_value c.args.kind c.args.a c.args.b c.ranges.a c.ranges.b c.requires.left (c.requires.right (ap is_shift c.in-Sub.is))))

pub returns-in-And-clause-value : goal.returns-in-And-clause-value
unfolding arith_result
returns-in-And-clause-value c =
    at_mark c.args.kind c.args.a c.args.b c.args.op And c.in-And.is _
    (ap Ok (to_z-of_z w128 c.convert.result (record { sfits = c.convert.type_inv }) ∙ c.convert.ensures.value ∙
    and_value c.args.kind c.args.a c.args.b c.ranges.a c.ranges.b))

pub returns-in-Or-clause-value : goal.returns-in-Or-clause-value
unfolding arith_result
returns-in-Or-clause-value c =
    at_mark c.args.kind c.args.a c.args.b c.args.op Or c.in-Or.is _
    (ap Ok (to_z-of_z w128 c.convert-in-Or.result (record { sfits = c.convert-in-Or.type_inv }) ∙ c.convert-in-Or.ensures.value ∙
    or_value c.args.kind c.args.a c.args.b c.ranges.a c.ranges.b))

pub returns-in-Xor-clause-value : goal.returns-in-Xor-clause-value
unfolding arith_result
returns-in-Xor-clause-value c =
    at_mark c.args.kind c.args.a c.args.b c.args.op Xor c.in-Xor.is _
    (ap Ok (to_z-of_z w128 c.convert-in-Xor.result (record { sfits = c.convert-in-Xor.type_inv }) ∙ c.convert-in-Xor.ensures.value ∙
    xor_value c.args.kind c.args.a c.args.b c.ranges.a c.ranges.b))
