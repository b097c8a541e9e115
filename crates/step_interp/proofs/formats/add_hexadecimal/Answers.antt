use Rattle.std.proofs.Common.{◌≡◌, ◌++◌, false, ap, ◌∙◌, subst}
use Rattle.std.specs.Fmt.{digits}
use Rattle.std.specs.Option.{IfSome}
use Rattle.std.specs.String.{string_bytes}
use Rattle.std.specs.Prelude.{unsigned_abs}
use Rattle.std.specs.Int.{w128}
use Rattle.std.proofs.lemmas.Int.{to_z-of_z}
use Rattle.std.proofs.lemmas.Result.{on_ok_weaker}
use Rattle.c_types.specs.declared.kinds.IntKind.TheVariants.{UInt}
use Rattle.c_types.specs.Numbers.{converted}
use Rattle.step_interp.proofs.UnsignedLemmas.{as_word}
use Rattle.step_interp.proofs.formats.add_hexadecimal.Goals as goal

pub returns : goal.returns
returns c = record {
  ok = on_ok_weaker c.add_bytes.result
      (λ e. e
      ∙ ap (λ bs. c.args.text.now ++ bs)
      (c.as_bytes.ensures.value ∙ subst (λ o. IfSome o (λ bs. string_bytes c.in_ok-digits.digits ≡ bs)) c.in_radix.ensures c.in_ok-digits.ensures.ok
      ∙ ap (λ z. digits 16 false (unsigned_abs z))
      (to_z-of_z w128 c.convert.result (record { sfits = c.convert.type_inv }) ∙ c.convert.ensures.value ∙
      ap (converted UInt) (to_z-of_z w128 c.args.number c.ranges.number))
      ∙ ap (digits 16 false) (as_word c.args.number))) c.add_bytes.ensures.ok;
}
