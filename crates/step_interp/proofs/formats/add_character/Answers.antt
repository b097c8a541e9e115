use Rattle.std.proofs.Common.{[], ◌∷◌, ◌++◌, ap, ◌∙◌}
use Rattle.std.specs.Prelude.{unsigned_abs}
use Rattle.std.specs.Int.{w128}
use Rattle.std.proofs.lemmas.Int.{to_z-of_z}
use Rattle.std.proofs.lemmas.Result.{on_ok_weaker}
use Rattle.c_types.specs.declared.kinds.IntKind.TheVariants.{UChar}
use Rattle.c_types.specs.Numbers.{converted}
use Rattle.step_interp.proofs.UnsignedLemmas.{as_char}
use Rattle.step_interp.proofs.formats.add_character.Goals as goal

pub returns : goal.returns
returns c = record {
  ok = on_ok_weaker c.push.result
      (λ e. e
      ∙ ap (λ z. c.args.text.now ++ unsigned_abs z ∷ [])
      (to_z-of_z w128 c.convert.result (record { sfits = c.convert.type_inv }) ∙ c.convert.ensures.value ∙
      ap (converted UChar) (to_z-of_z w128 c.args.number c.ranges.number))
      ∙ ap (λ b. c.args.text.now ++ b ∷ []) (as_char c.args.number)) c.push.ensures.ok;
}
