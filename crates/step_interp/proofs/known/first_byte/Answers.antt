use Rattle.std.proofs.Common.{ap, ◌∙◌}
use Rattle.std.specs.Prelude.{unsigned_abs}
use Rattle.std.specs.Int.{w128}
use Rattle.std.proofs.lemmas.Int.{to_z-of_z}
use Rattle.c_types.specs.declared.kinds.IntKind.TheVariants.{UChar}
use Rattle.c_types.specs.Numbers.{converted, residue}
use Rattle.step_interp.proofs.UnsignedLemmas.{as_char}
use Rattle.step_interp.proofs.known.first_byte.Goals as goal

pub returns : goal.returns
returns c ns =
    ap unsigned_abs (to_z-of_z w128 c.convert.result (record { sfits = c.convert.type_inv }) ∙ c.convert.ensures.value ∙
    ap (converted UChar) (to_z-of_z w128 c.first.result (record { sfits = c.first.type_inv })))
    ∙ as_char c.first.result
    ∙ ap (residue UChar) (c.first.ensures ns)
