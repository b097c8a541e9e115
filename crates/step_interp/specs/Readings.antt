-- Where the reading of a format stands, and what one byte of it adds.
use Rattle.std.specs.Prelude.{◌≡◌, ◌==◌, ℕ, ℤ, cond, List, [], ◌∷◌, ◌++◌}
use Rattle.c_types.specs.declared.kinds.IntKind.TheVariants.{UChar, Int, UInt, Long, ULong}
use Rattle.c_types.specs.Numbers.{residue}
use Rattle.jump_meaning.specs.Known as Known
use Rattle.step_memory.specs.declared.value.Value.{Value}
use Rattle.step_memory.specs.Values.{values_of}
use Rattle.step_interp.specs.declared.formats.Reading.{Reading}
use Rattle.step_interp.specs.declared.formats.Reading.TheVariants.{InText, AfterPercent, AfterL}

abbrev pub reading_of : Reading → Known.Reading
reading_of InText = Known.InText
reading_of AfterPercent = Known.AfterPercent
reading_of AfterL = Known.AfterL

-- a byte of a format is read: these bytes come before what the others print
abbrev pub ReadsByte : Reading → ℕ → Reading → List ℕ → List ℕ → List Value → List Value → Type 0
ReadsByte r b next old new arguments left =
    (ns : List (List ℕ)) (bs : List ℕ) → new ++ Known.printed (reading_of next) bs (values_of ns left) ≡ old ++ Known.printed (reading_of r) (b ∷ bs)
    (values_of ns arguments)

-- what `%` with a byte, and `%l` with a byte, print of a number
abbrev pub short_conversion : ℕ → ℤ → List ℕ
short_conversion b n =
    cond (b == 100) (Known.in_decimal Int n) (cond (b == 117) (Known.in_decimal UInt n) (cond (b == 120) (Known.in_hexadecimal n) (residue UChar n ∷ [])))

abbrev pub long_conversion : ℕ → ℤ → List ℕ
long_conversion b n = cond (b == 100) (Known.in_decimal Long n) (Known.in_decimal ULong n)
