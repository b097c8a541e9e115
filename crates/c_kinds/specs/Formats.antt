-- What the format of `printf` wants (ISO/IEC 9899:2011, 7.21.6.1): `%d %u %x %c`, `%ld %lu` and `%%`.
use Rattle.std.specs.Prelude.{ℕ, Bool, true, false, cond, ◌||◌, ◌==◌, List, [], ◌∷◌, ◌++◌, Option, Some, None}
use Rattle.c_kinds.specs.declared.binding.Want.{Want}
use Rattle.c_kinds.specs.declared.binding.Want.TheVariants.{Sized}
use Rattle.c_kinds.specs.declared.format.Format.{Format}
use Rattle.c_kinds.specs.declared.format.Format.TheVariants.{Plain, Percent, PercentLong}

-- `d`, `u`, `x` and `c`
abbrev pub is_short : ℕ → Bool
is_short b = b == 100 || b == 117 || b == 120 || b == 99

-- `d` and `u`
abbrev pub is_long : ℕ → Bool
is_long b = b == 100 || b == 117

-- what is open behind a byte, None where the byte can't stand there
abbrev pub next : Format → ℕ → Option Format
next Plain b = Some (cond (b == 37) Percent Plain)
next Percent b = cond (b == 37 || is_short b) (Some Plain) (cond (b == 108) (Some PercentLong) None)
next PercentLong b = cond (is_long b) (Some Plain) None

-- what the conversion that a byte ends wants
abbrev pub ended : Format → ℕ → List Want
ended Plain b = []
ended Percent b = cond (is_short b) (Sized false ∷ []) []
ended PercentLong b = cond (is_long b) (Sized true ∷ []) []

-- what the bytes behind these want, behind what is wanted so far; None where there is another conversion
abbrev pub wanted_from : List Want → Format → List ℕ → Option (List Want)
wanted_from out Plain [] = Some out
wanted_from out _ [] = None
wanted_from out format (b ∷ bs) = elim (next format b) [ None ↦ None | Some behind ↦ wanted_from (out ++ ended format b) behind bs ]

abbrev pub wanted : List ℕ → Option (List Want)
wanted bytes = wanted_from [] Plain bytes
