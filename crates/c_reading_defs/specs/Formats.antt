-- What the format of `printf` wants (ISO/IEC 9899:2011, 7.21.6.1): `%d %u %x %c`, `%ld %lu` and `%%`.
use Rattle.std.specs.Prelude.{◌≢◌, ◌⊎◌, ◌≡◌, ℕ, true, false, List, [], ◌∷◌}
use Rattle.c_kinds.specs.declared.binding.Want.{Want}
use Rattle.c_kinds.specs.declared.binding.Want.TheVariants.{Sized}

-- behind `%`, for a number of `int` size: `d`, `u`, `x` and `c`
abbrev pub IsShort : ℕ → Type 0
IsShort b = (b ≡ 100) ⊎ (b ≡ 117) ⊎ (b ≡ 120) ⊎ (b ≡ 99)

-- behind `%l`, for one of `long` size: `d` and `u`
abbrev pub IsLong : ℕ → Type 0
IsLong b = (b ≡ 100) ⊎ (b ≡ 117)

-- the bytes are plain ones and conversions, and the conversions want these numbers, in order
pub data IsFormat : List ℕ → List Want → Type 0 where
  ends : IsFormat [] []
  plain : {b : ℕ} {bs : List ℕ} {ws : List Want} → b ≢ 37 → IsFormat bs ws → IsFormat (b ∷ bs) ws
  percent : {bs : List ℕ} {ws : List Want} → IsFormat bs ws → IsFormat (37 ∷ 37 ∷ bs) ws
  short : {b : ℕ} {bs : List ℕ} {ws : List Want} → IsShort b → IsFormat bs ws → IsFormat (37 ∷ b ∷ bs) (Sized false ∷ ws)
  long : {b : ℕ} {bs : List ℕ} {ws : List Want} → IsLong b → IsFormat bs ws → IsFormat (37 ∷ 108 ∷ b ∷ bs) (Sized true ∷ ws)
