-- The characters and escapes of character constants and texts.
use Rattle.std.specs.Prelude.{◌≡◌, ℕ, Bool, true, nat_le, List, [], ◌∷◌, ◌++◌}
use Rattle.std.specs.List.{list_all}
use Rattle.c_lexer.specs.Bytes.{is_octal_digit, is_hexadecimal_digit, is_simple_escape, NotFirst}
use Rattle.c_lexer.specs.Numbers.{value_of}

pub data Character : Type 0 where
  -- a byte that stands for itself
  Plain : ℕ → Character
  -- `\` and this byte
  Simple : ℕ → Character
  -- `\` and octal digits, at most three
  OneDigit : ℕ → Character
  TwoDigits : ℕ → ℕ → Character
  ThreeDigits : ℕ → ℕ → ℕ → Character
  -- `\x` and hexadecimal digits, at least one
  Hexadecimal : ℕ → List ℕ → Character

-- the bytes of a character, and then these
abbrev pub written : Character → List ℕ → List ℕ
written (Plain b) r = b ∷ r
written (Simple b) r = 92 ∷ b ∷ r
written (OneDigit a) r = 92 ∷ a ∷ r
written (TwoDigits a b) r = 92 ∷ a ∷ b ∷ r
written (ThreeDigits a b c) r = 92 ∷ a ∷ b ∷ c ∷ r
written (Hexadecimal a ds) r = 92 ∷ 120 ∷ a ∷ ds ++ r

abbrev pub three_digits : ℕ → ℕ → ℕ → ℕ
three_digits a b c = value_of 8 (a ∷ b ∷ c ∷ [])

-- what a character is, where these bytes stand for themselves; the value of an escape is at most 255
abbrev pub IsCharacter : (ℕ → Bool) → Character → Type 0
IsCharacter plain (Plain b) = plain b ≡ true
IsCharacter plain (Simple b) = is_simple_escape b ≡ true
IsCharacter plain (OneDigit a) = is_octal_digit a ≡ true
IsCharacter plain (TwoDigits a b) = (is_octal_digit a ≡ true) × (is_octal_digit b ≡ true)
IsCharacter plain (ThreeDigits a b c) = (is_octal_digit a ≡ true) × (is_octal_digit b ≡ true) × (is_octal_digit c ≡ true) ×
    (nat_le (three_digits a b c) 255 ≡ true)
IsCharacter plain (Hexadecimal a ds) = (list_all is_hexadecimal_digit (a ∷ ds) ≡ true) × (nat_le (value_of 16 (a ∷ ds)) 255 ≡ true)

-- as many digits are taken as there are
abbrev pub TakesDigits : Character → List ℕ → Type 0
TakesDigits (OneDigit a) r = NotFirst is_octal_digit r
TakesDigits (TwoDigits a b) r = NotFirst is_octal_digit r
TakesDigits (Hexadecimal a ds) r = NotFirst is_hexadecimal_digit r
TakesDigits _ r = Unit {0}

abbrev pub written_all : List Character → List ℕ → List ℕ
written_all [] r = r
written_all (c ∷ cs) r = written c (written_all cs r)

abbrev pub AreCharacters : (ℕ → Bool) → List Character → List ℕ → Type 0
AreCharacters plain [] r = Unit {0}
AreCharacters plain (c ∷ cs) r = IsCharacter plain c × TakesDigits c (written_all cs r) × AreCharacters plain cs r
