-- The bytes of a token, by its number, and the constants that tokens write (ISO/IEC 9899:2011, 6.4.4 and 6.4.5).
use Rattle.std.specs.Prelude.{◌≡◌, ◌-◌, ◌%◌, ◌==◌, ℕ, Bool, cond, ◌&&◌, nat_le, List, [], ◌∷◌, ◌++◌, Option, Some, None, length, take, drop, get_or, slice_get, slice_range, codes}
use Rattle.std.specs.List.{list_any, take_while}
use Rattle.std.specs.Str.{bytes_eq}
use Rattle.c_types.specs.declared.kinds.IntKind.{IntKind}
use Rattle.c_types.specs.declared.kinds.IntKind.TheVariants.{Char, UChar, Int, UInt, Long, ULong}
use Rattle.c_lexer.specs.declared.token.Token.{Token}
use Rattle.c_lexer.specs.Bytes.{is_octal_digit, is_hexadecimal_digit}
use Rattle.c_lexer.specs.Numbers.{value_of}

-- ---- tokens

-- none where the token isn't one of the text
abbrev pub bytes_of : List ℕ → Option Token → List ℕ
bytes_of text None = []
bytes_of text (Some t) = cond (nat_le t.start t.end && nat_le t.end (length text)) (slice_range text t.start t.end) []

-- the bytes of the token with this number
abbrev pub word_of : List ℕ → List Token → ℕ → List ℕ
word_of text tokens at = bytes_of text (slice_get tokens at)

-- ---- the kind that the words of a type name

abbrev pub has_word : (ℕ → List ℕ) → List ℕ → List ℕ → Bool
has_word word tokens w = list_any (λ at. bytes_eq (word at) w) tokens

abbrev pub kind_of : (ℕ → List ℕ) → List ℕ → IntKind
kind_of word tokens =
    cond (has_word word tokens (codes "char")) (cond (has_word word tokens (codes "unsigned")) UChar Char)
    (cond (has_word word tokens (codes "long")) (cond (has_word word tokens (codes "unsigned")) ULong Long)
    (cond (has_word word tokens (codes "unsigned")) UInt Int))

-- ---- characters and escapes

-- the byte that `\` and this byte write
abbrev pub escape_value : ℕ → ℕ
escape_value b =
    cond (b == 97) 7 (cond (b == 98) 8 (cond (b == 116) 9 (cond (b == 110) 10
    (cond (b == 118) 11 (cond (b == 102) 12 (cond (b == 114) 13 b))))))

-- what writes one byte
pub data Element : Type 0 where
  -- a byte that stands for itself
  Itself : ℕ → Element
  -- `\` and this byte
  Simple : ℕ → Element
  -- `\` and octal digits
  Octal : List ℕ → Element
  -- `\x` and hexadecimal digits
  Hexadecimal : List ℕ → Element

-- its bytes
abbrev pub written : Element → List ℕ
written (Itself b) = b ∷ []
written (Simple b) = 92 ∷ b ∷ []
written (Octal ds) = 92 ∷ ds
written (Hexadecimal ds) = 92 ∷ 120 ∷ ds

-- the byte that it writes: of the number of its digits the last eight bits
abbrev pub value : Element → ℕ
value (Itself b) = b
value (Simple b) = escape_value b
value (Octal ds) = value_of 8 ds % 256
value (Hexadecimal ds) = value_of 16 ds % 256

-- the escape of `\` and this byte, in front of those: with as many digits as there are, three octal ones at most
abbrev pub escape : ℕ → List ℕ → Element
escape b w =
    cond (is_octal_digit b) (Octal (take 3 (take_while is_octal_digit (b ∷ w))))
    (cond (b == 120) (Hexadecimal (take_while is_hexadecimal_digit w)) (Simple b))

-- what begins with this byte, in front of those; a `\` in front of nothing stands for itself
abbrev pub first_element : ℕ → List ℕ → Element
first_element b [] = Itself b
first_element b (c ∷ w) = cond (b == 92) (escape c w) (Itself b)

-- these bytes are elements, one behind the other, and those are what each writes
pub data Writes : List ℕ → List ℕ → Type 0 where
  nothing : Writes [] []
  element : (b : ℕ) (w rest bytes : List ℕ) → b ∷ w ≡ written (first_element b w) ++ rest → Writes rest bytes
      → Writes (b ∷ w) (value (first_element b w) ∷ bytes)

-- the bytes between the quotes
abbrev pub within_quotes : List ℕ → List ℕ
within_quotes w = take (length w - 2) (drop 1 w)

-- the byte that the first of these writes
abbrev pub first_value : List ℕ → ℕ
first_value [] = 0
first_value (b ∷ w) = value (first_element b w)

-- the byte of a character constant
abbrev pub character : List ℕ → ℕ
character w = first_value (within_quotes w)

-- a character constant, and no number
abbrev pub is_character : List ℕ → Bool
is_character w = get_or w 0 0 == 39
