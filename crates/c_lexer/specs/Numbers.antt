-- Integer constants: a prefix that says the base, digits, and a suffix.
use Rattle.std.specs.Prelude.{ℕ, Bool, true, false, cond, ◌&&◌, ◌||◌, ◌==◌, ◌+◌, ◌*◌, ◌^◌, pos, int_le, List, [], ◌∷◌, length, drop, find, Option, Some, None, option_map}
use Rattle.std.specs.List.{prefix_len, take_while}
use Rattle.c_types.specs.declared.kinds.Base.{Base}
use Rattle.c_types.specs.declared.kinds.Base.TheVariants.{Decimal, Octal, Hex}
use Rattle.c_types.specs.declared.kinds.Suffix.{Suffix}
use Rattle.c_types.specs.declared.kinds.Suffix.TheVariants.{Plain, U, L, UL}
use Rattle.c_types.specs.declared.kinds.IntKind.{IntKind}
use Rattle.c_types.specs.Numbers.{greatest, constant_kinds}
use Rattle.c_lexer.specs.declared.number.Integer.{Integer}
use Rattle.c_types.specs.Words.{is_digit}
use Rattle.c_lexer.specs.Bytes.{is_octal_digit, is_hexadecimal_digit, digit_value, is_power, is_run_byte}

-- the byte behind this one, if there is one, goes on with the run of a number: a sign only behind the letter of
-- an exponent
abbrev pub goes_on : ℕ → List ℕ → Bool
goes_on a [] = true
goes_on a (b ∷ _) = is_run_byte (is_power a) b

-- each byte goes on with the run behind the one before it
abbrev pub continues : List ℕ → Bool
continues [] = true
continues (a ∷ w) = goes_on a w && continues w

-- a digit, and what goes on with its run
abbrev pub is_run : List ℕ → Bool
is_run [] = false
is_run (b ∷ w) = is_digit b && continues (b ∷ w)

-- the last byte is the letter of an exponent
abbrev pub ends_with_power : List ℕ → Bool
ends_with_power [] = false
ends_with_power (b ∷ []) = is_power b
ends_with_power (a ∷ b ∷ w) = ends_with_power (b ∷ w)

abbrev pub radix : Base → ℕ
radix Decimal = 10
radix Octal = 8
radix Hex = 16

abbrev pub is_digit_of : Base → ℕ → Bool
is_digit_of Decimal b = is_digit b
is_digit_of Octal b = is_octal_digit b
is_digit_of Hex b = is_hexadecimal_digit b

-- `0x` and `0X` begin a hexadecimal constant, any other 0 an octal one
abbrev pub base_of : List ℕ → Base
base_of [] = Decimal
base_of (b ∷ []) = cond (b == 48) Octal Decimal
base_of (b ∷ c ∷ _) = cond (b == 48) (cond (c == 120 || c == 88) Hex Octal) Decimal

abbrev pub behind_prefix : Base → List ℕ → List ℕ
behind_prefix Hex w = drop 2 w
behind_prefix _ w = w

-- `u`, `l`, `ul` or `lu`, each letter in either case, or nothing
abbrev pub is_u : ℕ → Bool
is_u b = b == 117 || b == 85

abbrev pub is_l : ℕ → Bool
is_l b = b == 108 || b == 76

abbrev pub suffix_of : List ℕ → Option Suffix
suffix_of [] = Some Plain
suffix_of (b ∷ []) = cond (is_u b) (Some U) (cond (is_l b) (Some L) None)
suffix_of (b ∷ c ∷ []) = cond ((is_u b && is_l c) || (is_l b && is_u c)) (Some UL) None
suffix_of _ = None

-- the number that these digits write: each counts by its place, its value times the base once for each digit
-- behind it
abbrev pub value_of : ℕ → List ℕ → ℕ
value_of base [] = 0
value_of base (d ∷ ds) = digit_value d * base ^ length ds + value_of base ds

-- the kind of a constant with this value: the first of its list that holds it
abbrev pub kind_of : Base → Suffix → ℕ → Option IntKind
kind_of base suffix value = find (λ kind. int_le (pos value) (greatest kind)) (constant_kinds base suffix)

abbrev pub integer_from : Base → List ℕ → Option Suffix → Option Integer
integer_from base [] _ = None
integer_from base _ None = None
integer_from base (d ∷ ds) (Some suffix) =
    let value = value_of (radix base) (d ∷ ds) in
    option_map (λ kind. record { kind = kind; value = value }) (kind_of base suffix value)

-- what a run of these bytes is as an integer constant, if it is one
abbrev pub integer_of : List ℕ → Option Integer
integer_of w =
    let base = base_of w in
    let v = behind_prefix base w in
    integer_from base (take_while (is_digit_of base) v) (suffix_of (drop (prefix_len (is_digit_of base) v) v))
