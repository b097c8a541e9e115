-- The classes of bytes that pieces are made of.
use Rattle.std.specs.Prelude.{◌≡◌, ℕ, Bool, false, ◌&&◌, ◌||◌, ◌==◌, not, nat_le, List, [], ◌∷◌, ◌-◌, cond}
use Rattle.c_types.specs.Words.{is_digit, is_word_byte}

abbrev pub between : ℕ → ℕ → ℕ → Bool
between low high b = nat_le low b && nat_le b high

-- space, tab, newline, vertical tab, form feed and carriage return
abbrev pub is_space : ℕ → Bool
is_space b = b == 32 || between 9 13 b

-- space and tab
abbrev pub is_blank : ℕ → Bool
is_blank b = b == 32 || b == 9

abbrev pub is_newline : ℕ → Bool
is_newline b = b == 10

-- white space on a line
abbrev pub is_white : ℕ → Bool
is_white b = is_space b && not (is_newline b)

abbrev pub is_return : ℕ → Bool
is_return b = b == 13

abbrev pub is_octal_digit : ℕ → Bool
is_octal_digit b = between 48 55 b

abbrev pub is_hexadecimal_digit : ℕ → Bool
is_hexadecimal_digit b = is_digit b || between 65 70 b || between 97 102 b

-- what a digit of any base counts
abbrev pub digit_value : ℕ → ℕ
digit_value b = cond (nat_le 97 b) (b - 87) (cond (nat_le 65 b) (b - 55) (b - 48))

-- the letter of an exponent, `e` or `p`
abbrev pub is_power : ℕ → Bool
is_power b = b == 69 || b == 101 || b == 80 || b == 112

-- goes on with the run of a number, directly behind the letter of an exponent or not
abbrev pub is_run_byte : Bool → ℕ → Bool
is_run_byte power b = is_word_byte b || b == 46 || (power && (b == 43 || b == 45))

-- in a text, a byte that stands for itself
abbrev pub is_text_byte : ℕ → Bool
is_text_byte b = not (b == 10) && not (b == 34) && not (b == 92)

-- in a character constant, a byte that stands for itself
abbrev pub is_character_byte : ℕ → Bool
is_character_byte b = between 32 126 b && not (b == 39) && not (b == 92)

-- what may follow the `\` of a simple escape: ' " ? \ a b f n r t v
abbrev pub is_simple_escape : ℕ → Bool
is_simple_escape b = b == 39 || b == 34 || b == 63 || b == 92 || b == 97 || b == 98 || b == 102 || b == 110 || b == 114 || b == 116 || b == 118

-- the bytes begin with none of this class
abbrev pub NotFirst : (ℕ → Bool) → List ℕ → Type 0
NotFirst f [] = Unit {0}
NotFirst f (b ∷ bs) = f b ≡ false
