-- How the code finds the bytes of Words: what is open behind each byte.
use Rattle.std.specs.Prelude.{◌+◌, ◌*◌, ◌%◌, ◌==◌, ℕ, cond, ◌&&◌, nat_lt, List, [], ◌∷◌, ◌++◌}
use Rattle.c_lexer.specs.Bytes.{is_octal_digit, is_hexadecimal_digit, digit_value}
use Rattle.c_grammar.specs.declared.decoding.Decoding.{Decoding}
use Rattle.c_grammar.specs.declared.decoding.Decoding.TheVariants.{Plain, Backslash, Octal, Hexadecimal}
use Rattle.c_grammar.specs.Words.{escape_value, within_quotes}

-- what is open behind a byte, and the bytes that are finished by then
abbrev pub Taken : Type 0
Taken = Decoding × List ℕ

abbrev pub plain : ℕ → Taken
plain b = cond (b == 92) (Backslash, []) (Plain, b ∷ [])

abbrev pub behind_value : ℕ → Taken → Taken
behind_value v taken = (taken.0, v ∷ taken.1)

abbrev pub decode : Decoding → ℕ → Taken
decode Plain b = plain b
decode Backslash b =
    cond (is_octal_digit b) (Octal 1 (digit_value b), [])
    (cond (b == 120) (Hexadecimal 0, []) (Plain, escape_value b ∷ []))
decode (Octal n v) b = cond (nat_lt n 3 && is_octal_digit b) (Octal (n + 1) ((v * 8 + digit_value b) % 256), []) (behind_value v (plain b))
decode (Hexadecimal v) b = cond (is_hexadecimal_digit b) (Hexadecimal ((v * 16 + digit_value b) % 256), []) (behind_value v (plain b))

-- the byte of what is not ended
abbrev pub left : Decoding → List ℕ
left Plain = []
left Backslash = 92 ∷ []
left (Octal n v) = v ∷ []
left (Hexadecimal v) = v ∷ []

abbrev pub decoded_from : Decoding → List ℕ → List ℕ
decoded_from pending [] = left pending
decoded_from pending (b ∷ bs) = let taken = decode pending b in taken.1 ++ decoded_from taken.0 bs

-- the bytes that a character constant or a text writes
abbrev pub decoded : List ℕ → List ℕ
decoded w = decoded_from Plain (within_quotes w)
