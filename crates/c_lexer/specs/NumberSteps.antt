-- How the code reads a number, byte by byte.
use Rattle.std.specs.Prelude.{ℕ, Bool, true, ◌&&◌, ◌+◌, ◌*◌, List, [], ◌∷◌}
use Rattle.c_lexer.specs.Bytes.{digit_value, is_power, is_run_byte}

-- these bytes go on with a run, behind the letter of an exponent or not
abbrev pub continues_from : Bool → List ℕ → Bool
continues_from power [] = true
continues_from power (b ∷ w) = is_run_byte power b && continues_from (is_power b) w

-- the last of these bytes is such a letter, or else the byte before them
abbrev pub power_from : Bool → List ℕ → Bool
power_from power [] = power
power_from power (b ∷ w) = power_from (is_power b) w

-- the number that these digits write behind the number before
abbrev pub value_from : ℕ → ℕ → List ℕ → ℕ
value_from base before [] = before
value_from base before (d ∷ ds) = value_from base (before * base + digit_value d) ds
