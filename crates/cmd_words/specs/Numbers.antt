-- The numbers of a command.
use Rattle.std.specs.Prelude.{ℕ, Bool, false, ◌&&◌, nat_le, List, [], ◌∷◌, length, Option, Some, None, if◌then◌else◌}
use Rattle.std.specs.Str.{all_ascii_digits}
use Rattle.std.specs.Str.Parse.{digits_value}

-- 1 to 18 decimal digits
abbrev pub spells_number : List ℕ → Bool
spells_number [] = false
spells_number (d ∷ ds) = nat_le (length (d ∷ ds)) 18 && all_ascii_digits (d ∷ ds)

abbrev pub number_of : List ℕ → Option ℕ
number_of word = if spells_number word then Some (digits_value 10 word) else None
