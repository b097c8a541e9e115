-- Indexes of arrays.
use Rattle.std.specs.Prelude.{ℕ, ℤ, pos, negsuc, Bool, false, nat_lt}

-- whether a variable of n cells has the cell of an index
abbrev pub has_cell : ℤ → ℕ → Bool
has_cell (pos i) n = nat_lt i n
has_cell (negsuc i) n = false
