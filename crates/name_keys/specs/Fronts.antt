-- What tells most names apart: their first bytes as a number.
use Rattle.std.specs.Prelude.{ℕ, zero, suc, ◌+◌, ◌*◌, ◌^◌, ◌<◌, List, drop, slice_index}

-- the first bytes of a text as a number to the base 256, with 0 for each that is wanting
abbrev pub front : ℕ → List ℕ → ℕ
front zero text = 0
front (suc k) text = slice_index text 0 * 256 ^ k + front k (drop 1 text)

abbrev pub AreBytes : List ℕ → Type 0
AreBytes text = (i : ℕ) → slice_index text i < 256
