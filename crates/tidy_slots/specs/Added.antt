-- Counts by slot, to which more is added.
use Rattle.std.specs.Prelude.{ℕ, ◌+◌, ◌<◌, ◌≡◌, List, length, get_or}

-- to the count of each slot that there is, so many are added
pub record Adds (old : List ℕ) (more : ℕ → ℕ) (new : List ℕ) : Type 0 where
  pub as_long : length new ≡ length old
  pub counted : (g : ℕ) → g < length old → get_or new g 0 ≡ get_or old g 0 + more g
