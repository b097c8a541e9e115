-- Counts of 64 bits that stand still at their last value.
use Rattle.std.specs.Prelude.{◌≡◌, ℕ, ◌+◌, ◌<◌, ◌⊎◌, min}

-- The count rose, or it stands at its last value.
abbrev pub Rose : ℕ → ℕ → Type 0
Rose old new = (old < new) ⊎ (new ≡ 18446744073709551615)

-- one more, up to the last value
abbrev pub following : ℕ → ℕ
following n = min (n + 1) 18446744073709551615
