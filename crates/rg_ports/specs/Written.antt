-- What a sink tells of the bytes that were written to it.
use Rattle.std.specs.Prelude.{◌≡◌, ℕ, ◌+◌, ◌<◌, ◌≤◌, List, ◌++◌, length, take, min}

pub data Written : Type 0 where
  -- the bytes
  Told : List ℕ → Written
  -- their number, up to the last of 64 bits
  Counted : ℕ → Written
  -- nothing
  Untold : Written

abbrev pub IsCount : Written → Type 0
IsCount (Told bytes) = Unit {0}
IsCount (Counted n) = n ≤ 18446744073709551615
IsCount Untold = Unit {0}

-- what is told once these bytes were written too
abbrev pub more : Written → List ℕ → Written
more (Told bytes) piece = Told (bytes ++ piece)
more (Counted n) piece = Counted (min (n + length piece) 18446744073709551615)
more Untold piece = Untold

-- a front of the bytes was written, but not all
pub record FrontWritten (old new : Written) (bytes : List ℕ) : Type 0 where
  pub count : ℕ
  pub short : count < length bytes
  pub front : new ≡ more old (take count bytes)
