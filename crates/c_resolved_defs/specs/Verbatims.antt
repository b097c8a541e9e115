-- What is printed as it stands, on lines of its own: comments and `#include` lines (ISO/IEC 9899:2011, 6.4.9 and 6.10.2).
use Rattle.std.specs.Prelude.{◌≡◌, ◌⊎◌, ℕ, true, List, [], ◌∷◌}
use Rattle.c_lexer.specs.Pieces.{runs_on, Closes, bare}
use Rattle.c_lexer.specs.Pieces as l

-- behind `//` or `#`: bytes that the line in front of a newline is, to its end, without carriage returns there
pub record IsOneLine (w : List ℕ) : Type 0 where
  pub whole : runs_on w (10 ∷ []) ≡ true
  pub ended : bare w ≡ w

-- a comment: a line of it, or what stands between `/*` and the first `*/`, with both
abbrev pub IsComment : List ℕ → Type 0
IsComment (a ∷ b ∷ w) = (a ≡ 47) × ((b ≡ 47) × IsOneLine w ⊎ (b ≡ 42) × Closes w)
IsComment _ = ⊥

-- an `#include` line that leaves no comment open
abbrev pub IsDirective : List ℕ → Type 0
IsDirective (a ∷ b ∷ w) = (a ≡ 35) × IsOneLine (b ∷ w) × l.IsDirective (b ∷ w)
IsDirective _ = ⊥
