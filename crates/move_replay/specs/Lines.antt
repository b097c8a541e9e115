-- Places of lines in a text.
use Rattle.std.specs.Prelude.{◌==◌, ℕ, zero, suc, cond, List, [], ◌∷◌}

-- the offset of the line with this number, from 0; lines end at newlines
abbrev pub line_start : ℕ → List ℕ → ℕ
line_start zero text = 0
line_start (suc n) [] = 0
line_start (suc n) (c ∷ text) = suc (cond (c == 10) (line_start n text) (line_start (suc n) text))
