-- Moves whose numbers can be written.
use Rattle.std.specs.Prelude.{List, [], ◌∷◌}
use Rattle.report_moves.specs.declared.moves.Move.{Move}
use Rattle.report_moves.specs.Report.{IsPath}

-- each number of each path fits 32 bits
abbrev pub HaveNumbers : List Move → Type 0
HaveNumbers [] = Unit {0}
HaveNumbers (m ∷ ms) = IsPath m.path × HaveNumbers ms
