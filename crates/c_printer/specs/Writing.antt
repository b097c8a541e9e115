-- A writer that was given printed text.
use Rattle.std.specs.Prelude.{◌≡◌, ℕ, List}
use Rattle.rg_ports.specs.Writing.{Progress, Start, Stands}
use Rattle.c_tree.specs.TextPieces.{Piece, Text, spelled}

-- Where a writer stands while the whole bytes are written, and these pieces are still to come.
unfoldable pub StandsBefore : Start → List ℕ → Progress → List Piece → Type 0
StandsBefore start whole now rest = Stands start whole now (spelled rest)

-- From the old progress to the new one the writer was given this text.
abbrev pub Prints : Progress → Progress → Text → Type 0
Prints old new t = (start : Start) (whole : List ℕ) (rest : List Piece) → StandsBefore start whole old (t rest) → StandsBefore start whole new rest
