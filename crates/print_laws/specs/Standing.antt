-- Which token, by its number, stands in front of printed pieces: for walks over the syntax of a printed text.
use Rattle.std.specs.Prelude.{◌≡◌, ℕ, List, drop}
use Rattle.c_tree.specs.TextPieces.{Piece}
use Rattle.print_laws.specs.Reread.{Spelling, spellings, reread_all}

-- the tokens from this number on are those of the pieces
abbrev pub Stands : List Spelling → ℕ → List Piece → Type 0
Stands tokens at ps = drop at tokens ≡ spellings (reread_all ps)
