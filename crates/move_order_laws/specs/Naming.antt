-- The moves of a body as the report names them.
use Rattle.std.specs.Prelude.{ℕ, List, slice_get, map}
use Rattle.report_moves.specs.declared.moves.Move.{Move}
use Rattle.move_order_laws.specs.declared.kept.Kept.{Kept}

-- a move, with the name of the function f and that of its label among the labels of f
abbrev pub named : List ℕ → List (List ℕ) → Kept → Move
named f labels k = record { function = f; kind = k.kind; label = slice_get labels k.label; path = k.path }

-- of a list of moves
abbrev pub all_named : List ℕ → List (List ℕ) → List Kept → List Move
all_named f labels ks = map (named f labels) ks
