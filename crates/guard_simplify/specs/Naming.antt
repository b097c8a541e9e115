-- The simplifications of a body as the report names them.
use Rattle.std.specs.Prelude.{ℕ, List, slice_get, map}
use Rattle.std.specs.Option.{option_and_then}
use Rattle.report_moves.specs.declared.moves.Move.{Move}
use Rattle.guard_simplify.specs.declared.choice.Choice.{Choice}

-- a simplification, with the name of the function f and that of its label among the labels of f
abbrev pub choice_named : List ℕ → List (List ℕ) → Choice → Move
choice_named f labels c = record { function = f; kind = c.kind; label = option_and_then (slice_get labels) c.label; path = c.path }

-- a list of them
abbrev pub choices_named : List ℕ → List (List ℕ) → List Choice → List Move
choices_named f labels cs = map (choice_named f labels) cs
