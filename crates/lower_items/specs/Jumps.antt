-- The items of the lists of an `if`, as far as one goto goes.
use Rattle.std.specs.Prelude.{ℕ, Bool, false, not, Option, Some, None}
use Rattle.c_tree.specs.Trees.{Tree, Goto, Mark}

-- a label that goes
abbrev pub goes : (ℕ → Bool) → Tree → Bool
goes live (Mark l) = not (live l)
goes live _ = false

abbrev pub goto_of : Tree → Option ℕ
goto_of (Goto l) = Some l
goto_of _ = None
