-- Where the search for the next change of a function starts.
use Rattle.std.specs.Prelude.{ℕ, Bool, List}
use Rattle.c_tree.specs.Trees.{Forest}
use Rattle.jump_meaning.specs.Code.{FunctionTree}
use Rattle.tidy_loops.specs.Slots.{Tells}
use Rattle.break_recovery.specs.Ways.{IsAhead}
use Rattle.break_recovery.specs.declared.places.Start.{Start}

-- no change of this body applies before the start and the end of the way, but for the place in doubt, whichever function has
-- these counts
abbrev pub IsStart : List ℕ → Start → Bool → List ℕ → Forest → Type 0
IsStart counts s sure w a = (h : FunctionTree) → Tells counts h → IsAhead sure h 2 s.doubt s.from w a
