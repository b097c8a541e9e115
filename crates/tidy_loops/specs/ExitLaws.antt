-- The law of exits: what goes with a change.
use Rattle.std.specs.Prelude.{ℕ, ◌+◌, ◌≡◌}
use Rattle.c_tree.specs.Trees.{Forest}
use Rattle.tidy_slots.specs.Counts.{list_count}
use Rattle.tidy_laws.specs.Changes.{tailed}
use Rattle.tidy_loops.specs.declared.exits.Exit.{Exit}
use Rattle.tidy_loops.specs.Exits.{exits_in, jump_of}

pub record ExitLaws : Type 0 where
  -- of the times that the slot is named, those go that are counted
  pub gone : (g : ℕ) (l : Exit) (a : Forest) → list_count g a ≡ list_count g (tailed g (jump_of l) a) + exits_in g a
