-- The law of counts: what a count says, and how it adds up.
use Rattle.std.specs.Prelude.{ℕ, ◌+◌, ◌≡◌, eqb}
use Rattle.c_tree.specs.Trees.{Forest, join}
use Rattle.tidy_laws.specs.Mentions.{list_lacks}
use Rattle.tidy_slots.specs.Counts.{list_count}

pub record CountLaws : Type 0 where
  -- a list lacks a slot where it names it no time
  pub none : (g : ℕ) (a : Forest) → list_lacks g a ≡ eqb (list_count g a) 0
  -- one list after another
  pub both : (g : ℕ) (a b : Forest) → list_count g (join a b) ≡ list_count g a + list_count g b
