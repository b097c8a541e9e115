-- What `change_laws` states: changes come to an end.
use Rattle.std.specs.Prelude.{ℕ, suc, ◌+◌, ◌≡◌, [], length, Contains}
use Rattle.c_tree.specs.Trees.{Forest}
use Rattle.jump_meaning.specs.Code.{FunctionTree}
use Rattle.tidy_laws.specs.Changes.{changes_of, changed, changed_once, changed_times, times_changed, changed_fully}

pub record ChangeLaws : Type 0 where
  -- each change takes a variable away
  pub fewer : (f : FunctionTree) (c : ℕ × Forest) → Contains (changes_of f) c → suc (length (changed f c).slots) ≡ length f.slots
  -- so that they come to an end
  pub over : (f : FunctionTree) → changes_of (changed_fully f) ≡ []
  -- and as many variables are gone as there were changes
  pub counted : (f : FunctionTree) (n : ℕ) → times_changed n f + length (changed_times n f).slots ≡ length f.slots
  -- the last of n changes is the first that applies after the others
  pub last : (f : FunctionTree) (n : ℕ) → changed_times (suc n) f ≡ changed_once (changed_times n f)
