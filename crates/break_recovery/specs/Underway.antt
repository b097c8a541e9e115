-- The changes of a function whose slots keep their numbers until the last is made.
use Rattle.std.specs.Prelude.{ℕ, zero, suc, ◌<◌, ◌≡◌, Bool, false, List, ◌∷◌, length, option_map}
use Rattle.c_tree.specs.Trees.{Forest}
use Rattle.jump_meaning.specs.Code.{FunctionTree}
use Rattle.tidy_laws.specs.Changes.{changes_of, changed}
use Rattle.tidy_laws.specs.Renamed.{renamed_list}
use Rattle.tidy_laws.specs.Gone.{is_gone, old_number, left}
use Rattle.tidy_loops.specs.Slots.{Tells}

-- n changes are made, one after another
abbrev pub TreeChangedTimes : ℕ → FunctionTree → FunctionTree → Type 0
TreeChangedTimes zero f h = h ≡ f
TreeChangedTimes (suc n) f h = (c : ℕ × Forest) × (later : List (ℕ × Forest)) × (changes_of f ≡ c ∷ later) × TreeChangedTimes n (changed f c) h

-- f is h with the old numbers, and with the slots that are gone
pub record Stands (gone : List Bool) (f h : FunctionTree) : Type 0 where
  pub result : h.result ≡ f.result
  pub params : h.params ≡ f.params
  pub slots : h.slots ≡ left gone f.slots
  pub body : f.body ≡ option_map (renamed_list (old_number gone)) h.body
  pub as_long : length gone ≡ length f.slots
  -- no parameter is gone
  pub front : (x : ℕ) → x < f.params → is_gone gone x ≡ false

-- n changes of the function at the start lead to what f stands for, and the counts are those of f
pub record Underway (n : ℕ) (start : FunctionTree) (gone : List Bool) (counts : List ℕ) (f : FunctionTree) : Type 0 where
  pub now : FunctionTree
  pub changed : TreeChangedTimes n start now
  pub stands : Stands gone f now
  pub told : Tells counts f
