-- Where the labels of a function stand, in a table that is made once.
use Rattle.std.specs.Prelude.{◌≡◌, ◌≢◌, ◌≤◌, ℕ, zero, suc, List, [], slice_get, Option, Some, None}
use Rattle.c_tree.specs.declared.tree.Function.{Function}
use Rattle.jump_meaning.specs.Code.{entry_or, function_tree, items_of}
use Rattle.jump_meaning.specs.Search.{ToLabel, or_else, seek}
use Rattle.jump_meaning.specs.Tasks as T
use Rattle.step_tasks.specs.declared.labels.Labels.{Labels}
use Rattle.step_tasks.specs.declared.labels.Level.{Level}
use Rattle.step_tasks.specs.declared.work.Work.{Work}
use Rattle.step_tasks.specs.Tasks.{work_of}

-- the tasks from a level on, of which at most so many are below one another; the levels are counted from 1
abbrev pub IsStackIn : ℕ → List Level → ℕ → List T.Task → Type 0
IsStackIn zero levels zero k = k ≡ []
IsStackIn zero levels (suc i) k = ⊥
IsStackIn (suc n) levels zero k = k ≡ []
IsStackIn (suc n) levels (suc i) k = (x : Level) × (j : List T.Task) × (slice_get levels i ≡ Some x) × (x.below ≤ i) × IsStackIn n levels x.below j ×
    (k ≡ work_of x.work j)

abbrev pub IsStack : List Level → ℕ → List T.Task → Type 0
IsStack levels i k = (n : ℕ) × IsStackIn n levels i k

-- the level from which the tasks of a label go on
abbrev pub start_of : Labels → ℕ → ℕ
start_of t l = entry_or 0 t.starts l

-- these are the tasks from the label on, or the table has no such label
abbrev pub IsFound : Labels → ℕ → Option (List T.Task) → Type 0
IsFound t l None = start_of t l ≡ 0
IsFound t l (Some k) = (start_of t l ≢ 0) × IsStack t.levels (start_of t l) k

-- the table has the labels of the function
abbrev pub AreLabelsOf : Function → Labels → Type 0
AreLabelsOf f t = (l : ℕ) → IsFound t l (seek (ToLabel l) (items_of (function_tree f)) [])

-- the labels that are found are added to those that the table has; a label that it has stays
pub record Adds (found_at : ℕ → Option (List T.Task)) (old new : Labels) : Type 0 where
  pub kept : (i : ℕ) (k : List T.Task) → IsStack old.levels i k → IsStack new.levels i k
  pub found : (l : ℕ) (o : Option (List T.Task)) → IsFound old l o → IsFound new l (or_else o (found_at l))

-- the labels that are found before the tasks of a level are added
abbrev pub AddsBefore : ℕ → (List T.Task → ℕ → Option (List T.Task)) → Labels → Labels → Type 0
AddsBefore below found_at old new = (k : List T.Task) → IsStack old.levels below k → Adds (found_at k) old new

-- work before the tasks of a level is a level more
pub record IsPut (below : ℕ) (work : Work) (old new : Labels) (level : ℕ) : Type 0 where
  pub above : (k : List T.Task) → IsStack old.levels below k → IsStack new.levels level (work_of work k)
  pub kept : (i : ℕ) (k : List T.Task) → IsStack old.levels i k → IsStack new.levels i k
  pub starts : new.starts ≡ old.starts
  pub counted : level ≢ 0
