-- What several steps of a run come to, which show nothing.
use Rattle.std.specs.Prelude.{ℕ, ◌+◌, ◌≤◌, ◌≡◌, not, List, ◌∷◌}
use Rattle.c_tree.specs.ExpressionTrees.{ExpressionTree}
use Rattle.c_tree.specs.Operators.{is_zero}
use Rattle.jump_meaning.specs.Values as Meant
use Rattle.jump_meaning.specs.Code.{Code}
use Rattle.jump_meaning.specs.World.{World}
use Rattle.jump_meaning.specs.Tasks.{Task}
use Rattle.jump_meaning.specs.Step.{Guards, Frame, At}
use Rattle.jump_meaning.specs.Runs.{run}
use Rattle.step_memory.specs.declared.store.Store.{Store}
use Rattle.step_memory.specs.declared.value.Value.{Value}
use Rattle.step_memory.specs.Stores.{names_of, HoldsWorld}
use Rattle.step_memory.specs.Values.{values_of}
use Rattle.step_tasks.specs.declared.work.Work.{Work}
use Rattle.step_tasks.specs.Tasks.{work_of, tasks_of}
use Rattle.step_ahead.specs.declared.marks.Computed.{Computed}
use Rattle.step_ahead.specs.Taken.{IsComputed}
use Rattle.step_ahead.specs.declared.asking.Asked.{Asked}

-- after n steps the tasks are these, whatever values are pending, and the variables those of the store
pub record Reaches (s t : Store) (n : ℕ) (k j : List Task) : Type 0 where
  pub comes : (P : Code) (f : List ℕ) (g : Guards) (v : List Meant.Value) (cs : List Frame) (w : World) → HoldsWorld s w
      → (vs : Meant.Owner → Meant.Variable) × (run P n (At f g k v cs w) ≡ At f g j v cs (record w { variables = vs })) ×
      HoldsWorld t (record w { variables = vs })

-- after n steps the machine's tasks and values are these, and its variables those of the store
pub record GoesOn (s t : Store) (n : ℕ) (tasks left : List Work) (values new : List Value) : Type 0 where
  pub comes : (P : Code) (f : List ℕ) (g : Guards) (cs : List Frame) (w : World) → HoldsWorld s w
      → (vs : Meant.Owner → Meant.Variable)
      × (run P n (At f g (tasks_of tasks) (values_of (names_of s) values) cs w) ≡ At f g (tasks_of left) (values_of (names_of s) new) cs
      (record w { variables = vs }))
      × HoldsWorld t (record w { variables = vs })

-- after n steps the tasks and the values pending are these, and the variables those of the store
pub record Passes (s t : Store) (n : ℕ) (k j : List Task) (values new : List Value) : Type 0 where
  pub comes : (P : Code) (f : List ℕ) (g : Guards) (cs : List Frame) (w : World) → HoldsWorld s w
      → (vs : Meant.Owner → Meant.Variable)
      × (run P n (At f g k (values_of (names_of s) values) cs w) ≡ At f g j (values_of (names_of s) new) cs (record w { variables = vs }))
      × HoldsWorld t (record w { variables = vs })

-- the number of an expression isn't 0, or is, after so many steps and some more, at most so many together
abbrev pub IsAsked : Store → ExpressionTree → ℕ → ℕ → Asked → Type 0
IsAsked s e more most r = (x : Computed) × IsComputed s e x × (r.holds ≡ not (is_zero x.number)) × (r.steps ≡ x.steps + more) × (r.steps ≤ most)

-- of tasks whose work on top is F before those below it
abbrev pub WhereTop : (List Task → List Task) → List Work → Type 0 → Type 0
WhereTop F tasks C = (x : Work) (below : List Work) → tasks ≡ x ∷ below → work_of x (tasks_of below) ≡ F (tasks_of below) → C
