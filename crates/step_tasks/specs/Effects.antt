-- What the machine comes to at a task of an expression.
use Rattle.std.specs.Prelude.{◌≡◌, ℕ, ℤ, Bool, List, [], ◌∷◌, Result, Ok, Err}
use Rattle.c_types.specs.declared.trap.Trap.{Trap}
use Rattle.c_tree.specs.ExpressionTrees.{ExpressionTree, arguments}
use Rattle.jump_meaning.specs.Values as Meant
use Rattle.jump_meaning.specs.World.{World}
use Rattle.jump_meaning.specs.Effects.{Op, Ors, Ands, Computes, Effect, Does, Fails, Calls, Counts, argument_tasks, argument_count, effect}
use Rattle.jump_meaning.specs.Tasks as T
use Rattle.jump_meaning.specs.Tasks.{works}
use Rattle.step_memory.specs.declared.store.Store.{Store}
use Rattle.step_memory.specs.declared.value.Owner.{Owner}
use Rattle.step_memory.specs.declared.value.Value.{Value}
use Rattle.step_memory.specs.Stores.{names_of, HoldsWorld}
use Rattle.step_memory.specs.Values.{owner_of, values_of}
use Rattle.step_tasks.specs.declared.operate.Done.{Done}
use Rattle.step_tasks.specs.declared.operate.Done.TheVariants as Is
use Rattle.step_tasks.specs.declared.work.Use.{Use}
use Rattle.step_tasks.specs.declared.work.Use.TheVariants as Uses
use Rattle.step_tasks.specs.declared.work.Work.{Work}
use Rattle.step_tasks.specs.Tasks.{decide_of, tasks_of}

-- these tasks come before the others
abbrev pub Computed : List Op → List Work → List Work → Type 0
Computed os old new = tasks_of new ≡ works os (tasks_of old)

-- the effect is that these tasks come before those, with these values pending and this world
abbrev pub Comes : Effect → List T.Task → List T.Task → List Meant.Value → World → Type 0
Comes (Does os v w) before after values world = (after ≡ works os before) × (values ≡ v) × (world ≡ w)
Comes _ before after values world = ⊥

-- ---- a task that changes no variable

-- whatever world the variables are, an effect at the values pending comes to this
abbrev pub Effects : (List Meant.Value → World → Effect) → Store → List Work → List Work → List Value → List Value → Type 0
Effects E s tasks left values new =
    (w : World) → HoldsWorld s w → Comes (E (values_of (names_of s) values) w) (tasks_of tasks) (tasks_of left) (values_of (names_of s) new) w

-- a task of an expression is done
abbrev pub IsDone : Op → Store → List Work → List Work → List Value → List Value → Type 0
IsDone o s tasks left values new = Effects (effect o) s tasks left values new

-- a task of an expression meets a trap
abbrev pub IsTrapped : Op → Trap → Store → List Value → Type 0
IsTrapped o t s values = (w : World) → HoldsWorld s w → effect o (values_of (names_of s) values) w ≡ Fails t w

-- a task that takes values and leaves one: other tasks stay as they are
abbrev pub IsLeft : Op → Store → List Value → List Value → Type 0
IsLeft o s values new = (tasks : List Work) → IsDone o s tasks tasks values new

-- a task that takes values and leaves one, or meets a trap: other tasks stay as they are
abbrev pub IsLeftOr : Op → Done → Store → List Value → List Value → Type 0
IsLeftOr o Is.Goes s values new = IsLeft o s values new
IsLeftOr o (Is.Traps t) s values new = IsTrapped o t s values

-- a task is done whatever the variables are
abbrev pub IsDoneAlways : Op → List Work → List Work → List Value → List Value → Type 0
IsDoneAlways o tasks left values new = (s : Store) → IsDone o s tasks left values new

abbrev pub IsLeftAlways : Op → List Value → List Value → Type 0
IsLeftAlways o values new = (s : Store) → IsLeft o s values new

abbrev pub IsLeftOrAlways : Op → Done → List Value → List Value → Type 0
IsLeftOrAlways o done values new = (s : Store) → IsLeftOr o done s values new

-- the number is left, or there is its trap
abbrev pub IsOutcome : Result ℤ Trap → Done → List Value → List Value → Type 0
IsOutcome (Ok n) Is.Goes old new = (ns : List (List ℕ)) → values_of ns new ≡ Meant.Integer n ∷ values_of ns old
IsOutcome (Err t) (Is.Traps u) old new = u ≡ t
IsOutcome _ _ old new = ⊥

-- ---- a task that changes variables

-- two worlds differ in variables alone
pub record DifferInVariables (v w : World) : Type 0 where
  pub calls : w.calls ≡ v.calls
  pub cells : w.cells ≡ v.cells
  pub input : w.input ≡ v.input
  pub answers : w.answers ≡ v.answers
  pub events : w.events ≡ v.events

-- whatever world the variables were, they are now the world to which the task of an expression comes
abbrev pub Changes : Op → Store → Store → List Work → List Work → List Value → List Value → Type 0
Changes o s t tasks left values new =
    (w : World) → HoldsWorld s w
    → (now : World) × Comes (effect o (values_of (names_of s) values) w) (tasks_of tasks) (tasks_of left) (values_of (names_of s) new) now ×
    HoldsWorld t now × DifferInVariables w now

-- a task that takes values, leaves one and may change variables: other tasks stay as they are
abbrev pub LeavesIn : Op → Store → Store → List Value → List Value → Type 0
LeavesIn o s t values new = (tasks : List Work) → Changes o s t tasks tasks values new

abbrev pub LeavesInOr : Op → Done → Store → Store → List Value → List Value → Type 0
LeavesInOr o Is.Goes s t values new = LeavesIn o s t values new
LeavesInOr o (Is.Traps trap) s t values new = IsTrapped o trap s values

-- the cell of a variable is counted, and its value before or after that is left
abbrev pub CountsIn : Bool → Bool → Owner → ℕ → Done → Store → Store → List Value → List Value → Type 0
CountsIn up after o i done s t values new =
    (place : List Value) → values_of (names_of s) place ≡ Meant.Designates (owner_of (names_of s) o) i ∷ values_of (names_of s) values →
    LeavesInOr (Counts up after) done s t place new

-- the arguments, and then the call
abbrev pub call_tasks : List ℕ → List ExpressionTree → List Op
call_tasks m es = argument_tasks (arguments es) (Calls m (argument_count (arguments es)) ∷ [])

-- ---- any task of an expression

-- a task that changes no variable is done, or meets a trap
abbrev pub IsDoneOr : Op → Done → Store → List Work → List Work → List Value → List Value → Type 0
IsDoneOr o Is.Goes s tasks left values new = IsDone o s tasks left values new
IsDoneOr o (Is.Traps t) s tasks left values new = IsTrapped o t s values

-- a task that changes no variable is done, or meets a trap, whatever the variables and the other tasks are
abbrev pub IsDoneOrAlways : Op → Done → List Value → List Value → Type 0
IsDoneOrAlways o done values new = (s : Store) (tasks : List Work) → IsDoneOr o done s tasks tasks values new

-- a task that may change variables is done, or meets a trap
abbrev pub ChangesOr : Op → Done → Store → Store → List Work → List Work → List Value → List Value → Type 0
ChangesOr o Is.Goes s t tasks left values new = Changes o s t tasks left values new
ChangesOr o (Is.Traps trap) s t tasks left values new = IsTrapped o trap s values

-- what is to be done with an expression
abbrev pub op_with : Use → ExpressionTree → Op
op_with Uses.Compute e = Computes e
op_with Uses.And e = Ands e
op_with Uses.Or e = Ors e
op_with Uses.Decide e = decide_of e
