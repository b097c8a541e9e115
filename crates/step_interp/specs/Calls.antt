-- What a call comes to.
use Rattle.std.specs.Prelude.{ℕ, ◌≡◌, List, [], codes, None}
use Rattle.c_tree.specs.declared.tree.Function.{Function}
use Rattle.jump_meaning.specs.Calls.{arguments_taken, without_last}
use Rattle.jump_meaning.specs.Code.{FunctionTree, code_of, function_tree}
use Rattle.jump_meaning.specs.Effects.{Invokes}
use Rattle.jump_meaning.specs.Step.{State, settle, invoke, perform}
use Rattle.jump_meaning.specs.Values as Meant
use Rattle.jump_meaning.specs.Values.{Event}
use Rattle.jump_meaning.specs.World.{World, Outcome, emit}
use Rattle.step_memory.specs.declared.value.Value.{Value}
use Rattle.step_memory.specs.Stores.{names_of}
use Rattle.step_memory.specs.Values.{values_of}
use Rattle.step_tasks.specs.Controls.{guards_of}
use Rattle.step_tasks.specs.Tasks.{tasks_of}
use Rattle.step_interp.specs.declared.machine.Machine.{Machine}
use Rattle.step_interp.specs.declared.machine.Next.{Next}
use Rattle.step_interp.specs.Machines.{HasWorld, frames_of}
use Rattle.step_interp.specs.Moves.{Reaches}
use Rattle.step_interp.specs.Shown.{bytes_in}

-- from a world, after events without bytes, the meaning comes to the state, and the machine to this
pub record QuietlyReaches (R : Type 0) (s : State) (w : World) (next : Next) (m : Machine) : Type 0 where
  pub events : List Event
  pub quiet : bytes_in events ≡ []
  pub reaches : Reaches R s (emit events w) next m

-- the state after an outcome of a call from the newest one
abbrev pub settled : Machine → Outcome → State
settled m x =
    settle x m.call.function.now.name (guards_of m.call.guards) (tasks_of m.call.tasks) (values_of (names_of m.store) m.call.values)
    (frames_of (names_of m.store) m.waiting)

-- in each world that the machine has, the outcome of the call comes to this; R holds of a call that reads
abbrev pub Settles : Type 0 → (World → Outcome) → Machine → Next → Machine → Type 0
Settles R F old next new = (w : World) → HasWorld old w → Reaches R (settled old (F w)) w next new

-- in each world that the machine has, the outcome of the call comes to this, and the call may be an event itself
abbrev pub SettlesQuietly : Type 0 → (World → Outcome) → Machine → Next → Machine → Type 0
SettlesQuietly R F old next new = (w : World) → HasWorld old w → QuietlyReaches R (settled old (F w)) w next new

-- a call of `getchar`, of which the program has no body
abbrev pub IsGetchar : List ℕ → FunctionTree → Type 0
IsGetchar m f = (m ≡ codes "getchar") × (f.body ≡ None)

-- the state after a call of a function from the newest one
abbrev pub invoked : Machine → List ℕ → FunctionTree → List Meant.Value → World → State
invoked m n h vs w =
    invoke h.body h n vs m.call.function.now.name (guards_of m.call.guards) (tasks_of m.call.tasks) (values_of (names_of m.store) m.call.values)
    (frames_of (names_of m.store) m.waiting) w

-- a call of a function with these arguments comes to this
abbrev pub CallsFunction : Function → List Value → Machine → Next → Machine → Type 0
CallsFunction f vs old next new =
    (w : World) → HasWorld old w → QuietlyReaches (IsGetchar f.name (function_tree f))
    (invoked old f.name (function_tree f) (values_of (names_of old.store) vs) w) w next new

-- a call of the function of a name, which takes so many of the values pending, comes to this
abbrev pub Called : List ℕ → ℕ → Machine → Next → Machine → Type 0
Called n count old next new =
    let v = values_of (names_of old.store) old.call.values in
    let P = code_of old.program.now in
    (w : World) → HasWorld old w
    → QuietlyReaches (IsGetchar n (P.functions n))
    (perform P (Invokes n (arguments_taken count v) (without_last count v) w) old.call.function.now.name (guards_of old.call.guards)
    (tasks_of old.call.tasks) (frames_of (names_of old.store) old.waiting))
    w next new
