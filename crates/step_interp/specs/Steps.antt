-- What one step of a machine comes to.
use Rattle.std.specs.Prelude.{◌∷◌}
use Rattle.jump_meaning.specs.Code.{Code, code_of}
use Rattle.jump_meaning.specs.Effects.{Calls}
use Rattle.jump_meaning.specs.Step.{State, At, step}
use Rattle.jump_meaning.specs.Tasks.{Works}
use Rattle.jump_meaning.specs.World.{World}
use Rattle.step_interp.specs.declared.machine.Machine.{Machine}
use Rattle.step_interp.specs.declared.machine.Next.{Next}
use Rattle.step_memory.specs.Stores.{names_of}
use Rattle.step_memory.specs.Values.{values_of}
use Rattle.step_tasks.specs.declared.work.Task.{Task}
use Rattle.step_tasks.specs.Controls.{guards_of}
use Rattle.step_tasks.specs.Tasks.{task_of, tasks_of}
use Rattle.step_interp.specs.Machines.{HasWorld, frames_of, state_of}
use Rattle.step_interp.specs.Moves.{Reaches}
use Rattle.step_interp.specs.Calls.{IsGetchar, QuietlyReaches}

-- the next step is a call of `getchar`, of which the program has no body
abbrev pub IsReading : Code → State → Type 0
IsReading P (At f g (Works (Calls m n) ∷ k) v cs w) = IsGetchar m (P.functions m)
IsReading P _ = ⊥

-- in each world that the machine has, the step of the meaning comes to this
abbrev pub Steps : Machine → Next → Machine → Type 0
Steps old next new =
    (w : World) → HasWorld old w
    → QuietlyReaches (IsReading (code_of old.program.now) (state_of old w)) (step (code_of old.program.now) (state_of old w)) w next new

-- the state of a machine with a task before those of its newest call
abbrev pub state_with : Task → Machine → World → State
state_with t m w =
    At m.call.function.now.name (guards_of m.call.guards) (task_of t ∷ tasks_of m.call.tasks) (values_of (names_of m.store) m.call.values)
    (frames_of (names_of m.store) m.waiting) w

-- the step of a task shows nothing, and leads to the machine as it is now, with the task that is next
abbrev pub Performs : Task → Machine → Next → Machine → Type 0
Performs t old next new = (w : World) → HasWorld old w → Reaches ⊥ (step (code_of old.program.now) (state_with t old w)) w next new
