-- The machine at the start of a run.
use Rattle.std.specs.Prelude.{ℕ, ℤ, List, [], map, ◌≡◌, Option, Some, None}
use Rattle.c_types.specs.declared.trap.Trap.{Trap}
use Rattle.c_tree.specs.declared.tree.Program.{Program}
use Rattle.c_tree.specs.declared.tree.Function.{Function}
use Rattle.jump_meaning.specs.Code.{code_of, function_tree}
use Rattle.jump_meaning.specs.Runs.{start}
use Rattle.jump_meaning.specs.Step.{HasTrapped}
use Rattle.jump_meaning.specs.Tasks.{items}
use Rattle.jump_meaning.specs.Values.{Integer}
use Rattle.jump_meaning.specs.World.{enter_call, world_at_start}
use Rattle.step_memory.specs.declared.store.Store.{Store}
use Rattle.step_memory.specs.Stores.{HoldsWorld}
use Rattle.step_tasks.specs.Controls.{body_of}
use Rattle.step_tasks.specs.Tasks.{tasks_of}
use Rattle.step_tasks.specs.declared.labels.Labels.{Labels}
use Rattle.step_interp.specs.declared.functions.Functions.{Functions}
use Rattle.step_interp.specs.declared.machine.Machine.{Machine}
use Rattle.step_interp.specs.Moves.{StandsFor}

-- the variables of the file, before any call
abbrev pub HoldsFirst : Program → Store → Type 0
HoldsFirst p s = (input : List ℕ) → HoldsWorld s (world_at_start (code_of p) input [])

-- the function is called with these arguments, and no other call is present
pub record BeginsIn (p : Program) (t : Functions) (f : Function) (ls : Labels) (arguments : List ℤ) (count : ℕ) (m : Machine) : Type 0 where
  pub program : m.program.now ≡ p
  pub functions : m.functions.now ≡ t
  pub cells : m.cells ≡ count
  pub function : m.call.function.now ≡ f
  pub labels : m.call.labels.now ≡ ls
  pub guards : m.call.guards ≡ []
  pub tasks : tasks_of m.call.tasks ≡ items (body_of f) []
  pub values : m.call.values ≡ []
  pub waiting : m.waiting ≡ []
  pub holds : (input : List ℕ) → HoldsWorld m.store (enter_call (function_tree f) (map Integer arguments) (world_at_start (code_of p) input []))

-- on each input: the machine stands for the first state, or there are too many cells for the entry
abbrev pub StartsAs : Program → List ℕ → List ℤ → Option Machine → Type 0
StartsAs p m arguments (Some machine) = (machine.program.now ≡ p) × ((input : List ℕ) → StandsFor (start (code_of p) m arguments input []) machine input [])
StartsAs p m arguments None = (input : List ℕ) → start (code_of p) m arguments input [] ≡ HasTrapped Trap.Cells []
