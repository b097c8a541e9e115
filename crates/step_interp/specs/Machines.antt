-- A state of the meaning that a machine stands for, and what it is given.
use Rattle.std.specs.Prelude.{ℕ, ◌≡◌, ℤ, pos, negsuc, List, [], ◌∷◌, All}
use Rattle.c_types.specs.declared.kinds.IntKind.TheVariants.{UChar}
use Rattle.c_types.specs.Numbers.{residue}
use Rattle.c_tree.specs.declared.tree.Function.{Function}
use Rattle.c_tree.specs.declared.tree.Program.{Program}
use Rattle.jump_meaning.specs.Values.{Integer}
use Rattle.jump_meaning.specs.Code.{function_tree, function_named}
use Rattle.jump_meaning.specs.World.{World}
use Rattle.jump_meaning.specs.Step.{Frame, Waits, State, At}
use Rattle.step_tasks.specs.declared.call.Call.{Call}
use Rattle.step_interp.specs.declared.machine.Machine.{Machine}
use Rattle.step_memory.specs.Stores.{names_of, HoldsWorld}
use Rattle.step_interp.specs.Functions.{AreFunctionsOf}
use Rattle.step_tasks.specs.Controls.{guards_of, HasLabels}
use Rattle.step_tasks.specs.Tasks.{tasks_of}
use Rattle.step_memory.specs.Values.{values_of}

-- the calls that wait
abbrev pub frames_of : List (List ℕ) → List Call → List Frame
frames_of ns [] = []
frames_of ns (c ∷ cs) = Waits c.function.now.name (guards_of c.guards) (tasks_of c.tasks) (values_of ns c.values) ∷ frames_of ns cs

-- the state of a machine in a world
abbrev pub state_of : Machine → World → State
state_of m w = At m.call.function.now.name (guards_of m.call.guards) (tasks_of m.call.tasks) (values_of (names_of m.store) m.call.values)
    (frames_of (names_of m.store) m.waiting) w

-- the function is the one that its name has in the program
abbrev pub IsFunctionOf : Program → Function → Type 0
IsFunctionOf p f = function_named f.name p.tops ≡ function_tree f

-- a call of a function of the program, with its labels
abbrev pub IsCallOf : Program → Call → Type 0
IsCallOf p c = IsFunctionOf p c.function.now × HasLabels c

-- the variables of the machine are those of the world, and its functions those of the program
pub record HasWorld (m : Machine) (w : World) : Type 0 where
  pub holds : HoldsWorld m.store w
  pub cells : w.cells ≡ m.cells
  pub answers : w.answers ≡ []
  pub linked : AreFunctionsOf m.program.now m.functions.now
  pub called : IsCallOf m.program.now m.call
  pub waiting : All (λ k. IsCallOf m.program.now k) m.waiting

-- what a call of `getchar` gives of an input, and what is left of it
abbrev pub IsRead : List ℕ → ℤ → List ℕ → Type 0
IsRead [] z left = (z ≡ negsuc 0) × (left ≡ [])
IsRead (b ∷ bs) z left = (z ≡ pos (residue UChar (pos b))) × (left ≡ bs)

-- the byte is the value of the call: the machine is as before, with the number as last value
pub record IsGiven (z : ℤ) (old new : Machine) : Type 0 where
  pub values : values_of (names_of old.store) new.call.values ≡ Integer z ∷ values_of (names_of old.store) old.call.values
  pub others : new ≡ record old { call = record old.call { values = new.call.values } }
