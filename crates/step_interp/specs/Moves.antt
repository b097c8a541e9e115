-- What the machine comes to, against a state that the meaning comes to.
use Rattle.std.specs.Prelude.{ℕ, ◌≡◌, ℤ, FitsSigned, List, [], ◌∷◌, ◌++◌, map}
use Rattle.std.specs.Int.{w128}
use Rattle.c_tree.specs.declared.tree.Function.{Function}
use Rattle.jump_meaning.specs.Code.{function_tree}
use Rattle.jump_meaning.specs.Values.{Event, Byte, Value}
use Rattle.jump_meaning.specs.World.{World}
use Rattle.jump_meaning.specs.Step.{State, HasEnded, HasTrapped, leave}
use Rattle.step_tasks.specs.declared.call.Call.{Call}
use Rattle.step_interp.specs.declared.machine.Machine.{Machine}
use Rattle.step_interp.specs.declared.machine.Next.{Next}
use Rattle.step_interp.specs.declared.machine.Next.TheVariants.{Goes, Reads, Writes, Prints, Ends, Traps}
use Rattle.step_interp.specs.Machines.{state_of, HasWorld, IsRead, IsGiven}

-- the machine stands for the state, with this input left and these events
pub record StandsFor (s : State) (m : Machine) (left : List ℕ) (shown : List Event) : Type 0 where
  pub world : World
  pub same : s ≡ state_of m world
  pub has : HasWorld m world
  pub input : world.input ≡ left
  pub events : world.events ≡ shown

-- from a world the meaning comes to the state, and the machine to this; it reads in calls for which R holds
abbrev pub Reaches : Type 0 → State → World → Next → Machine → Type 0
Reaches R s w Goes m = StandsFor s m w.input w.events
Reaches R s w Reads m = R × ((z : ℤ) (left : List ℕ) → IsRead w.input z left → (n : Machine) → IsGiven z m n → StandsFor s n left w.events)
Reaches R s w (Writes b) m = StandsFor s m w.input (w.events ++ Byte b ∷ [])
Reaches R s w (Prints bs) m = StandsFor s m w.input (w.events ++ map Byte bs)
Reaches R s w (Ends z) m = (s ≡ HasEnded z w.events) × FitsSigned w128 z
Reaches R s w (Traps t) m = s ≡ HasTrapped t w.events

-- the machine with one call more that waits
abbrev pub with_waiting : Call → Machine → Machine
with_waiting c m = record m { waiting = c ∷ m.waiting }

-- the first call is over with this value, and the run with it
abbrev pub EndsRun : Function → Value → World → Next → Type 0
EndsRun f v w next = (m : Machine) → Reaches ⊥ (leave (function_tree f) v [] w) w next m
