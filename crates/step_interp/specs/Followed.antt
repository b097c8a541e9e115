-- What one step, with what it reads and writes, comes to.
use Rattle.std.specs.Prelude.{ℕ, ℤ, ◌<◌, ◌≡◌, ◌⊎◌, List, ◌++◌, length, take, Option, Some}
use Rattle.rg_ports.specs.Written.{Written, more}
use Rattle.jump_meaning.specs.Code.{Code}
use Rattle.jump_meaning.specs.Step.{State, HasEnded, HasTrapped, step}
use Rattle.jump_meaning.specs.Values.{Event}
use Rattle.jump_meaning.specs.World.{World}
use Rattle.step_interp.specs.declared.machine.Machine.{Machine}
use Rattle.step_interp.specs.Machines.{HasWorld, IsRead, state_of}
use Rattle.step_interp.specs.Shown.{bytes_in}
use Rattle.step_interp.specs.declared.runs.After.{After}
use Rattle.step_interp.specs.declared.runs.After.TheVariants as A
use Rattle.step_interp.specs.declared.runs.RunAnswer.TheVariants.{Ended, Trapped, Spent, ReadFault, WriteFault, Memory}
use Rattle.step_interp.specs.Answers.{output_of}
use Rattle.step_interp.specs.Steps.{IsReading}

-- the ports in a world: the sink was given the bytes so far, and the source has the input that is left
pub record HasPorts (told : Written) (w : World) (written : Written) (left : Option (List ℕ)) : Type 0 where
  pub output : written ≡ more told (bytes_in w.events)
  pub input : left ≡ Some w.input

-- the machine stands for the state, and the ports are those of its world
pub record Follows (c : State) (told : Written) (m : Machine) (written : Written) (left : Option (List ℕ)) : Type 0 where
  pub world : World
  pub same : c ≡ state_of m world
  pub has : HasWorld m world
  pub ports : HasPorts told world written left

-- the step is the last one
pub record IsLast (c : State) (s : List Event → State) (told : Written) (w : World) (written : Written) (left : Option (List ℕ)) : Type 0 where
  pub events : List Event
  pub over : c ≡ s events
  pub output : written ≡ more told (bytes_in events)
  pub input : left ≡ Some w.input

-- the step has bytes, of which a proper prefix was written
pub record WroteFront (c : State) (told : Written) (w : World) (written : Written) (left : Option (List ℕ)) : Type 0 where
  pub bytes : List ℕ
  pub next : output_of c ≡ bytes_in w.events ++ bytes
  pub count : ℕ
  pub short : count < length bytes
  pub output : written ≡ more told (bytes_in w.events ++ take count bytes)
  pub input : left ≡ Some w.input

-- the step was made with its read, though memory was refused then
pub record HasRead (c : State) (told : Written) (written : Written) (left : Option (List ℕ)) : Type 0 where
  pub machine : Machine
  pub follows : Follows c told machine written left

-- from a machine in a world, after a step of this number
abbrev pub Followed : Code → Written → ℕ → Machine → World → After → Machine → Written → Option (List ℕ) → Type 0
Followed P told steps old w A.GoesOn m written left = Follows (step P (state_of old w)) told m written left
Followed P told steps old w (A.Over (Ended z n)) m written left = (n ≡ steps) × IsLast (step P (state_of old w)) (HasEnded z) told w written left
Followed P told steps old w (A.Over (Trapped t n)) m written left = (n ≡ steps) × IsLast (step P (state_of old w)) (HasTrapped t) told w written left
Followed P told steps old w (A.Over ReadFault) m written left = IsReading P (state_of old w) × HasPorts told w written left
Followed P told steps old w (A.Over WriteFault) m written left = WroteFront (step P (state_of old w)) told w written left
Followed P told steps old w (A.Over Memory) m written left = HasPorts told w written left ⊎ HasRead (step P (state_of old w)) told written left
Followed P told steps old w (A.Over Spent) m written left = ⊥

abbrev pub IsReadFault : After → Type 0
IsReadFault (A.Over ReadFault) = Unit {0}
IsReadFault _ = ⊥

abbrev pub IsWriteFault : After → Type 0
IsWriteFault (A.Over WriteFault) = Unit {0}
IsWriteFault _ = ⊥

-- the next byte of what the source tells, or -1 at its end, and what it tells then
abbrev pub ReadsNext : ℤ → Option (List ℕ) → Option (List ℕ) → Type 0
ReadsNext z rest new = (given : List ℕ) → rest ≡ Some given → (left : List ℕ) × IsRead given z left × (new ≡ Some left)
