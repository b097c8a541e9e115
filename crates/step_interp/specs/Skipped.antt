-- What several steps that show nothing come to.
use Rattle.std.specs.Prelude.{ℕ, ◌≡◌}
use Rattle.jump_meaning.specs.Code.{code_of}
use Rattle.jump_meaning.specs.World.{World}
use Rattle.jump_meaning.specs.Runs.{run}
use Rattle.step_interp.specs.declared.machine.Machine.{Machine}
use Rattle.step_interp.specs.Machines.{HasWorld, state_of}

-- after n steps from the state of a machine in a world, the other machine stands for the state, in a world with the same input and events
pub record SkipsIn (n : ℕ) (old new : Machine) (w : World) : Type 0 where
  pub world : World
  pub same : run (code_of old.program.now) n (state_of old w) ≡ state_of new world
  pub has : HasWorld new world
  pub input : world.input ≡ w.input
  pub events : world.events ≡ w.events

abbrev pub Skips : ℕ → Machine → Machine → Type 0
Skips n old new = (w : World) → HasWorld old w → SkipsIn n old new w
