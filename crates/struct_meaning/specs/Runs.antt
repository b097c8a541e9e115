-- Structural runs of a program, and that they behave as the runs by steps do.
use Rattle.std.specs.Prelude.{ℕ, ℤ, List, map, true, ◌≡◌}
use Rattle.c_tree.specs.declared.tree.Program.{Program}
use Rattle.c_tree.specs.Everywhere.{Everywhere}
use Rattle.c_tree.specs.Jumps.{is_plain_program}
use Rattle.jump_meaning.specs.Values.{Value, Integer, integer}
use Rattle.jump_meaning.specs.Code.{Code, code_of, items_of}
use Rattle.jump_meaning.specs.World.{World, push, world_at_start}
use Rattle.jump_meaning.specs.Calls.{leave_entry}
use Rattle.jump_meaning.specs.Behaviour.{Shown, Ended, Trapped, More, AreSameRuns}
use Rattle.jump_meaning.specs.Runs.{jump_run}
use Rattle.struct_meaning.specs.Structural.{Evaluation, Yields, Faults, Quits, Spent, LessFuel, call_body, value_left, execs, with_fuel}
use Rattle.struct_meaning.specs.Structured.{IsStructured, IsProgramStructured}

-- the call of the entry, which ends the run (5.1.2.2.3)
abbrev pub entry_call : Code → LessFuel → List ℕ → List ℤ → World → Evaluation Value
entry_call p L m arguments w =
    call_body (execs L (items_of (p.functions m))) (λ c w. leave_entry (p.functions m) (value_left m (p.functions m) c) w) w
    (push (p.functions m) (map Integer arguments) w)

-- how a run stands; out of fuel there is more to come (this profile)
abbrev pub stands : Evaluation Value → Shown
stands (Yields v w) = Ended (integer v) w.events
stands (Faults t w) = Trapped t w.events
stands (Quits n w) = Ended n w.events
stands (Spent w) = More w.events

-- how the run of an entry stands with this much fuel, on an input and a list of answers (this profile)
abbrev pub structural_run : Code → List ℕ → List ℤ → List ℕ → List ℤ → ℕ → Shown
structural_run p m arguments input answers n = stands (entry_call p (with_fuel p n) m arguments (world_at_start p input answers))

-- no goto, label, jump or nested case label stands in a function (this profile)
abbrev pub IsCodeStructured : Code → Type 0
IsCodeStructured p = (m : List ℕ) → Everywhere IsStructured (items_of (p.functions m))

-- the run by steps and the structural run behave the same: from each entry, on each input and all answers (5.1.2.3)
pub record MeaningsAgreeOn (p : Code) : Type 0 where
  pub runs : (m : List ℕ) (arguments : List ℤ) (input : List ℕ) (answers : List ℤ)
      → AreSameRuns (jump_run p m arguments input answers) (structural_run p m arguments input answers)

-- both meanings agree on programs without jumps (this profile)
pub record MeaningsAgree : Type 0 where
  pub of_codes : (p : Code) → IsCodeStructured p → MeaningsAgreeOn p
  pub of_programs : (q : Program) → IsProgramStructured q → MeaningsAgreeOn (code_of q)
  -- on plain programs above all
  pub of_plain_programs : (q : Program) → is_plain_program q ≡ true → MeaningsAgreeOn (code_of q)
