-- Runs of a program: entries, how a run stands after a number of steps, and programs that behave the same.
use Rattle.std.specs.Prelude.{ℕ, zero, suc, ◌≡◌, ◌<◌, ◌↔◌, ℤ, List, [], map, length, take, All, IsSome, IsNone}
use Rattle.c_tree.specs.declared.tree.Program.{Program}
use Rattle.jump_meaning.specs.Values.{Integer}
use Rattle.jump_meaning.specs.Code.{Code, code_of, items_of}
use Rattle.jump_meaning.specs.World.{push, world_at_start}
use Rattle.jump_meaning.specs.Behaviour.{Shown, Ended, Trapped, More, AreSameRuns}
use Rattle.jump_meaning.specs.Step.{State, At, HasEnded, HasTrapped, step, begin_call}

-- a function applied n times
abbrev pub iterate : {A : Type 0} → (A → A) → ℕ → A → A
iterate f zero c = c
iterate f (suc n) c = iterate f n (f c)

-- the state after n steps
abbrev pub run : Code → ℕ → State → State
run p n c = iterate (step p) n c

-- what a state shows
abbrev pub shows : State → Shown
shows (At f g k v cs w) = More w.events
shows (HasEnded n es) = Ended n es
shows (HasTrapped t es) = Trapped t es

-- an entry: a function with a body whose parameters are numbers, and one argument for each
pub record IsEntry (p : Code) (m : List ℕ) (arguments : List ℤ) : Type 0 where
  pub defined : IsSome (p.functions m).body
  pub numbers : All (λ s. IsNone s.cells) (take (p.functions m).params (p.functions m).slots)
  pub given : length arguments ≡ (p.functions m).params

-- the start of a run: the entry is the first call, and there may be too many cells for it
abbrev pub start : Code → List ℕ → List ℤ → List ℕ → List ℤ → State
start p m arguments input answers =
    begin_call m (items_of (p.functions m)) (push (p.functions m) (map Integer arguments) (world_at_start p input answers)) [] (world_at_start p input answers)

-- how the run of an entry stands after n steps, on an input and a list of answers
abbrev pub jump_run : Code → List ℕ → List ℤ → List ℕ → List ℤ → ℕ → Shown
jump_run p m arguments input answers n = shows (run p n (start p m arguments input answers))

-- the run has ended or met a trap
abbrev pub IsOver : Shown → Type 0
IsOver (Ended n es) = Unit {0}
IsOver (Trapped t es) = Unit {0}
IsOver (More es) = ⊥

-- n is the number of steps of a run: the least at which it is over
pub record TakesSteps (R : ℕ → Shown) (n : ℕ) : Type 0 where
  pub over : IsOver (R n)
  pub before : (m : ℕ) → m < n → ¬ (IsOver (R m))

-- two programs have the same entries, and their runs from each, on each input and all answers, behave the same
pub record SameBehaviour (p q : Code) : Type 0 where
  pub entries : (m : List ℕ) (arguments : List ℤ) → IsEntry p m arguments ↔ IsEntry q m arguments
  pub runs : (m : List ℕ) (arguments : List ℤ) → IsEntry p m arguments → (input : List ℕ) (answers : List ℤ)
      → AreSameRuns (jump_run p m arguments input answers) (jump_run q m arguments input answers)

-- two resolved programs have the same entries, and their runs from each, on each input and all answers, behave the same
pub record BehaveTheSame (p q : Program) : Type 0 where
  pub codes : SameBehaviour (code_of p) (code_of q)
