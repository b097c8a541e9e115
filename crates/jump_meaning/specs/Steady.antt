-- Steady programs: in each run a guard that is set leads silently to its label, and the source meets no guard
-- that is set (this project).
use Rattle.std.specs.Prelude.{ℕ, ◌≡◌, ◌≢◌, ◌<◌, ℤ, true, false, List, [], ◌∷◌, All}
use Rattle.c_tree.specs.declared.tree.Function.{Function}
use Rattle.c_tree.specs.declared.tree.Top.{Top}
use Rattle.c_tree.specs.declared.tree.Top.TheVariants as T
use Rattle.c_tree.specs.declared.tree.Program.{Program}
use Rattle.c_tree.specs.TestTrees.{Source, Selects}
use Rattle.c_tree.specs.Trees.{Tree, If, While, Do, Switch, Goto, Mark, Arm, Leap, Land}
use Rattle.c_tree.specs.Everywhere.{Everywhere}
use Rattle.c_tree.specs.InRange.{body_of, IsProgramInRange}
use Rattle.c_tree.specs.WellMade.{IsWellMade}
use Rattle.jump_meaning.specs.Code.{Code, items_of, code_of}
use Rattle.jump_meaning.specs.Behaviour.{events_of}
use Rattle.jump_meaning.specs.Effects.{Computes}
use Rattle.jump_meaning.specs.Tasks.{Task, Runs, Works, Asks, Branches, Turns, Loops, AsksSelector, Enters, EndsSection, Out}
use Rattle.jump_meaning.specs.Search.{find}
use Rattle.jump_meaning.specs.Step.{Guards, Frame, Waits, State, At}
use Rattle.jump_meaning.specs.Runs.{run, shows, IsEntry, start}

-- ---- of functions

-- no Goto and no Mark
abbrev pub IsUnjumping : Tree → Type 0
IsUnjumping (Goto l) = ⊥
IsUnjumping (Mark l) = ⊥
IsUnjumping _ = Unit {0}

-- no Arm, Leap and Land
abbrev pub IsUnarmed : Tree → Type 0
IsUnarmed (Arm l e) = ⊥
IsUnarmed (Leap l) = ⊥
IsUnarmed (Land l) = ⊥
IsUnarmed _ = Unit {0}

-- a flat function that holds no Goto and no Mark
pub record IsConvertedFunction (f : Function) : Type 0 where
  pub flat : f.flat ≡ true
  pub unjumping : Everywhere IsUnjumping (body_of f)

-- such a function has a well made body, and every other has no Arm, Leap and Land
pub record IsMadeWell (f : Function) : Type 0 where
  pub converted : IsConvertedFunction f → IsWellMade (body_of f)
  pub other : ¬ (IsConvertedFunction f) → Everywhere IsUnarmed (body_of f)

-- a function at file scope is made well
abbrev pub IsTopMadeWell : Top → Type 0
IsTopMadeWell (T.Function f) = IsMadeWell f
IsTopMadeWell _ = Unit {0}

-- ---- of states

-- all guards are 0
abbrev pub AllReset : Guards → Type 0
AllReset g = (l : ℕ) → g l ≡ false

-- at most one guard is 1
abbrev pub AtMostOneSet : Guards → Type 0
AtMostOneSet g = (l m : ℕ) → g l ≡ true → g m ≡ true → l ≡ m

-- the next task is an expression of the source, or an item of the source other than an If, While, Do or Switch: a
-- For, Block, Evaluate, Return, Break, Continue, Goto, Mark, Local, Arrival or Note
abbrev pub IsSourceTask : List Task → Type 0
IsSourceTask (Works (Computes e) ∷ k) = Unit {0}
IsSourceTask (Runs (If t a b) ∷ k) = ⊥
IsSourceTask (Runs (While t a) ∷ k) = ⊥
IsSourceTask (Runs (Do a t) ∷ k) = ⊥
IsSourceTask (Runs (Switch s c) ∷ k) = ⊥
IsSourceTask (Runs (Arm l e) ∷ k) = ⊥
IsSourceTask (Runs (Leap l) ∷ k) = ⊥
IsSourceTask (Runs (Land l) ∷ k) = ⊥
IsSourceTask (Runs _ ∷ k) = Unit {0}
IsSourceTask _ = ⊥

-- a task that may stand on the silent way to label l
abbrev pub IsSilentTask : ℕ → List Task → Type 0
IsSilentTask l (Runs (If t a b) ∷ k) = Unit {0}
IsSilentTask l (Runs (While t a) ∷ k) = Unit {0}
IsSilentTask l (Runs (Do a t) ∷ k) = Unit {0}
IsSilentTask l (Runs (Switch s c) ∷ k) = Unit {0}
IsSilentTask l (Runs (Leap m) ∷ k) = Unit {0}
IsSilentTask l (Runs (Land m) ∷ k) = l ≢ m
IsSilentTask l (Asks (Source e) ∷ k) = ⊥
IsSilentTask l (Asks t ∷ k) = Unit {0}
IsSilentTask l (AsksSelector (Selects e) ∷ k) = ⊥
IsSilentTask l (AsksSelector s ∷ k) = Unit {0}
IsSilentTask l (EndsSection ∷ k) = Unit {0}
IsSilentTask l (Branches a b ∷ k) = Unit {0}
IsSilentTask l (Turns x ∷ k) = Unit {0}
IsSilentTask l (Enters kind c ∷ k) = Unit {0}
IsSilentTask l (Loops x ∷ k) = Unit {0}
IsSilentTask l (Out ∷ k) = Unit {0}
IsSilentTask l _ = ⊥

-- the run goes on, and its next task is a silent one
abbrev pub IsSilent : ℕ → State → Type 0
IsSilent l (At f g k v cs w) = IsSilentTask l k
IsSilent l _ = ⊥

-- the call of m behind which the calls ds wait is at the Land of l, with the tasks that a jump there has
abbrev pub HasLanded : Code → List ℕ → List Frame → ℕ → State → Type 0
HasLanded p m ds l (At f g (Runs (Land n) ∷ k) v cs w) = (f ≡ m) × (cs ≡ ds) × (n ≡ l) × (find l (items_of (p.functions m)) ≡ Runs (Land n) ∷ k)
HasLanded p m ds l _ = ⊥

-- after some steps, each of them silent and none with an event, the run is there
pub record LeadsTo (p : Code) (m : List ℕ) (ds : List Frame) (l : ℕ) (c : State) : Type 0 where
  pub steps : ℕ
  pub silent : (i : ℕ) → i < steps → IsSilent l (run p i c)
  pub eventless : events_of (shows (run p steps c)) ≡ events_of (shows c)
  pub landed : HasLanded p m ds l (run p steps c)

-- a call of m with these guards and tasks, behind which the calls ds wait, in a run that stands at c
pub record IsSteadyCall (p : Code) (c : State) (m : List ℕ) (g : Guards) (k : List Task) (ds : List Frame) : Type 0 where
  pub single : AtMostOneSet g
  pub reset : IsSourceTask k → AllReset g
  pub leads : (l : ℕ) → g l ≡ true → LeadsTo p m ds l c

-- each call that waits
abbrev pub AreSteadyFrames : Code → State → List Frame → Type 0
AreSteadyFrames p c [] = Unit {0}
AreSteadyFrames p c (Waits f g k v ∷ ds) = IsSteadyCall p c f g k ds × AreSteadyFrames p c ds

-- each call of a state
abbrev pub IsSteadyState : Code → State → Type 0
IsSteadyState p (At f g k v cs w) = IsSteadyCall p (At f g k v cs w) f g k cs × AreSteadyFrames p (At f g k v cs w) cs
IsSteadyState p _ = Unit {0}

-- ---- of programs

-- in each state that a run of the program reaches
pub record IsSteadyCode (p : Code) : Type 0 where
  pub at : (m : List ℕ) (arguments : List ℤ) → IsEntry p m arguments → (input : List ℕ) (answers : List ℤ) (n : ℕ)
      → IsSteadyState p (run p n (start p m arguments input answers))

-- it is in range, its functions are made well, and its runs are steady
pub record IsSteady (p : Program) : Type 0 where
  pub ranged : IsProgramInRange p
  pub made : All IsTopMadeWell p.tops
  pub states : IsSteadyCode (code_of p)
