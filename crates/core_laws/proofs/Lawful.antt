-- What an invariant of runs says of the items of a body, for its core to run as it does.
use Rattle.std.proofs.Common.{Option, None, ℕ, false, List, [], ◌∷◌, ◌≡◌}
use Rattle.c_tree.specs.ExpressionTrees.{ExpressionTree}
use Rattle.c_tree.specs.TestTrees.{SelectorTree}
use Rattle.c_tree.specs.Trees.{Sections, NoSection, Section, Switch, Break, Continue, Arm, Leap, Land}
use Rattle.c_tree.specs.Labels.{lands}
use Rattle.jump_meaning.specs.Values.{Value}
use Rattle.jump_meaning.specs.Code.{Code}
use Rattle.jump_meaning.specs.World.{World}
use Rattle.jump_meaning.specs.Tasks.{Task, Runs, Arms, EndsSection}
use Rattle.jump_meaning.specs.Search.{Goal, enters_switches, seek, find}
use Rattle.jump_meaning.specs.Step.{Guards, Frame, Waits, State, At, is_dropped, step}
use Rattle.core_laws.proofs.TaskCores.{task_core}
use Rattle.core_laws.proofs.Lookup.{HasKeptExit, HasKeptLoop}
use Rattle.core_laws.proofs.Reach.{body_in}

-- no case label stands inside a list of the sections
abbrev pub HasNoInnerCase : Sections → Type 0
HasNoInnerCase NoSection = Unit {0}
HasNoInnerCase (Section cases default a ends c) = ((goal : Goal) → enters_switches goal ≡ false → (k : List Task) → seek goal a k ≡ None) × HasNoInnerCase c

-- the label has one Land in the function
abbrev pub IsLanded : Code → List ℕ → ℕ → Type 0
IsLanded p f l = lands l (body_in p f) ≡ 1

-- whether the caller drops the value of a call is the same in its core
abbrev pub SeesDrop : List Frame → Type 0
SeesDrop [] = Unit {0}
SeesDrop (Waits f g k v ∷ cs) = is_dropped (task_core k) ≡ is_dropped k

-- what an invariant of runs says at items
pub record Lawful (p : Code) (Inv : State → Type 0) : Type 0 where
  pub next : (c : State) → Inv c → Inv (step p c)
  pub at_leap : (l : ℕ) (f : List ℕ) (g : Guards) (k : List Task) (v : List Value) (cs : List Frame) (w : World) →
      Inv (At f g (Runs (Leap l) ∷ k) v cs w) → (k' : List Task) × (find l (body_in p f) ≡ Runs (Land l) ∷ k')
  pub at_land : (l : ℕ) (f : List ℕ) (g : Guards) (k : List Task) (v : List Value) (cs : List Frame) (w : World) →
      Inv (At f g (Runs (Land l) ∷ k) v cs w) → IsLanded p f l → find l (body_in p f) ≡ Runs (Land l) ∷ k
  pub at_switch : (s : SelectorTree) (c : Sections) (l : ℕ) (f : List ℕ) (g : Guards) (k : List Task) (v : List Value) (cs : List Frame) (w : World) →
      Inv (At f g (Runs (Switch s c) ∷ k) v cs w) → IsLanded p f l → HasNoInnerCase c
  pub at_break : (f : List ℕ) (g : Guards) (k : List Task) (v : List Value) (cs : List Frame) (w : World) → Inv (At f g (Runs Break ∷ k) v cs w) → HasKeptExit k
  pub at_continue : (f : List ℕ) (g : Guards) (k : List Task) (v : List Value) (cs : List Frame) (w : World) →
      Inv (At f g (Runs Continue ∷ k) v cs w) → HasKeptLoop k
  -- an Arm, and what takes the value of its condition
  pub at_arm : (l : ℕ) (e : Option ExpressionTree) (f : List ℕ) (g : Guards) (k : List Task) (v : List Value) (cs : List Frame) (w : World) →
      Inv (At f g (Runs (Arm l e) ∷ k) v cs w) → IsLanded p f l
  pub at_arms : (l : ℕ) (f : List ℕ) (g : Guards) (k : List Task) (v : List Value) (cs : List Frame) (w : World) → Inv (At f g (Arms l ∷ k) v cs w) →
      IsLanded p f l
  pub at_end : (f : List ℕ) (g : Guards) (k : List Task) (v : List Value) (cs : List Frame) (w : World) → Inv (At f g (EndsSection ∷ k) v cs w) → HasKeptExit k
  -- the end of a call
  pub at_leave : (f : List ℕ) (g : Guards) (k : List Task) (v : List Value) (cs : List Frame) (w : World) → Inv (At f g k v cs w) → SeesDrop cs
