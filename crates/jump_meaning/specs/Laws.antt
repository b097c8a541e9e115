-- The laws of runs and of same behaviour, which `memory_laws`, `search_laws`, `run_laws`, `sameness_laws` and `steady_laws` state.
use Rattle.std.specs.Prelude.{ℕ, suc, ◌+◌, ◌≤◌, ◌<◌, ◌≡◌, ◌≢◌, ◌⊎◌, ℤ, pos, false, List, [], ◌++◌, All, Some, IsSome, option_map}
use Rattle.c_types.specs.Numbers.{converted}
use Rattle.c_tree.specs.declared.tree.Home.{Home}
use Rattle.c_tree.specs.declared.tree.Top.{Top}
use Rattle.c_tree.specs.declared.tree.Top.TheVariants as T
use Rattle.c_tree.specs.declared.tree.Program.{Program}
use Rattle.c_tree.specs.Trees.{Forest, Sections}
use Rattle.c_tree.specs.Everywhere.{Everywhere}
use Rattle.c_tree.specs.InRange.{IsUnguarded, IsProgramInRange}
use Rattle.jump_meaning.specs.Values.{Event, Owner, OfFile, OfCall, Variable, Holds, Lent, Value, Designates}
use Rattle.jump_meaning.specs.Code.{FunctionTree, Code, items_of}
use Rattle.jump_meaning.specs.World.{World, owner, cells_held, load, store, clear, kind_at, slot_at_start, enter_call}
use Rattle.jump_meaning.specs.Behaviour.{Shown, More, Covers, AreSameRuns}
use Rattle.jump_meaning.specs.Tasks.{Task}
use Rattle.jump_meaning.specs.Search.{Goal, seek, seek_sections}
use Rattle.jump_meaning.specs.Found.{IsFound, IsFoundAmong}
use Rattle.jump_meaning.specs.Step.{State}
use Rattle.jump_meaning.specs.Runs.{run, shows, IsOver, TakesSteps, SameBehaviour}
use Rattle.jump_meaning.specs.Steady.{IsSteadyCode, IsSteady}

-- a variable with numbers of its own
abbrev pub HoldsNumbers : Variable → Type 0
HoldsNumbers (Holds k n cells) = Unit {0}
HoldsNumbers (Lent o) = ⊥

-- a variable of the file, or of a call that is present
abbrev pub IsPresent : World → Owner → Type 0
IsPresent w (OfFile m) = Unit {0}
IsPresent w (OfCall c x) = c ≤ w.calls

-- memory: what is stored is read again, and nothing else changes
pub record MemoryLaws : Type 0 where
  -- a cell holds what was stored there, converted to its kind
  pub stored : (o : Owner) (i : ℕ) (z : ℤ) (w : World) → HoldsNumbers (w.variables o) →
      load (Designates o i) (store (Designates o i) z w) ≡ converted (kind_at (Designates o i) w) z
  -- each other cell holds what it held
  pub beside : (o p : Owner) (i j : ℕ) (z : ℤ) (w : World) → (o ≢ p) ⊎ (i ≢ j) → load (Designates p j) (store (Designates o i) z w) ≡ load (Designates p j) w
  -- kinds, lengths, and which arrays are lent to whom stay
  pub kinds : (p q : Value) (z : ℤ) (w : World) → kind_at q (store p z w) ≡ kind_at q w
  pub lengths : (p : Value) (z : ℤ) (w : World) (o : Owner) → cells_held ((store p z w).variables o) ≡ cells_held (w.variables o)
  pub lendings : (h : Home) (p : Value) (z : ℤ) (w : World) → owner h (store p z w) ≡ owner h w
  -- the cells of a variable from n on are 0 once they are cleared, and nothing else changes: no other cell, and no place behind its last cell
  pub cleared : (h : Home) (n i : ℕ) (w : World) → n ≤ i → i < cells_held (w.variables (owner h w)) → load (Designates (owner h w) i) (clear h n w) ≡ pos 0
  pub uncleared : (h : Home) (n : ℕ) (o : Owner) (i : ℕ) (w : World) → (owner h w ≢ o) ⊎ (i < n) → load (Designates o i) (clear h n w) ≡ load (Designates o i) w
  pub beyond : (h : Home) (n i : ℕ) (w : World) → cells_held (w.variables (owner h w)) ≤ i →
      load (Designates (owner h w) i) (clear h n w) ≡ load (Designates (owner h w) i) w
  -- a call changes no variable of the file or of a caller, and its own slots are those of its start
  pub present : (f : FunctionTree) (vs : List Value) (w : World) (o : Owner) → IsPresent w o → (enter_call f vs w).variables o ≡ w.variables o
  pub entered : (f : FunctionTree) (vs : List Value) (w : World) (x : ℕ) → (enter_call f vs w).variables (OfCall (suc w.calls) x) ≡ slot_at_start f vs x

-- searches, against the relation that says where a label stands
pub record SearchLaws : Type 0 where
  -- what a search comes to in a list, and in the sections of a switch, is the label and what follows it
  pub found : (l : Goal) (a : Forest) (i : List Task) → seek l a [] ≡ Some i → IsFound l a i
  pub entered : (l : Goal) (c : Sections) (i : List Task) → seek_sections l c [] ≡ Some i → IsFoundAmong l c i
  -- it comes to a label if there is one
  pub sought : (l : Goal) (a : Forest) (i : List Task) → IsFound l a i → IsSome (seek l a [])
  pub reached : (l : Goal) (c : Sections) (i : List Task) → IsFoundAmong l c i → IsSome (seek_sections l c [])
  -- the tasks behind a list stay behind what is found
  pub behind : (l : Goal) (a : Forest) (k : List Task) → seek l a k ≡ option_map (λ i. i ++ k) (seek l a [])

-- a relation that holds of each thing and itself, both ways, and in chains
pub record IsEquivalence {A : Type 0} (E : A → A → Type 0) : Type 0 where
  pub reflexive : (a : A) → E a a
  pub symmetric : (a b : A) → E a b → E b a
  pub transitive : (a b c : A) → E a b → E b c → E a c

-- same behaviour is an equivalence, of runs and of programs
pub record SamenessLaws : Type 0 where
  pub of_runs : IsEquivalence AreSameRuns
  pub of_programs : IsEquivalence SameBehaviour

-- runs of programs by steps
pub record RunLaws : Type 0 where
  -- a run of m + n steps is one of m steps and one of n steps from there
  pub sums : (p : Code) (m n : ℕ) (c : State) → run p (m + n) c ≡ run p n (run p m c)
  -- a run that is over stays as it is
  pub stays : (p : Code) (n : ℕ) (c : State) → IsOver (shows c) → run p n c ≡ c
  -- what a run shows, it shows later too, and maybe more
  pub grows : (p : Code) (m n : ℕ) (c : State) → m ≤ n → Covers (shows (run p m c)) (shows (run p n c))
  -- the number of steps of a run is one number
  pub alone : (R : ℕ → Shown) (m n : ℕ) → TakesSteps R m → TakesSteps R n → m ≡ n
  -- and it is n + 1 where the run goes on after n steps and is over after the next
  pub counted : (p : Code) (c : State) (n : ℕ) (es : List Event) → shows (run p n c) ≡ More es → IsOver (shows (run p (suc n) c)) →
      TakesSteps (λ m. shows (run p m c)) (suc n)

-- a function that is not flat, as every function of a source is
abbrev pub IsTopUnflat : Top → Type 0
IsTopUnflat (T.Function f) = f.flat ≡ false
IsTopUnflat _ = Unit {0}

-- programs whose guards are never set
pub record SteadyLaws : Type 0 where
  -- where no function has anything to do with guards, all states are steady
  pub of_codes : (p : Code) → ((m : List ℕ) → Everywhere IsUnguarded (items_of (p.functions m))) → IsSteadyCode p
  -- a program in range without flat functions is steady
  pub of_programs : (p : Program) → IsProgramInRange p → All IsTopUnflat p.tops → IsSteady p
