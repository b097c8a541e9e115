-- What `plain_laws` states: the plain form keeps behaviour.
use Rattle.std.specs.Prelude.{ℕ, ◌≡◌, ◌≤◌, ◌↔◌, true, ℤ, List, length, All}
use Rattle.c_tree.specs.declared.tree.Item.{Item}
use Rattle.c_tree.specs.declared.tree.Slot.{Slot}
use Rattle.c_tree.specs.declared.tree.Function.{Function}
use Rattle.c_tree.specs.declared.tree.Top.{Top}
use Rattle.c_tree.specs.declared.tree.Top.TheVariants as T
use Rattle.c_tree.specs.declared.tree.Program.{Program}
use Rattle.c_tree.specs.Trees.{Tree, Forest, Leap}
use Rattle.c_tree.specs.Changed.{Changed}
use Rattle.c_tree.specs.Moves.{Moved}
use Rattle.c_tree.specs.Everywhere.{Everywhere}
use Rattle.c_tree.specs.InRange.{body_of, IsInRange, IsProgramInRange}
use Rattle.c_tree.specs.WellMade.{IsWellMade}
use Rattle.jump_meaning.specs.Code.{Code, code_of}
use Rattle.c_tree.specs.Jumps.{is_jump_free_program, is_plain_program}
use Rattle.jump_meaning.specs.Behaviour.{AreSameRuns}
use Rattle.jump_meaning.specs.Runs.{IsEntry, jump_run, SameBehaviour, BehaveTheSame}
use Rattle.jump_meaning.specs.Steady.{IsSteady}
use Rattle.struct_meaning.specs.Runs.{structural_run}
use Rattle.plain_laws.specs.Kinded.{KindedItem, Grown, SameKinds}
use Rattle.plain_laws.specs.Signatures.{SameTops}
use Rattle.plain_laws.specs.Slotted.{Guarding, slotted_code, IsSlottedCode}
use Rattle.plain_laws.specs.Tidied.{tidy_code}
use Rattle.plain_laws.specs.Plain.{names_left, plain_with}

-- an item that is no Leap
abbrev pub IsNoLeap : Tree → Type 0
IsNoLeap (Leap l) = ⊥
IsNoLeap _ = Unit {0}

-- a function to which no move applies any more, where names are given to the guards of its labels
pub record IsFinishedFunction (p : Code) (names : Function → List (List ℕ)) (f : Function) : Type 0 where
  -- its kinds agree
  pub kinded : Everywhere (KindedItem p f.slots) (body_of f)
  -- where it is flat, its body is well made, and no Leap is left
  pub made : f.flat ≡ true → IsWellMade (body_of f)
  pub leapless : f.flat ≡ true → Everywhere IsNoLeap (body_of f)
  -- a name for each label
  pub named : length (names f) ≡ length f.labels

-- and which is in range: it is ready for its plain form
pub record IsReady (p : Code) (names : Function → List (List ℕ)) (f : Function) : Type 0 where
  pub ranged : IsInRange f
  pub finished : IsFinishedFunction p names f

-- a function at file scope is ready for its plain form
abbrev pub IsTopReady : Code → (Function → List (List ℕ)) → Top → Type 0
IsTopReady p names (T.Function f) = IsReady p names f
IsTopReady p names _ = Unit {0}

-- each function of the program is ready
abbrev pub IsProgramReady : (Function → List (List ℕ)) → Program → Type 0
IsProgramReady names p = All (IsTopReady (code_of p) names) p.tops

-- two programs have the same entries, and the runs by steps of the first and the structural runs of the second behave the
-- same from each
pub record BehavesAsStructured (p q : Program) : Type 0 where
  pub entries : (m : List ℕ) (arguments : List ℤ) → IsEntry (code_of p) m arguments ↔ IsEntry (code_of q) m arguments
  pub runs : (m : List ℕ) (arguments : List ℤ) → IsEntry (code_of p) m arguments → (input : List ℕ) (answers : List ℤ)
      → AreSameRuns (jump_run (code_of p) m arguments input answers) (structural_run (code_of q) m arguments input answers)

-- no move applies any more to a function at file scope
abbrev pub IsTopFinished : Code → (Function → List (List ℕ)) → Top → Type 0
IsTopFinished p names (T.Function f) = IsFinishedFunction p names f
IsTopFinished p names _ = Unit {0}

-- each function of the program is finished
abbrev pub IsFinished : (Function → List (List ℕ)) → Program → Type 0
IsFinished names p = All (IsTopFinished (code_of p) names) p.tops

-- the plain form of a program behaves as the program, and is plain where no jump is left
pub record PlainLaws : Type 0 where
  -- variables for guards
  pub of_guards : (p : Code) (g : List ℕ → Guarding) → IsSlottedCode p g → SameBehaviour p (slotted_code g p)
  -- sections in their plain form
  pub of_sections : (p : Code) → SameBehaviour p (tidy_code p)
  -- the plain form of a program that is ready
  pub of_programs : (names : Function → List (List ℕ)) (p : Program) → IsProgramReady names p → BehaveTheSame p (plain_with names p)
  -- which is in range
  pub ranged : (names : Function → List (List ℕ)) (p : Program) → IsProgramReady names p → IsProgramInRange (plain_with names p)
  -- and of the labels of a function at most each has a variable
  pub few : (xs : List Item) (names : List (List ℕ)) → length (names_left xs 0 names) ≤ length names
  -- where no jump is left, it is plain
  pub plain : (names : Function → List (List ℕ)) (p : Program) → is_jump_free_program p ≡ true → is_plain_program (plain_with names p) ≡ true
  -- and then the program by steps and its plain form by structure behave the same
  pub meanings : (names : Function → List (List ℕ)) (p : Program) → IsProgramReady names p → is_jump_free_program p ≡ true →
      BehavesAsStructured p (plain_with names p)
  -- a steady program is ready if its flat functions are well made and have no Leap, its kinds agree, and each label has a name
  pub of_steady : (names : Function → List (List ℕ)) (p : Program) → IsSteady p → IsFinished names p → IsProgramReady names p
  -- kinds that agree do so in each program with functions and variables of the same kinds, and with more slots
  pub of_kinds : (p q : Code) (ss ss' : List Slot) → SameKinds p q → Grown ss ss' → (x : Tree) → KindedItem p ss x → KindedItem q ss' x
  -- and each move keeps them
  pub of_moves : (p : Code) (ss : List Slot) {xs ys : Forest} → Changed Moved xs ys → Everywhere (KindedItem p ss) xs → Everywhere (KindedItem p ss) ys
  -- programs whose functions have the same signatures have functions and variables of the same kinds
  pub of_signatures : (p q : Program) → SameTops p.tops q.tops → SameKinds (code_of p) (code_of q)
