-- What `better_laws`, `move_laws`, `program_laws` and `behaviour_laws` state: to be at least as good is kept in every context, each of the four rules
-- makes a well made body at least as good, and so a steady program with it behaves the same.
use Rattle.std.specs.Prelude.{ℕ, ℤ, List, All}
use Rattle.c_tree.specs.declared.tree.Item.{Item}
use Rattle.c_tree.specs.declared.tree.Branch.{Branch}
use Rattle.c_tree.specs.declared.tree.Step.{Step}
use Rattle.c_tree.specs.declared.tree.Path.{Path}
use Rattle.c_tree.specs.declared.tree.Program.{Program}
use Rattle.c_tree.specs.Trees.{Forest, trees_of}
use Rattle.c_tree.specs.Changed.{Changed}
use Rattle.c_tree.specs.Moves.{Moved}
use Rattle.c_tree.specs.Join.{Joins}
use Rattle.c_tree.specs.Lift.{Lifts}
use Rattle.c_tree.specs.Outward.{MovesOut}
use Rattle.c_tree.specs.Inward.{MovesIn}
use Rattle.c_tree.specs.WellMade.{IsWellMade}
use Rattle.c_tree.specs.InRange.{IsProgramInRange}
use Rattle.jump_meaning.specs.Code.{code_of}
use Rattle.jump_meaning.specs.Runs.{BehaveTheSame}
use Rattle.jump_meaning.specs.Steady.{IsTopMadeWell, IsSteady}
use Rattle.core_laws.specs.Core.{core_code}
use Rattle.core_laws.specs.Better.{LeCode, Better}
use Rattle.move_laws.specs.Bodies.{OneBodyChanged, MovesWell, KeepsBehaviour}

-- a preorder of lists, which holds of a whole where it holds of a part
pub record BetterLaws : Type 0 where
  pub itself : (xs : Forest) → Better xs xs
  pub chain : (xs ys zs : Forest) → Better xs ys → Better ys zs → Better xs zs
  -- of two lists that are equal but for one place
  pub anywhere : (xs ys : Forest) → Changed Better xs ys → Better xs ys

-- the body `new` is at least as good as `old`, which is well made
abbrev pub MakesBetter : List Item → List Item → Type 0
MakesBetter old new = IsWellMade (trees_of old) → Better (trees_of old) (trees_of new)

-- each of the four rules
pub record MoveLaws : Type 0 where
  -- on plain lists, at any place of a well made one
  pub moved : (xs ys : Forest) → Changed Moved xs ys → IsWellMade xs → Better xs ys
  -- and on the items of a body
  pub joins : (l i j : ℕ) (steps : List Step) (old new : List Item) → Joins l i j steps old new → MakesBetter old new
  pub lifts : (l i j : ℕ) (steps : List Step) (old new : List Item) (to : Path) → Lifts l i j steps old new to → MakesBetter old new
  pub moves_out : (l : ℕ) (outer : List Step) (last : Step) (i : ℕ) (old new : List Item) (to : Path) → MovesOut l outer last i old new to → MakesBetter old new
  pub moves_in : (l : ℕ) (n : ℤ) (i j : ℕ) (b : Branch) (steps : List Step) (old new : List Item) (to : Path) → MovesIn l n i j b steps old new to →
      MakesBetter old new

-- a rule in one body of a program
pub record ProgramLaws : Type 0 where
  -- it stays in range, and made well
  pub ranged : (p q : Program) → OneBodyChanged MovesWell p.tops q.tops → IsProgramInRange p → IsProgramInRange q
  pub made : (p q : Program) → OneBodyChanged MovesWell p.tops q.tops → All IsTopMadeWell p.tops → All IsTopMadeWell q.tops
  -- its core stays, but Arms may become gotos
  pub core : (p q : Program) → OneBodyChanged MovesWell p.tops q.tops → LeCode (core_code (code_of p)) (core_code (code_of q))

-- the rule that makes the body `new` of `old`, which is well made, keeps behaviour
abbrev pub Keeps : List Item → List Item → Type 0
Keeps old new = IsWellMade (trees_of old) → KeepsBehaviour old new

-- a rule in one body of a steady program
pub record BehaviourLaws : Type 0 where
  -- it stays steady, and behaves the same
  pub steady : (p q : Program) → OneBodyChanged MovesWell p.tops q.tops → IsSteady p → IsSteady q × BehaveTheSame p q
  -- and so for each rule
  pub joins : (l i j : ℕ) (steps : List Step) (old new : List Item) → Joins l i j steps old new → Keeps old new
  pub lifts : (l i j : ℕ) (steps : List Step) (old new : List Item) (to : Path) → Lifts l i j steps old new to → Keeps old new
  pub moves_out : (l : ℕ) (outer : List Step) (last : Step) (i : ℕ) (old new : List Item) (to : Path) → MovesOut l outer last i old new to → Keeps old new
  pub moves_in : (l : ℕ) (n : ℤ) (i j : ℕ) (b : Branch) (steps : List Step) (old new : List Item) (to : Path) → MovesIn l n i j b steps old new to →
      Keeps old new
