-- What a call has still to do: its tasks, and how lists of items become tasks (6.8).
use Rattle.std.specs.Prelude.{ℕ, Bool, true, false, List, [], ◌∷◌, Option}
use Rattle.c_types.specs.declared.kinds.IntKind.{IntKind}
use Rattle.c_tree.specs.ExpressionTrees.{ExpressionTree}
use Rattle.c_tree.specs.TestTrees.{TestTree, SelectorTree}
use Rattle.c_tree.specs.Trees.{Tree, Forest, Nil, Then, Sections, NoSection, Section, Do}
use Rattle.jump_meaning.specs.Effects.{Op}

-- a loop: of a `for` the test, the third part and the body, since its first part is behind it
pub data Loop : Type 0 where
  WhileLoop : TestTree → Forest → Loop
  DoLoop : Forest → TestTree → Loop
  ForLoop : Option ExpressionTree → Option ExpressionTree → Forest → Loop

-- one thing that a call has still to do
pub data Task : Type 0 where
  Runs : Tree → Task
  Works : Op → Task
  -- leaves 0 or another number: whether the test holds
  Asks : TestTree → Task
  -- takes whether the test holds: the first list if so, else the second
  Branches : Forest → Forest → Task
  -- takes whether the test holds: a further turn of the loop if so, else nothing
  Turns : Loop → Task
  -- behind the body of a loop: `continue` comes here, and `break` behind it
  Loops : Loop → Task
  -- the test of a `for`
  Heads : Option ExpressionTree → Option ExpressionTree → Forest → Task
  -- takes the value that decides the guard of the label
  Arms : ℕ → Task
  -- leaves the value of the selector
  AsksSelector : SelectorTree → Task
  -- takes the value of the selector, in the promoted kind that is named
  Enters : IntKind → Sections → Task
  -- the `break` that ends a section
  EndsSection : Task
  -- behind a switch: `break` comes here
  Out : Task

-- the items of a list, before other tasks
abbrev pub items : Forest → List Task → List Task
items Nil k = k
items (Then x xs) k = Runs x ∷ items xs k

-- tasks of an expression, before other tasks
abbrev pub works : List Op → List Task → List Task
works [] k = k
works (o ∷ os) k = Works o ∷ works os k

-- the `break` behind a section that ends with one
abbrev pub end_of : Bool → List Task → List Task
end_of true k = EndsSection ∷ k
end_of false k = k

-- the lists of sections, which fall into one another, and what is behind their switch (6.8.4.2)
abbrev pub tail_tasks : Sections → List Task → List Task
tail_tasks NoSection k = Out ∷ k
tail_tasks (Section cases default a ends c) k = items a (end_of ends (tail_tasks c k))

-- a further turn of a loop (6.8.5)
abbrev pub turn : Loop → List Task → List Task
turn (WhileLoop t a) k = items a (Loops (WhileLoop t a) ∷ k)
turn (DoLoop a t) k = Runs (Do a t) ∷ k
turn (ForLoop t u a) k = items a (Loops (ForLoop t u a) ∷ k)

-- `break`: the tasks behind the nearest loop or switch (6.8.6.3)
abbrev pub cut : List Task → List Task
cut [] = []
cut (Loops x ∷ k) = k
cut (Out ∷ k) = k
cut (_ ∷ k) = cut k

-- `continue`: the tasks from the end of the nearest loop's body on (6.8.6.2)
abbrev pub cut_to : List Task → List Task
cut_to [] = []
cut_to (Loops x ∷ k) = Loops x ∷ k
cut_to (_ ∷ k) = cut_to k
