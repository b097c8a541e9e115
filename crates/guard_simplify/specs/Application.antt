-- The body after a simplification, and after many.
use Rattle.std.specs.Prelude.{◌≡◌, ℕ, zero, suc, eqb, List, [], ◌∷◌, ◌++◌, Option, Some, None}
use Rattle.c_tree.specs.declared.tree.Item.{Item}
use Rattle.c_tree.specs.Paths.{list_at, put_at}
use Rattle.c_tree.specs.TestTrees.{TestTree, AndOff, OrOn, SelectorTree, Pick}
use Rattle.c_tree.specs.Trees.{Tree, Forest, Nil, Then, If, While, Do, Switch, join, trees_of}
use Rattle.move_laws.specs.Simplifications.{round}
use Rattle.move_laws.specs.Drops.{dropped}
use Rattle.report_moves.specs.declared.moves.MoveKind.{MoveKind}
use Rattle.report_moves.specs.declared.moves.MoveKind.TheVariants.{Z1, Z2, Z3, Z4, Z5}
use Rattle.guard_simplify.specs.declared.choice.Choice.{Choice}
use Rattle.guard_simplify.specs.declared.choice.Repeat.{Repeat}
use Rattle.guard_simplify.specs.Choice.{repeat, repeat_pick, choices, first}

-- ---- one wrapper fewer

-- without the wrapper that n wrappers stand round
abbrev pub without : ℕ → TestTree → TestTree
without zero (AndOff l t) = t
without zero (OrOn l t) = t
without (suc n) (AndOff l t) = AndOff l (without n t)
without (suc n) (OrOn l t) = OrOn l (without n t)
without _ t = t

-- a selector without the wrapper that n wrappers stand round
abbrev pub without_pick : ℕ → SelectorTree → SelectorTree
without_pick zero (Pick l k s) = s
without_pick (suc n) (Pick l k s) = Pick l k (without_pick n s)
without_pick _ s = s

-- without the wrapper that was found, if there is one
abbrev pub without_repeat : Option Repeat → TestTree → TestTree
without_repeat None t = t
without_repeat (Some r) t = without r.at t

-- a selector without the wrapper that was found, if there is one
abbrev pub without_repeat_pick : Option Repeat → SelectorTree → SelectorTree
without_repeat_pick None s = s
without_repeat_pick (Some r) s = without_pick r.at s

-- the item without the first wrapper of its test or selector that repeats another
abbrev pub shortened : Tree → Tree
shortened (If t a b) = If (without_repeat (repeat [] [] t) t) a b
shortened (While t a) = While (without_repeat (repeat [] [] t) t) a
shortened (Do a t) = Do a (without_repeat (repeat [] [] t) t)
shortened (Switch s c) = Switch (without_repeat_pick (repeat_pick [] s) s) c
shortened x = x

-- ---- a list after a simplification of its items

-- the first two `if`s become one, with the test of the first
abbrev pub joined : Forest → Forest
joined (Then (If t a b) (Then (If u c d) xs)) = Then (If t (join a c) b) xs
joined xs = xs

-- an `if` and the `if` in it become one, with the labels of the outer test round the inner test
abbrev pub unnested : Forest → Forest
unnested (Then (If t (Then (If u a b) ys) c) xs) = Then (If (round t u) a c) xs
unnested xs = xs

-- without the first item
abbrev pub rest_of : Forest → Forest
rest_of Nil = Nil
rest_of (Then x xs) = xs

-- with a wrapper fewer in the first item
abbrev pub with_shortened : Forest → Forest
with_shortened Nil = Nil
with_shortened (Then x xs) = Then (shortened x) xs

-- after one of this kind at its first item
abbrev pub edit_here : MoveKind → Forest → Forest
edit_here Z1 xs = rest_of xs
edit_here Z2 xs = with_shortened xs
edit_here Z3 xs = joined xs
edit_here Z4 xs = unnested xs
edit_here _ xs = xs

-- after one of this kind at its item i
abbrev pub edited : MoveKind → ℕ → Forest → Forest
edited kind zero xs = edit_here kind xs
edited kind (suc i) Nil = Nil
edited kind (suc i) (Then x xs) = Then x (edited kind i xs)

-- ---- the body

-- the list at the place of the choice was edited; all else is equal
pub record IsEdited (c : Choice) (old new : List Item) : Type 0 where
  pub list : List Item
  pub other : List Item
  pub list_is : list_at old c.path.steps ≡ Some list
  pub put : new ≡ put_at old c.path.steps other
  pub trees : trees_of other ≡ edited c.kind c.path.item (trees_of list)

-- the guard of the label went
pub record IsDropped (c : Choice) (old new : List Item) : Type 0 where
  pub label : ℕ
  pub label_is : c.label ≡ Some label
  pub trees : trees_of new ≡ dropped (eqb label) (trees_of old)

-- what a simplification of this kind makes of a body
abbrev pub applied_as : MoveKind → Choice → List Item → List Item → Type 0
applied_as Z5 c old new = IsDropped c old new
applied_as _ c old new = IsEdited c old new

-- the body `new` is `old` after the simplification
abbrev pub IsApplied : Choice → List Item → List Item → Type 0
IsApplied c old new = applied_as c.kind c old new

-- the next simplification makes the second body of the first
pub record IsNext (c : Choice) (old new : List Item) : Type 0 where
  pub next : first (choices (trees_of old)) ≡ Some c
  pub applied : IsApplied c old new

-- these simplifications, one after another, each the next, make the second body of the first
pub data Reaches (old : List Item) : List Choice → List Item → Type 0 where
  -- no simplification
  none : Reaches old [] old
  -- and one more
  then : {cs : List Choice} {body new : List Item} (c : Choice) → Reaches old cs body → IsNext c body new → Reaches old (cs ++ c ∷ []) new

-- no simplification applies
abbrev pub IsSimple : List Item → Type 0
IsSimple body = choices (trees_of body) ≡ []
