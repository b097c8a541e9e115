-- The items that an edit is made of.
use Rattle.std.specs.Prelude.{◌≡◌, ℕ, suc, List, [], ◌∷◌, Some, slice_get, length}
use Rattle.c_tree.specs.declared.tree.Item.{Item, Item-F, If, out-Item}
use Rattle.c_tree.specs.declared.tree.Item.TheOpen as O
use Rattle.c_tree.specs.declared.tree.Section.{Section}
use Rattle.c_tree.specs.declared.tree.Test.{Test}
use Rattle.c_tree.specs.Trees.{Forest, Then, tree_of}
use Rattle.report_moves.specs.declared.moves.MoveKind.{MoveKind}
use Rattle.report_moves.specs.declared.moves.MoveKind.TheVariants.{Z1, Z2, Z3, Z4}
use Rattle.guard_simplify.specs.Application.{joined, unnested}

-- an `if`
pub record IsIf (x : Item) : Type 0 where
  pub test : Test
  pub list : List Item
  pub other : List Item
  pub is : x ≡ If test list other

-- the length of its first list, and 0 for other items
abbrev pub first_length_F : Item-F Item Section → ℕ
first_length_F (O.If t a b) = length a
first_length_F _ = 0

abbrev pub first_length : Item → ℕ
first_length x = first_length_F (out-Item x)

-- an `if` and its neighbour became one
abbrev pub IsJoined : Item → Item → Item → Type 0
IsJoined old next new = (rest : Forest) → Then (tree_of new) rest ≡ joined (Then (tree_of old) (Then (tree_of next) rest))

-- an `if` round one `if`, both without else-list
pub record IsNest (x : Item) : Type 0 where
  pub test : Test
  pub inner : Test
  pub list : List Item
  pub is : x ≡ If test (If inner list [] ∷ []) []

-- they became one
abbrev pub IsUnnested : Item → Item → Type 0
IsUnnested old new = (rest : Forest) → Then (tree_of new) rest ≡ unnested (Then (tree_of old) rest)

-- two neighbours that are `if`s
pub record ArePair (xs : List Item) (i : ℕ) : Type 0 where
  pub first : Item
  pub next : Item
  pub first_is : slice_get xs i ≡ Some first
  pub next_is : slice_get xs (suc i) ≡ Some next
  pub first_if : IsIf first
  pub next_if : IsIf next

-- what an edit of this kind wants of the item i and of the one behind it
abbrev pub MayEdit : MoveKind → List Item → ℕ → Type 0
MayEdit Z1 xs i = Unit {0}
MayEdit Z2 xs i = Unit {0}
MayEdit Z3 xs i = ArePair xs i
MayEdit Z4 xs i = (x : Item) → slice_get xs i ≡ Some x → IsNest x
MayEdit _ xs i = ⊥
