-- Rule L: a Leap is lifted before an earlier element that holds its label.
use Rattle.std.specs.Prelude.{◌≡◌, ℕ, ◌+◌, ◌<◌, List, [], ◌∷◌, ◌++◌, take, drop, slice_range, Some}
use Rattle.c_tree.specs.declared.tree.Item.{Item, Do, Leap}
use Rattle.c_tree.specs.declared.tree.Test.{On}
use Rattle.c_tree.specs.declared.tree.Branch.TheVariants as B
use Rattle.c_tree.specs.declared.tree.Step.{Step}
use Rattle.c_tree.specs.declared.tree.Path.{Path}
use Rattle.c_tree.specs.Paths.{item_at, put_at}
use Rattle.c_tree.specs.Join.{Holds, list_there}
use Rattle.c_tree.specs.Trees.{tree_of}
use Rattle.c_tree.specs.Labels.{lands_inside}

-- S, T, Leap, with S at j and the Leap at i
abbrev pub lifted : ℕ → ℕ → ℕ → List Item → List Item
lifted l i j xs = take j xs ++ Do (Leap l ∷ slice_range xs j i) (On l) ∷ drop (i + 1) xs

-- the body after the Leap in the list at the steps was lifted
abbrev pub lifted_at : ℕ → ℕ → ℕ → List Step → List Item → List Item
lifted_at l i j ss xs = put_at xs ss (lifted l i j (list_there xs ss))

-- where the Leap stands then
abbrev pub path_lifted : ℕ → List Step → Path
path_lifted j ss = record { steps = ss ++ record { item = j; branch = B.Body } ∷ []; item = 0 }

-- rule L applies
pub record CanLift (l i j : ℕ) (steps : List Step) (body : List Item) : Type 0 where
  -- the Leap
  pub leap : item_at body steps i ≡ Some (Leap l)
  -- an earlier element
  pub earlier : j < i
  -- which holds the label
  pub held : Holds (λ x. 0 < lands_inside l (tree_of x)) (item_at body steps j)

-- the body `old` becomes `new` by rule L, and the Leap then stands at `to`
pub record Lifts (l i j : ℕ) (steps : List Step) (old new : List Item) (to : Path) : Type 0 where
  pub applies : CanLift l i j steps old
  pub body : new ≡ lifted_at l i j steps old
  pub path : to ≡ path_lifted j steps
