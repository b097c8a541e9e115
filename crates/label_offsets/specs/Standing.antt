-- The Land of a label at a path, and items without it.
use Rattle.std.specs.Prelude.{◌≡◌, ℕ, ◌+◌, List, [], ◌∷◌, Some, drop}
use Rattle.c_tree.specs.declared.tree.Item.{Item, Land}
use Rattle.c_tree.specs.declared.tree.Path.{Path}
use Rattle.c_tree.specs.declared.tree.Step.{Step}
use Rattle.c_tree.specs.Paths.{item_at}
use Rattle.c_tree.specs.Trees.{trees_of}
use Rattle.c_tree.specs.Everywhere.{Everywhere}
use Rattle.c_tree.specs.Labels.{lands}
use Rattle.c_tree.specs.WellMade.{IsPlainFor}

-- the path leads to the Land of the label in a list
abbrev pub IsPlaceOf : ℕ → List Item → Path → Type 0
IsPlaceOf l xs p = item_at xs p.steps p.item ≡ Some (Land l)

-- the item of the outermost list to which a path leads, or into which
abbrev pub outermost_of : List Step → ℕ → ℕ
outermost_of [] i = i
outermost_of (s ∷ ss) i = s.item

abbrev pub outermost : Path → ℕ
outermost p = outermost_of p.steps p.item

-- the item at the place k isn't the Land of the label and doesn't hold it, where each `for` has an empty first part
abbrev pub HasNoLandAt : ℕ → List Item → ℕ → Type 0
HasNoLandAt l xs k = Everywhere IsPlainFor (trees_of xs) → lands l (trees_of (drop k xs)) ≡ lands l (trees_of (drop (k + 1) xs))
