-- What goes with a guard.
use Rattle.std.specs.Prelude.{◌≡◌, ℕ, ◌==◌, eqb, Bool, false, List, Some, None}
use Rattle.c_tree.specs.declared.tree.Item.{Item, Item-F, out-Item}
use Rattle.c_tree.specs.declared.tree.Item.TheOpen.{Arm, Land}
use Rattle.c_tree.specs.declared.tree.Section.{Section}
use Rattle.c_tree.specs.Paths.{list_of, with_list}
use Rattle.c_tree.specs.Trees.{trees_of}
use Rattle.move_laws.specs.Drops.{dropped}

-- whether the item is a Land of the guard, or an Arm of it without condition; by its one layer
abbrev pub goes_F : ℕ → Item-F Item Section → Bool
goes_F l (Arm m (Some e)) = false
goes_F l (Arm m None) = l == m
goes_F l (Land m) = l == m
goes_F l _ = false

abbrev pub goes : ℕ → Item → Bool
goes l x = goes_F l (out-Item x)

-- the guard went from the list of the section
pub record IsWithoutGuard (l : ℕ) (old new : Section) : Type 0 where
  pub list : List Item
  pub is : new ≡ with_list list old
  pub trees : trees_of list ≡ dropped (eqb l) (trees_of (list_of old))
