-- The exits of the loop at a place of a list.
use Rattle.std.proofs.Common.{ℕ, ◌+◌, ◌<◌, List, length, drop, get_or, Some, ◌≡◌, sym, ap, ◌∙◌}
use Rattle.c_tree.specs.declared.tree.Item.{Item}
use Rattle.c_tree.specs.Trees.{trees_of}
use Rattle.c_tree.specs.Views.{tree_at}
use Rattle.c_tree.proofs.Views.{trees-at}
use Rattle.break_recovery.specs.Loops.{change_first}
use Rattle.break_recovery.specs.declared.here.Change.{Change}
use Rattle.break_recovery.specs.Exits.{exits_of, HoldsAtMost}
use Rattle.break_recovery.specs.Within.{AreApart}
use Rattle.break_recovery.proofs.Within.{apart_there}
use Rattle.break_recovery.proofs.ExitsTold.{change_holds}

pub list_holds : (c : ℕ → ℕ) (n : ℕ) (xs : List Item) (i : ℕ) (x : Item) (r : Change) → i < length xs → x ≡ get_or xs i x → AreApart c (trees_of xs) →
    change_first c n (trees_of (drop i xs)) ≡ Some r → HoldsAtMost r (exits_of c r) (tree_at x)
list_holds c n xs i x r h e w k =
    change_holds c n (tree_at x) (trees_of (drop (i + 1) xs)) r (apart_there c xs i x h e w) (sym (ap (change_first c n) (trees-at xs i x h e)) ∙ k)
