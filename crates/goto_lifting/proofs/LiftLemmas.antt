-- A Leap that is lifted.
use Rattle.std.proofs.Common.{◌≡◌, ℕ, ◌<◌, List, ◌∷◌, ◌++◌, Some, length, take, drop, slice_range, sym, ◌∙◌, arith}
use Rattle.std.proofs.Math.ListN.{set}
use Rattle.std.proofs.lemmas.Option.{slice_get_within}
use Rattle.c_tree.specs.declared.tree.Item.{Item, Do, Leap}
use Rattle.c_tree.specs.declared.tree.Test.{On}
use Rattle.c_tree.specs.declared.tree.Step.{Step}
use Rattle.c_tree.specs.Paths.{list_at}
use Rattle.c_tree.specs.Lift.{lifted, CanLift}
use Rattle.label_offsets.proofs.MarkLaws.{item_of_list}
use Rattle.move_list_edits.proofs.CutLemmas.{set_lap}

-- S, T, Leap in a list

pub lifted-is : (l i j : ℕ) (xs ys inner : List Item) → j < i → i < length xs → ys ≡ take j xs ++ drop i xs → inner ≡ Leap l ∷ slice_range xs j i
    → set ys j (Do inner (On l)) ≡ lifted l i j xs
lifted-is l i j xs ys inner h k e f = rw (e, f) (set_lap xs j i (Do (Leap l ∷ slice_range xs j i) (On l)) (omega arith) k)

pub leap_within : (l i j : ℕ) (steps : List Step) (body a : List Item) → CanLift l i j steps body → list_at body steps ≡ Some a → i < length a
leap_within l i j steps body a h t = slice_get_within a i (Leap l) (sym (item_of_list body steps a i (sym t)) ∙ h.leap)
