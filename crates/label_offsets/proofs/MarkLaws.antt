-- The Leap at a path.
use Rattle.std.proofs.Common.{◌≡◌, ℕ, List, Some, option_and_then, slice_get, sym, ap, ◌∙◌}
use Rattle.c_tree.specs.declared.tree.Item.{Item, Leap}
use Rattle.c_tree.specs.declared.tree.Path.{Path}
use Rattle.c_tree.specs.declared.tree.Step.{Step}
use Rattle.c_tree.specs.Paths.{list_at, item_at}
use Rattle.c_tree.proofs.PathLemmas.{and_then_some}
use Rattle.label_offsets.specs.Marks.{leap_label, label_at}
use Rattle.label_offsets.proofs.HeldLaws.{leap_label-Leap, leap-is}

pub label_of_leap : (body : List Item) (at : Path) (l : ℕ) → item_at body at.steps at.item ≡ Some (Leap l) → label_at body at ≡ Some l
label_of_leap body at l e = ap (option_and_then leap_label) e ∙ leap_label-Leap l

pub leap_of_label : (body : List Item) (at : Path) (l : ℕ) → Some l ≡ label_at body at → item_at body at.steps at.item ≡ Some (Leap l)
leap_of_label body at l e = let p = and_then_some leap_label (item_at body at.steps at.item) l (sym e) in p.1 ∙ ap Some (leap-is l p.0 p.2)

pub same_label : (body : List Item) (at : Path) (m l : ℕ) → item_at body at.steps at.item ≡ Some (Leap m) → Some l ≡ label_at body at → m ≡ l
same_label body at m l h e =
    let f : Some m ≡ Some l = sym (label_of_leap body at m h) ∙ sym e in cc

-- an item of the list at the steps
pub item_of_list : (body : List Item) (steps : List Step) (a : List Item) (i : ℕ) → Some a ≡ list_at body steps → item_at body steps i ≡ slice_get a i
item_of_list body steps a i t = ap (option_and_then (λ a. slice_get a i)) (sym t)
