-- Items and initialisers that are moved, one after another.
use Rattle.std.proofs.Common.{◌≡◌, List, [], ◌∷◌, sym, ap, ◌∙◌}
use Rattle.std.specs.Vec.Iter.{into_iter_items, into_iter_len}
use Rattle.std.specs.declared.vec.IntoIter.{IntoIter}
use Rattle.std.proofs.lemmas.List.{nil_from_length}
use Rattle.c_tree.specs.Changed.{one}
use Rattle.c_tree.specs.declared.tree.Item.{Item}
use Rattle.c_tree.specs.Trees.{Forest, trees_of, join}
use Rattle.c_tree.proofs.TreeLaws.{join-nil, trees-none}
use Rattle.c_tree.specs.Views.{tree_at}
use Rattle.c_tree.proofs.Views.{trees-first}
use Rattle.flat_items.proofs.Joining.{one_more}

-- an iterator that gave its last item has none left
pub emptied : {X Z : Type 0} (it : IntoIter X Z) → into_iter_len it ≡ 0 → into_iter_items it ≡ []
emptied it h = nil_from_length (into_iter_items it) (sym it.rest.ok.0 ∙ h)

pub all_step : (x : Item) (xs : List Item) (out new all : Forest) → new ≡ join out (one (tree_at x)) → join out (trees_of (x ∷ xs)) ≡ all →
    join new (trees_of xs) ≡ all
all_step x xs out new all n inv = one_more out new (tree_at x) (trees_of xs) n ∙ sym (ap (join out) (trees-first x xs)) ∙ inv

pub all_end : (out all : Forest) → join out (trees_of []) ≡ all → out ≡ all
all_end out all inv = sym (join-nil out) ∙ sym (ap (join out) trees-none) ∙ inv
