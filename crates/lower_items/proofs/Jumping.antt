-- What is left of the lists of an `if`, item by item.
use Rattle.std.proofs.Common.{◌≡◌, ℕ, ◌+◌, ◌<◌, ◌≤◌, Bool, true, false, not, cond, List, length, drop, get_or, Option, None, refl, sym, ap, ◌∙◌}
use Rattle.std.proofs.lemmas.Bool.{false≢true}
use Rattle.c_tree.specs.declared.tree.Item.{Item}
use Rattle.c_tree.specs.Trees.{Tree, Forest, Then, Goto, Mark, trees_of}
use Rattle.lower_laws.specs.Lowered.{is_bare, only_goto}
use Rattle.c_tree.specs.Views.{tree_at}
use Rattle.c_tree.proofs.Views.{trees-at, trees-end}
use Rattle.lower_items.specs.Jumps.{goes, goto_of}

module _ (live : ℕ → Bool) where
  off : (y : Bool) → not y ≡ true → y ≡ false
  off true h = absurd (false≢true h)
  off false h = refl

  on : (y : Bool) → not y ≡ false → y ≡ true
  on true h = refl
  on false h = absurd (false≢true (sym h))

  none_either : (y : Bool) → cond {A = Option ℕ} y None None ≡ None
  none_either true = refl
  none_either false = refl

  bare_goes : (x : Tree) (xs : Forest) → goes live x ≡ true → is_bare live (Then x xs) ≡ is_bare live xs
  bare_goes (Mark l) xs h = ap (λ y. cond y false (is_bare live xs)) (off (live l) h)
  bare_goes _ xs h = absurd (false≢true h)

  bare_stays : (x : Tree) (xs : Forest) → goes live x ≡ false → is_bare live (Then x xs) ≡ false
  bare_stays (Mark l) xs h = ap (λ y. cond y false (is_bare live xs)) (on (live l) h)
  bare_stays _ xs h = refl

  goto_goes : (x : Tree) (xs : Forest) → goes live x ≡ true → only_goto live (Then x xs) ≡ only_goto live xs
  goto_goes (Mark l) xs h = ap (λ y. cond y None (only_goto live xs)) (off (live l) h)
  goto_goes _ xs h = absurd (false≢true h)

  goto_stays : (x : Tree) (xs : Forest) → goes live x ≡ false → only_goto live (Then x xs) ≡ cond (is_bare live xs) (goto_of x) None
  goto_stays (Mark l) xs h = ap (λ y. cond y None (only_goto live xs)) (on (live l) h) ∙ sym (none_either (is_bare live xs))
  goto_stays (Goto l) xs h = refl
  goto_stays _ xs h = sym (none_either (is_bare live xs))

  module _ (xs : List Item) (i : ℕ) (x : Item) (l : i < length xs) (e : x ≡ get_or xs i x) where
    pub bare_next : goes live (tree_at x) ≡ true → is_bare live (trees_of (drop i xs)) ≡ is_bare live (trees_of (drop (i + 1) xs))
    bare_next h = ap (is_bare live) (trees-at xs i x l e) ∙ bare_goes (tree_at x) (trees_of (drop (i + 1) xs)) h

    pub bare_no : goes live (tree_at x) ≡ false → is_bare live (trees_of (drop i xs)) ≡ false
    bare_no h = ap (is_bare live) (trees-at xs i x l e) ∙ bare_stays (tree_at x) (trees_of (drop (i + 1) xs)) h

    pub goto_next : goes live (tree_at x) ≡ true → only_goto live (trees_of (drop i xs)) ≡ only_goto live (trees_of (drop (i + 1) xs))
    goto_next h = ap (only_goto live) (trees-at xs i x l e) ∙ goto_goes (tree_at x) (trees_of (drop (i + 1) xs)) h

    pub goto_here : goes live (tree_at x) ≡ false → only_goto live (trees_of (drop i xs)) ≡ cond (is_bare live (trees_of (drop (i + 1) xs)))
        (goto_of (tree_at x)) None
    goto_here h = ap (only_goto live) (trees-at xs i x l e) ∙ goto_stays (tree_at x) (trees_of (drop (i + 1) xs)) h

  pub bare_end : (xs : List Item) (i : ℕ) → length xs ≤ i → is_bare live (trees_of (drop i xs)) ≡ true
  bare_end xs i l = ap (is_bare live) (trees-end xs i l)

  pub goto_end : (xs : List Item) (i : ℕ) → length xs ≤ i → only_goto live (trees_of (drop i xs)) ≡ None
  goto_end xs i l = ap (only_goto live) (trees-end xs i l)
