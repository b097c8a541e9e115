-- A change of one slot leaves a list within, once that slot counts no more; and a list that has lost items in the middle.
use Rattle.std.proofs.Common.{ℕ, zero, suc, ◌+◌, ◌≤◌, ◌<◌, ◌⊎◌, inl, inr, arith, Bool, true, false, eqb, eqb-true, List, [], ◌∷◌, length, take, drop, slice_get, slice_set, Some, ◌≡◌, ◌≢◌, refl, sym, ap, subst, ◌∙◌}
use Rattle.std.proofs.lemmas.Bool.{eq-eqb}
use Rattle.std.proofs.lemmas.List.{get_or-set_other}
use Rattle.c_tree.specs.declared.tree.Item.{Item}
use Rattle.c_tree.specs.Trees.{join, trees_of}
use Rattle.c_tree.specs.Views.{tree_at}
use Rattle.c_tree.proofs.TreeLaws.{trees-none}
use Rattle.c_tree.proofs.Views.{trees-first}
use Rattle.tidy_slots.specs.Counts.{list_count}
use Rattle.tidy_slots.proofs.CountLemmas.{count_join}
use Rattle.tidy_loops.specs.Slots.{count_in}
use Rattle.tidy_loops.specs.Remaining.{IsApart}
use Rattle.tidy_loops.proofs.Outside.{not_so}
use Rattle.break_recovery.specs.Loops.{slot_of, list_after, change_first}
use Rattle.break_recovery.specs.declared.here.Change.{Change}
use Rattle.break_recovery.specs.declared.here.Change.TheVariants as V
use Rattle.break_recovery.specs.InARow.{closed}
use Rattle.break_recovery.specs.Within.{IsWithin}
use Rattle.break_recovery.proofs.Less.{after_less}
use Rattle.break_recovery.proofs.Within.{is_less, within_less, within_first}
use Rattle.break_recovery.proofs.Walks.{drop_at, closed_get, closed_behind, meant_change}
use Rattle.break_recovery.specs.Exits.{exits_of, HoldsAtMost}
use Rattle.break_recovery.proofs.ExitsTold.{change_holds}

forgotten : (xs : List ℕ) (s : ℕ) → count_in (slice_set xs s 0) s ≡ 0
forgotten [] s = refl
forgotten (x ∷ xs) zero = refl
forgotten (x ∷ xs) (suc s) = forgotten xs s

self : (g : ℕ) → eqb g g ≡ false → ⊥
self g e = not_so (eqb g g) (eq-eqb g g refl) e

none_of : (h : ℕ) → list_count h (trees_of []) ≡ 0
none_of h = ap (list_count h) trees-none

nothing_and : {m n : ℕ} → m ≡ 0 → m + n ≡ n
nothing_and e = omega (arith, e)

pub count_join_of : (h : ℕ) (xs : List Item) (i : ℕ) → list_count h (trees_of (take i xs)) + list_count h (trees_of (drop i xs)) ≡ list_count h (trees_of xs)
count_join_of h [] zero = nothing_and (none_of h)
count_join_of h [] (suc i) = nothing_and (none_of h)
count_join_of h (x ∷ xs) zero = nothing_and (none_of h)
count_join_of h (x ∷ xs) (suc i) =
    let r = count_join_of h xs i in
    let p = ap (list_count h) (trees-first x xs) in
    let q = ap (list_count h) (trees-first x (take i xs)) in
    omega (arith, p, q, r)

-- a list after a change from a place on
pub within_after : (counts : List ℕ) (c : Change) (slot : ℕ) (xs ys : List Item) (at : ℕ) (new : List ℕ) → slot ≡ slot_of c → new ≡ slice_set counts slot 0 →
    trees_of ys ≡ join (trees_of (take at xs)) (list_after c (trees_of (drop at xs))) → IsWithin (count_in counts) (trees_of xs) →
    IsWithin (count_in new) (trees_of ys)
within_after counts c slot xs ys at new e n m w h = by (eqb slot h) refl
  where
    by : (b : Bool) → eqb slot h ≡ b → (count_in new h ≡ 0) ⊎ (list_count h (trees_of ys) < count_in new h)
    by true q = inl (ap (λ z. count_in z h) n ∙ ap (count_in (slice_set counts slot 0)) (sym (eqb-true slot h q)) ∙ forgotten counts slot)
    by false q =
        let k : h ≢ slot = λ z. self slot (ap (eqb slot) (sym z) ∙ q) in
        let d = ap (λ z. count_in z h) n ∙ get_or-set_other counts slot h 0 0 k in
        let r = after_less c h (ap (λ z. eqb z h) (sym e) ∙ q) (trees_of (drop at xs)) in
        let j = ap (list_count h) m ∙ count_join h (trees_of (take at xs)) (list_after c (trees_of (drop at xs))) in
        let t = count_join_of h xs at in
        less (w h) d (omega (arith, r, j, t))
      where
        less : (count_in counts h ≡ 0) ⊎ (list_count h (trees_of xs) < count_in counts h) → count_in new h ≡ count_in counts h →
            list_count h (trees_of ys) ≤ list_count h (trees_of xs) → (count_in new h ≡ 0) ⊎ (list_count h (trees_of ys) < count_in new h)
        less (inl z) d l = inl (d ∙ z)
        less (inr k) d l = inr (omega (arith, k, d, l))

-- the item that a walk has come to
pub walk_apart : (c : ℕ → ℕ) (at next : ℕ) (xs : List Item) (x : Item) → at < next → next ≤ length xs → slice_get xs at ≡ Some x →
    IsWithin c (trees_of (closed at next xs)) → IsApart c (tree_at x) (trees_of (drop next xs))
walk_apart c at next xs x h l e w =
    let q = ap trees_of (drop_at (closed at next xs) at x (closed_get at next xs x h e) ∙ ap (λ z. x ∷ z) (closed_behind at next xs h l)) ∙
    trees-first x (drop next xs) in
    within_first c (tree_at x) (trees_of (drop next xs))
    (subst (IsWithin c) q (within_less c (trees_of (closed at next xs)) (trees_of (drop at (closed at next xs)))
    (λ g. let t = count_join_of g (closed at next xs) at in omega (arith, t)) w))

pub walk_holds : (c : ℕ → ℕ) (n at next : ℕ) (xs : List Item) (x : Item) (r : Change) → at < next → next ≤ length xs → slice_get xs at ≡ Some x →
    IsWithin c (trees_of (closed at next xs)) → change_first c n (trees_of (drop at (closed at next xs))) ≡ Some r → HoldsAtMost r (exits_of c r) (tree_at x)
walk_holds c n at next xs x r h l e w k =
    change_holds c n (tree_at x) (trees_of (drop next xs)) r (walk_apart c at next xs x h l e w) (meant_change at next xs x h l e c n ∙ k)

-- the items behind the gap
pub walk_counts : (c : ℕ → ℕ) (at next : ℕ) (xs : List Item) → at < next → next ≤ length xs → IsWithin c (trees_of (closed at next xs)) → (g : ℕ) →
    (c g ≡ 0) ⊎ (list_count g (trees_of (drop next xs)) < c g)
walk_counts c at next xs h l w g =
    let t = count_join_of g (closed at next xs) (at + 1) in
    let e = ap (λ a. list_count g (trees_of a)) (closed_behind at next xs h l) in
    is_less (c g) _ _ (omega (arith, t, e)) (w g)
