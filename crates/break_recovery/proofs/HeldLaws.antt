-- Slots that the items behind a place of a list name otherwise than in exits.
use Rattle.std.proofs.Common.{ℕ, zero, suc, ◌<◌, ◌≤◌, ◌⊎◌, inl, inr, arith, Bool, true, false, eqb, eqb-true, ◌||◌, List, [], ◌∷◌, length, drop, get_or, slice_get, slice_set, Some, ◌≡◌, refl, sym, ap, subst, ◌∙◌}
use Rattle.std.specs.List.{list_any}
use Rattle.std.proofs.lemmas.Bool.{or_from}
use Rattle.std.proofs.lemmas.List.{length-set}
use Rattle.c_tree.specs.declared.tree.Item.{Item}
use Rattle.c_tree.specs.Trees.{Tree, Then, trees_of}
use Rattle.c_tree.specs.Views.{tree_at}
use Rattle.c_tree.proofs.Views.{trees-first}
use Rattle.tidy_slots.specs.Counts.{list_count, item_count}
use Rattle.tidy_loops.specs.Slots.{count_in, but_first, but_last}
use Rattle.break_recovery.specs.Steady.{item_turned, is_turned, HasItems, NamesOtherwise, NeedsOtherwise}
use Rattle.break_recovery.specs.declared.steady.Turned.{Turned}
use Rattle.break_recovery.specs.declared.held.Held.{Held}
use Rattle.break_recovery.specs.declared.here.Change.{Change}
use Rattle.break_recovery.specs.Loops.{slot_of}
use Rattle.break_recovery.specs.Held.{IsHeldAt, IsHeldBehind, AreHeld, AllHeld, SameBehind}
use Rattle.break_recovery.proofs.Alike.{front_more, otherwise_behind, otherwise_first, IsLeftAlone}
use Rattle.break_recovery.proofs.Likeness.{AreLeftAlone}

-- ---- what such an item keeps

has_items : (y : Item) (ys : List Item) → HasItems (trees_of (y ∷ ys))
has_items y ys = subst HasItems (sym (trees-first y ys)) tt

module _ (g : ℕ) (x y : Item) (ys : List Item) where
  -- a list of two items or more
  needs_first : NamesOtherwise g (Then (tree_at x) (trees_of (y ∷ ys))) → NamesOtherwise g (Then (tree_at x) (but_last (trees_of (y ∷ ys)))) →
      NeedsOtherwise g (trees_of (x ∷ y ∷ ys))
  needs_first p q =
      subst (NeedsOtherwise g) (sym (trees-first x (y ∷ ys)))
      (p, subst (NamesOtherwise g) (sym (front_more (tree_at x) (trees_of (y ∷ ys)) (has_items y ys))) q)

held_names : (g : ℕ) (xs : List Item) (i : ℕ) → IsHeldAt g xs i → NeedsOtherwise g (trees_of xs)
held_names g [] i (l, s) = absurd (omega (arith, l))
held_names g (x ∷ []) i (l, s) = absurd (omega (arith, l))
held_names g (x ∷ y ∷ ys) zero (l, s) =
    let b = trees_of (y ∷ ys) in
    needs_first g x y ys (otherwise_first g (tree_at x) b (s x refl)) (otherwise_first g (tree_at x) (but_last b) (s x refl))
held_names g (x ∷ y ∷ ys) (suc i) (l, s) =
    let p = held_names g (y ∷ ys) i (omega (arith, l), s) in
    needs_first g x y ys (otherwise_behind g (tree_at x) (trees_of (y ∷ ys)) p.0) (otherwise_behind g (tree_at x) (but_last (trees_of (y ∷ ys))) p.1)

held_dropped : (g : ℕ) (xs : List Item) (k i : ℕ) → k < i → IsHeldAt g xs i → NeedsOtherwise g (but_first (trees_of (drop k xs)))
held_dropped g [] k i l (m, s) = absurd (omega (arith, m))
held_dropped g (x ∷ xs) k zero l h = absurd (omega (arith, l))
held_dropped g (x ∷ xs) zero (suc i) l (m, s) = subst (λ a. NeedsOtherwise g (but_first a)) (sym (trees-first x xs)) (held_names g xs i (omega (arith, m), s))
held_dropped g (x ∷ xs) (suc k) (suc i) l (m, s) = held_dropped g xs k i (omega (arith, l)) (omega (arith, m), s)

-- a change whose turned slots are held leaves each other slot alone
pub held_left : (counts : List ℕ) (r : Change) (x : Tree) (t : Turned) (xs : List Item) (k : ℕ) → t ≡ item_turned (slot_of r) x → AllHeld counts t xs k →
    AreLeftAlone counts r x (trees_of (drop k xs))
held_left counts r x t xs k e a h o = by (a h)
  where
    by : (is_turned h t ≡ false) ⊎ ((count_in counts h ≡ 0) ⊎ IsHeldBehind h xs k) →
        IsLeftAlone counts (slot_of r) h x (but_first (trees_of (drop k xs)))
    by (inl u) = inr (inl (ap (is_turned h) (sym e) ∙ u))
    by (inr (inl z)) = inl z
    by (inr (inr (i, l, s))) = inr (inr (held_dropped h xs k i l s))

-- ---- what is held

-- a slot is one of those for which this holds, or none of them
one_held : (P : ℕ → Type 0) (gs : List ℕ) (g : ℕ) → ((i : ℕ) → i < length gs → P (get_or gs i 0)) → (list_any (λ x. eqb x g) gs ≡ false) ⊎ P g
one_held P [] g a = inl refl
one_held P (x ∷ gs) g a = by (eqb x g) refl (one_held P gs g (λ i l. a (suc i) (omega (arith, l))))
  where
    by : (b : Bool) → eqb x g ≡ b → (list_any (λ x. eqb x g) gs ≡ false) ⊎ P g → ((b || list_any (λ x. eqb x g) gs) ≡ false) ⊎ P g
    by true e r = inr (subst P (eqb-true x g e) (a 0 (omega arith)))
    by false e r = r

pub all_held : (counts : List ℕ) (t : Turned) (xs : List Item) (k : ℕ) → t.any ≡ false →
    ((i : ℕ) → i < length t.slots → (count_in counts (get_or t.slots i 0) ≡ 0) ⊎ IsHeldBehind (get_or t.slots i 0) xs k) → AllHeld counts t xs k
all_held counts t xs k n a g = by (one_held (λ g. (count_in counts g ≡ 0) ⊎ IsHeldBehind g xs k) t.slots g a)
  where
    by : (list_any (λ x. eqb x g) t.slots ≡ false) ⊎ ((count_in counts g ≡ 0) ⊎ IsHeldBehind g xs k) →
        (is_turned g t ≡ false) ⊎ ((count_in counts g ≡ 0) ⊎ IsHeldBehind g xs k)
    by (inl e) = inl (or_from t.any (list_any (λ x. eqb x g) t.slots) n e)
    by (inr h) = inr h

pub known_held : (hs : List Held) (xs : List Item) (k i : ℕ) (h : Held) (g : ℕ) → i < length hs → (get_or hs i h).slot ≡ g → k < (get_or hs i h).place →
    AreHeld hs xs k → IsHeldBehind g xs k
known_held hs xs k i h g l s m a = ((get_or hs i h).place, m, subst (λ g. IsHeldAt g xs (get_or hs i h).place) s (a i h l m))

-- ---- lists that are the same behind a place

pub still_held : (hs : List Held) (xs ys : List Item) (m n : ℕ) → m ≤ n → SameBehind n xs ys → AreHeld hs xs m → AreHeld hs ys n
still_held hs xs ys m n l s a k d i =
    λ o.
    let h = get_or hs k d in
    let p = a k d i (omega (arith, l, o)) in
    let q = s.long in
    (omega (arith, q, p.0), λ x e. p.1 x (sym (s.same h.place o) ∙ e))

elsewhere : (xs : List Item) (i j : ℕ) (y : Item) → i < j → slice_get (slice_set xs i y) j ≡ slice_get xs j
elsewhere [] i j y l = refl
elsewhere (x ∷ xs) i zero y l = absurd (omega (arith, l))
elsewhere (x ∷ xs) zero (suc j) y l = refl
elsewhere (x ∷ xs) (suc i) (suc j) y l = elsewhere xs i j y (omega (arith, l))

pub same_list : (k : ℕ) (xs : List Item) → SameBehind k xs xs
same_list k xs = record { long = refl; same = λ i l. refl }

pub set_before : (k at : ℕ) (xs : List Item) (y : Item) → at ≤ k → SameBehind k xs (slice_set xs at y)
set_before k at xs y h = record { long = length-set xs at y; same = λ i l. elsewhere xs at i y (omega (arith, h, l)) }

pub set_both : (k at by : ℕ) (xs : List Item) (y z : Item) → at ≤ k → by ≤ k → SameBehind k xs (slice_set (slice_set xs at y) by z)
set_both k at by xs y z h m = record {
  long = length-set (slice_set xs at y) by z ∙ length-set xs at y;
  same = λ i l. elsewhere (slice_set xs at y) by i z (omega (arith, m, l)) ∙ elsewhere xs at i y (omega (arith, h, l));
}

-- ---- an item behind a place

pub counted_behind : (g : ℕ) (xs : List Item) (k i : ℕ) (x : Item) → k ≤ i → i < length xs → x ≡ get_or xs i x →
    item_count g (tree_at x) ≤ list_count g (trees_of (drop k xs))
counted_behind g [] k i x l h e = absurd (omega (arith, h))
counted_behind g (z ∷ zs) zero zero x l h e =
    let p = ap (list_count g) (trees-first z zs) in
    let q = ap (λ y. item_count g (tree_at y)) e in
    omega (arith, p, q)
counted_behind g (z ∷ zs) zero (suc i) x l h e =
    let p = ap (list_count g) (trees-first z zs) in
    let q = counted_behind g zs zero i x (omega arith) (omega (arith, h)) e in
    omega (arith, p, q)
counted_behind g (z ∷ zs) (suc k) zero x l h e = absurd (omega (arith, l))
counted_behind g (z ∷ zs) (suc k) (suc i) x l h e = counted_behind g zs k i x (omega (arith, l)) (omega (arith, h)) e

-- the item that stands there
pub item_there : (xs : List Item) (i : ℕ) (y x : Item) → slice_get xs i ≡ Some y → x ≡ get_or xs i x → x ≡ y
item_there [] i y x e k = cc
item_there (z ∷ zs) zero y x e k = let q : z ≡ y = cc in k ∙ q
item_there (z ∷ zs) (suc i) y x e k = item_there zs i y x e k
