use Rattle.std.proofs.Common.{◌≡◌, ℕ, zero, suc, ◌+◌, ◌-◌, ◌<◌, ◌≤◌, List, [], ◌∷◌, ◌++◌, length, take, drop, slice_range, refl, sym, ap, ◌∙◌, arith, add-one, append_assoc, length-append}
use Rattle.std.proofs.lemmas.List.{drop-take, drop_at}
use Rattle.std.proofs.Math.ListN.{set, length-take, length-drop}
use Rattle.c_tree.specs.declared.tree.Item.{Item, If}
use Rattle.c_tree.specs.declared.tree.Test.{Off}
use Rattle.c_tree.specs.Join.{guarded, joined_after}

-- the stretch that is cut, once what comes after it is gone

pub cut_front : {X : Type 0} (xs : List X) (i j : ℕ) → i ≤ j → drop i (take j xs) ≡ slice_range xs i j
cut_front xs i j h = let e : i + (j - i) ≡ j = omega arith in ap (λ n. drop i (take n xs)) (sym e) ∙ drop-take i (j - i) xs

-- a stretch that was turned behind what comes after it

pub cut_behind : {X : Type 0} (xs ys mid : List X) (i j n : ℕ) → i ≤ j → j ≤ length xs → n ≡ length xs →
    ys ≡ take i xs ++ (drop (j - i) (drop i xs) ++ take (j - i) (drop i xs)) → mid ≡ drop (n - (j - i)) ys → mid ≡ slice_range xs i j
cut_behind xs ys mid i j n h k l e f =
    let front = take i xs in
    let tail = drop (j - i) (drop i xs) in
    let part = take (j - i) (drop i xs) in
    let m : length (front ++ tail) ≡ n - (j - i) = omega (
      arith,
      l,
      length-append front tail,
      length-take i xs,
      length-drop (j - i) (drop i xs),
      length-drop i xs,
    ) in
    f ∙ ap (drop (n - (j - i))) (e ∙ sym (append_assoc front tail part)) ∙ drop_at (front ++ tail) part (n - (j - i)) m

-- an item put into what is left of a list from which a stretch was cut

set_suc : {X : Type 0} (xs : List X) (i j : ℕ) (x : X) → i < j → j ≤ length xs → set (take (suc i) xs ++ drop j xs) i x ≡ take i xs ++ x ∷ drop j xs
set_suc [] i j x h k = absurd (omega arith)
set_suc (y ∷ ys) zero j x h k = refl
set_suc (y ∷ ys) (suc i) zero x h k = absurd (omega arith)
set_suc (y ∷ ys) (suc i) (suc j) x h k = ap (λ l. y ∷ l) (set_suc ys i j x (omega arith) (omega arith))

pub set_cut : {X : Type 0} (xs : List X) (i j : ℕ) (x : X) → i < j → j ≤ length xs → set (take (i + 1) xs ++ drop j xs) i x ≡ take i xs ++ x ∷ drop j xs
set_cut xs i j x h k = rw add-one (set_suc xs i j x h k)

drop_set : {X : Type 0} (xs : List X) (i : ℕ) (x : X) → i < length xs → set (drop i xs) 0 x ≡ x ∷ drop (suc i) xs
drop_set [] i x h = absurd (omega arith)
drop_set (y ∷ ys) zero x h = refl
drop_set (y ∷ ys) (suc i) x h = drop_set ys i x (omega arith)

set_kept : {X : Type 0} (xs : List X) (j i : ℕ) (x : X) → j ≤ i → i < length xs → set (take j xs ++ drop i xs) j x ≡ take j xs ++ x ∷ drop (suc i) xs
set_kept [] j i x h k = absurd (omega arith)
set_kept (y ∷ ys) zero i x h k = drop_set (y ∷ ys) i x k
set_kept (y ∷ ys) (suc j) zero x h k = absurd (omega arith)
set_kept (y ∷ ys) (suc j) (suc i) x h k = ap (λ l. y ∷ l) (set_kept ys j i x (omega arith) (omega arith))

pub set_lap : {X : Type 0} (xs : List X) (j i : ℕ) (x : X) → j ≤ i → i < length xs → set (take j xs ++ drop i xs) j x ≡ take j xs ++ x ∷ drop (i + 1) xs
set_lap xs j i x h k = rw add-one (set_kept xs j i x h k)

-- items under a guard

guarded-some : (l : ℕ) (xs : List Item) → 0 < length xs → guarded l xs ≡ If (Off l) xs [] ∷ []
guarded-some l [] h = absurd (omega arith)
guarded-some l (x ∷ xs) h = refl

pub guarded-is : (l i j : ℕ) (xs ys mid nil : List Item) → i + 1 < j → j ≤ length xs → ys ≡ take (i + 1) xs ++ drop j xs →
    mid ≡ slice_range xs (i + 1) j → nil ≡ []
    → set ys i (If (Off l) mid nil) ≡ joined_after l i j xs
guarded-is l i j xs ys mid nil h k e f g =
    let some : 0 < length (slice_range xs (i + 1) j) = omega (arith, length-take (j - (i + 1)) (drop (i + 1) xs), length-drop (i + 1) xs) in
    rw (e, f, g)
    (set_cut xs i j (If (Off l) (slice_range xs (i + 1) j) []) (omega arith) (omega arith)
    ∙ sym (append_assoc (take i xs) (If (Off l) (slice_range xs (i + 1) j) [] ∷ []) (drop j xs))
    ∙ ap (λ a. take i xs ++ a ++ drop j xs) (sym (guarded-some l (slice_range xs (i + 1) j) some)))
