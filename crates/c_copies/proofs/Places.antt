-- Where a name stands in a rising list, or would stand.
use Rattle.std.proofs.Common.{◌≡◌, ℕ, zero, suc, ◌+◌, ◌≤◌, ◌<◌, true, false, ◌||◌, List, [], ◌∷◌, length, take, drop, get_or, add-one, refl, sym, ap, subst, ◌∙◌, arith}
use Rattle.std.specs.declared.cmp.Ordering.{Ordering}
use Rattle.std.specs.declared.cmp.Ordering.TheVariants.{Less, Equal, Greater}
use Rattle.std.specs.Ordering.{match_ordering, ordering_reverse, is_eq}
use Rattle.std.specs.List.{AllByRecursion, insert}
use Rattle.std.specs.List.Sorted.{IsStrictlySortedBy}
use Rattle.std.specs.Str.{bytes_eq}
use Rattle.std.proofs.lemmas.Cmp.{nat_list_cmp_total}
use Rattle.std.proofs.lemmas.Map.Text.{is_eq-slice_cmp}
use Rattle.std.proofs.lemmas.Bool.{or_right}
use Rattle.c_types.specs.Words.{name_cmp}
use Rattle.c_copies.specs.Names.{with_name, has_name}
use Rattle.c_copies.proofs.Rising.{below_more, turned, same_name}

-- all of these are below the name, or above it
abbrev pub AreBelow : List ℕ → List (List ℕ) → Type 0
AreBelow n xs = AllByRecursion (λ x. name_cmp n x ≡ Greater) xs

abbrev pub AreAbove : List ℕ → List (List ℕ) → Type 0
AreAbove n xs = AllByRecursion (λ x. name_cmp n x ≡ Less) xs

-- a name put into a list that begins with x, by how it compares
abbrev put : Ordering → List ℕ → List (List ℕ) → List ℕ → List (List ℕ)
put o x xs n = match_ordering o (n ∷ x ∷ xs) (x ∷ xs) (x ∷ with_name xs n)

with_by : (o : Ordering) (x : List ℕ) (xs : List (List ℕ)) (n : List ℕ) → name_cmp n x ≡ o → with_name (x ∷ xs) n ≡ put o x xs n
with_by o x xs n e = ap (λ z. put z x xs n) e

back : (n x : List ℕ) → name_cmp x n ≡ Less → name_cmp n x ≡ Greater
back n x h = nat_list_cmp_total.antisymm n x ∙ ap ordering_reverse h

at_place : (P : List ℕ → Type 0) (xs : List (List ℕ)) (m : ℕ) (d : List ℕ) → AllByRecursion P xs → m < length xs → P (get_or xs m d)
at_place P [] m d a h = absurd (omega (arith, h))
at_place P (x ∷ xs) zero d a h = a.0
at_place P (x ∷ xs) (suc m) d a h = at_place P xs m d a.1 (omega (arith, h))

-- a name above the one at a place is above those before it
below_through : (n : List ℕ) (xs : List (List ℕ)) (m : ℕ) (d : List ℕ) → IsStrictlySortedBy name_cmp xs → m < length xs →
    name_cmp n (get_or xs m d) ≡ Greater → AreBelow n (take (suc m) xs)
unfolding IsStrictlySortedBy
below_through n [] m d s h g = absurd (omega (arith, h))
below_through n (x ∷ xs) zero d s h g = (g, tt)
below_through n (x ∷ xs) (suc m) d s h g =
    let less : name_cmp x (get_or xs m d) ≡ Less = at_place (λ y. name_cmp x y ≡ Less) xs m d s.0 (omega (arith, h)) in
    (back n x (nat_list_cmp_total.trans x (get_or xs m d) n less (turned n (get_or xs m d) g)), below_through n xs m d s.1 (omega (arith, h)) g)

pub below_it : (n : List ℕ) (xs : List (List ℕ)) (m : ℕ) (d : List ℕ) → IsStrictlySortedBy name_cmp xs → m < length xs →
    name_cmp n (get_or xs m d) ≡ Greater → AreBelow n (take (m + 1) xs)
below_it n xs m d s h g = subst (λ k. AreBelow n (take k xs)) (sym (add-one m)) (below_through n xs m d s h g)

-- a name below the one at a place is below those behind it
pub above_it : (n : List ℕ) (xs : List (List ℕ)) (m : ℕ) (d : List ℕ) → IsStrictlySortedBy name_cmp xs → m < length xs →
    name_cmp n (get_or xs m d) ≡ Less → AreAbove n (drop m xs)
unfolding IsStrictlySortedBy
above_it n [] m d s h g = absurd (omega (arith, h))
above_it n (x ∷ xs) zero d s h g = (g, below_more n x xs g s.0)
above_it n (x ∷ xs) (suc m) d s h g = above_it n xs m d s.1 (omega (arith, h)) g

-- ---- in the gap

pub with_name-gap : (n : List ℕ) (xs : List (List ℕ)) (i : ℕ) → i ≤ length xs → AreBelow n (take i xs) → AreAbove n (drop i xs) → with_name xs n ≡ insert xs i n
with_name-gap n [] zero h b a = refl
with_name-gap n [] (suc i) h b a = absurd (omega (arith, h))
with_name-gap n (x ∷ xs) zero h b a = with_by Less x xs n a.0
with_name-gap n (x ∷ xs) (suc i) h b a = with_by Greater x xs n b.0 ∙ ap (λ z. x ∷ z) (with_name-gap n xs i (omega (arith, h)) b.1 a)

unlike : (n x : List ℕ) (o : Ordering) → name_cmp n x ≡ o → bytes_eq n x ≡ is_eq o
unlike n x o e = sym (is_eq-slice_cmp n x) ∙ ap is_eq e

pub has_name-gap : (n : List ℕ) (xs : List (List ℕ)) (i : ℕ) → i ≤ length xs → AreBelow n (take i xs) → AreAbove n (drop i xs) → has_name xs n ≡ false
has_name-gap n [] i h b a = refl
has_name-gap n (x ∷ xs) zero h b a = ap (λ z. z || has_name xs n) (unlike n x Less a.0) ∙ has_name-gap n xs zero (omega arith) tt a.1
has_name-gap n (x ∷ xs) (suc i) h b a = ap (λ z. z || has_name xs n) (unlike n x Greater b.0) ∙ has_name-gap n xs i (omega (arith, h)) b.1 a

-- ---- at its place

pub with_name-at : (n : List ℕ) (xs : List (List ℕ)) (m : ℕ) (d : List ℕ) → IsStrictlySortedBy name_cmp xs → m < length xs →
    name_cmp n (get_or xs m d) ≡ Equal → with_name xs n ≡ xs
unfolding IsStrictlySortedBy
with_name-at n [] m d s h e = absurd (omega (arith, h))
with_name-at n (x ∷ xs) zero d s h e = with_by Equal x xs n e
with_name-at n (x ∷ xs) (suc m) d s h e =
    let less : name_cmp x (get_or xs m d) ≡ Less = at_place (λ y. name_cmp x y ≡ Less) xs m d s.0 (omega (arith, h)) in
    let above : name_cmp n x ≡ Greater = back n x (ap (name_cmp x) (same_name n (get_or xs m d) e) ∙ less) in
    with_by Greater x xs n above ∙ ap (λ z. x ∷ z) (with_name-at n xs m d s.1 (omega (arith, h)) e)

pub has_name-at : (n : List ℕ) (xs : List (List ℕ)) (m : ℕ) (d : List ℕ) → m < length xs → name_cmp n (get_or xs m d) ≡ Equal → has_name xs n ≡ true
has_name-at n [] m d h e = absurd (omega (arith, h))
has_name-at n (x ∷ xs) zero d h e = ap (λ z. z || has_name xs n) (unlike n x Equal e)
has_name-at n (x ∷ xs) (suc m) d h e = or_right (bytes_eq n x) (has_name xs n) (has_name-at n xs m d (omega (arith, h)) e)

-- ---- a list with one more name

pub none_rises : IsStrictlySortedBy name_cmp []
unfolding IsStrictlySortedBy
none_rises = tt
