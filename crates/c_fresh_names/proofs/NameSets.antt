-- Rising lists of names: the order in which names come doesn't matter, and how many there are at most.
use Rattle.std.proofs.Common.{◌≡◌, ℕ, zero, suc, ◌+◌, ◌≤◌, ◌<◌, ◌^◌, Bool, true, false, cond, ◌||◌, List, [], ◌∷◌, length, refl, sym, ap, ◌∙◌, arith}
use Rattle.std.specs.declared.cmp.Ordering.{Ordering}
use Rattle.std.specs.declared.cmp.Ordering.TheVariants.{Less, Equal, Greater}
use Rattle.std.specs.Ordering.{match_ordering, ordering_reverse}
use Rattle.std.specs.Str.{bytes_eq}
use Rattle.std.proofs.lemmas.Cmp.{nat_list_cmp_total}
use Rattle.c_types.specs.Words.{name_cmp}
use Rattle.c_copies.specs.Names.{with_name, with_names, has_name}
use Rattle.c_copies.proofs.Rising.{has_name-with_name, or_turn, or_none, same_name}
use Rattle.c_fresh_names.specs.Fresh.{numbered, first_free}
use Rattle.c_fresh_names.proofs.FreshFound.{first_free_unused}

-- ---- order

turned : (n x : List ℕ) (o : Ordering) → name_cmp n x ≡ o → name_cmp x n ≡ ordering_reverse o
turned n x o h = nat_list_cmp_total.antisymm x n ∙ ap ordering_reverse h

-- a name put into a list that begins with x, by how it compares
abbrev put : Ordering → List ℕ → List (List ℕ) → List ℕ → List (List ℕ)
put o x xs n = match_ordering o (n ∷ x ∷ xs) (x ∷ xs) (x ∷ with_name xs n)

with_by : (o : Ordering) (x : List ℕ) (xs : List (List ℕ)) (n : List ℕ) → name_cmp n x ≡ o → with_name (x ∷ xs) n ≡ put o x xs n
with_by o x xs n e = ap (λ z. put z x xs n) e

-- two names below the first
both_below : (o : Ordering) (x : List ℕ) (xs : List (List ℕ)) (a b : List ℕ) → name_cmp a x ≡ Less → name_cmp b x ≡ Less → name_cmp b a ≡ o
    → with_name (a ∷ x ∷ xs) b ≡ with_name (b ∷ x ∷ xs) a
both_below Less x xs a b e f h =
    with_by Less a (x ∷ xs) b h ∙ ap (λ z. b ∷ z) (sym (with_by Less x xs a e)) ∙ sym (with_by Greater b (x ∷ xs) a (turned b a Less h))
both_below Equal x xs a b e f h = ap (λ z. with_name (a ∷ x ∷ xs) z) (same_name b a h) ∙ ap (λ z. with_name (z ∷ x ∷ xs) a) (sym (same_name b a h))
both_below Greater x xs a b e f h =
    with_by Greater a (x ∷ xs) b h ∙ ap (λ z. a ∷ z) (with_by Less x xs b f) ∙ sym (with_by Less b (x ∷ xs) a (turned b a Greater h))

-- one below the first, and one that is the first
below_first : (x : List ℕ) (xs : List (List ℕ)) (a b : List ℕ) → name_cmp a x ≡ Less → name_cmp b x ≡ Equal → with_name (a ∷ x ∷ xs) b ≡ with_name (x ∷ xs) a
below_first x xs a b e f =
    let above : name_cmp b a ≡ Greater = ap (λ z. name_cmp z a) (same_name b x f) ∙ turned a x Less e in
    with_by Greater a (x ∷ xs) b above ∙ ap (λ z. a ∷ z) (with_by Equal x xs b f) ∙ sym (with_by Less x xs a e)

-- one below the first, and one above it
below_above : (x : List ℕ) (xs : List (List ℕ)) (a b : List ℕ) → name_cmp a x ≡ Less → name_cmp b x ≡ Greater →
    with_name (a ∷ x ∷ xs) b ≡ with_name (x ∷ with_name xs b) a
below_above x xs a b e f =
    let less : name_cmp a b ≡ Less = nat_list_cmp_total.trans a x b e (turned b x Greater f) in
    with_by Greater a (x ∷ xs) b (turned a b Less less) ∙ ap (λ z. a ∷ z) (with_by Greater x xs b f) ∙ sym (with_by Less x (with_name xs b) a e)

-- one that is the first, and one above it
first_above : (x : List ℕ) (xs : List (List ℕ)) (a b : List ℕ) → name_cmp a x ≡ Equal → name_cmp b x ≡ Greater →
    with_name (x ∷ xs) b ≡ with_name (x ∷ with_name xs b) a
first_above x xs a b e f = with_by Greater x xs b f ∙ sym (with_by Equal x (with_name xs b) a e)

commute_at : (o q : Ordering) (x : List ℕ) (xs : List (List ℕ)) (a b : List ℕ) → name_cmp a x ≡ o → name_cmp b x ≡ q
    → with_name (with_name xs a) b ≡ with_name (with_name xs b) a → with_name (put o x xs a) b ≡ with_name (put q x xs b) a
commute_at Less Less x xs a b e f h = both_below (name_cmp b a) x xs a b e f refl
commute_at Less Equal x xs a b e f h = below_first x xs a b e f
commute_at Less Greater x xs a b e f h = below_above x xs a b e f
commute_at Equal Less x xs a b e f h = sym (below_first x xs b a f e)
commute_at Equal Equal x xs a b e f h = with_by Equal x xs b f ∙ sym (with_by Equal x xs a e)
commute_at Equal Greater x xs a b e f h = first_above x xs a b e f
commute_at Greater Less x xs a b e f h = sym (below_above x xs b a f e)
commute_at Greater Equal x xs a b e f h = sym (first_above x xs b a f e)
commute_at Greater Greater x xs a b e f h =
    with_by Greater x (with_name xs a) b f ∙ ap (λ z. x ∷ z) h ∙ sym (with_by Greater x (with_name xs b) a e)

-- two names, in either order
commute : (ks : List (List ℕ)) (a b : List ℕ) → with_name (with_name ks a) b ≡ with_name (with_name ks b) a
commute [] a b = alone (name_cmp b a) a b refl where
  alone : (o : Ordering) (a b : List ℕ) → name_cmp b a ≡ o → with_name (a ∷ []) b ≡ with_name (b ∷ []) a
  alone Less a b h = with_by Less a [] b h ∙ sym (with_by Greater b [] a (turned b a Less h))
  alone Equal a b h = ap (λ z. with_name (a ∷ []) z) (same_name b a h) ∙ ap (λ z. with_name (z ∷ []) a) (sym (same_name b a h))
  alone Greater a b h = with_by Greater a [] b h ∙ sym (with_by Less b [] a (turned b a Greater h))
commute (x ∷ xs) a b = commute_at (name_cmp a x) (name_cmp b x) x xs a b refl refl (commute xs a b)

alike_by : (o : Ordering) → o ≡ ordering_reverse o → o ≡ Equal
alike_by Less h = cc
alike_by Equal h = refl
alike_by Greater h = cc

alike : (n : List ℕ) → name_cmp n n ≡ Equal
alike n = alike_by (name_cmp n n) (nat_list_cmp_total.antisymm n n)

-- a name once more
again_at : (o : Ordering) (x : List ℕ) (xs : List (List ℕ)) (n : List ℕ) → name_cmp n x ≡ o → with_name (with_name xs n) n ≡ with_name xs n
    → with_name (put o x xs n) n ≡ put o x xs n
again_at Less x xs n e h = with_by Equal n (x ∷ xs) n (alike n)
again_at Equal x xs n e h = with_by Equal x xs n e
again_at Greater x xs n e h = with_by Greater x (with_name xs n) n e ∙ ap (λ z. x ∷ z) h

again : (ks : List (List ℕ)) (n : List ℕ) → with_name (with_name ks n) n ≡ with_name ks n
again [] n = with_by Equal n [] n (alike n)
again (x ∷ xs) n = again_at (name_cmp n x) x xs n refl (again xs n)

-- ---- two lists of names

-- a name before others or after them
before : (ks ns : List (List ℕ)) (n : List ℕ) → with_names (with_name ks n) ns ≡ with_name (with_names ks ns) n
before ks [] n = refl
before ks (m ∷ ns) n = ap (λ z. with_names z ns) (commute ks n m) ∙ before (with_name ks m) ns n

more_at : (o : Ordering) (ks : List (List ℕ)) (x : List ℕ) (xs : List (List ℕ)) (n : List ℕ) → name_cmp n x ≡ o
    → with_names (with_name ks x) (with_name xs n) ≡ with_name (with_names (with_name ks x) xs) n
    → with_names ks (put o x xs n) ≡ with_name (with_names ks (x ∷ xs)) n
more_at Less ks x xs n e h = before ks (x ∷ xs) n
more_at Equal ks x xs n e h =
    let l = with_names (with_name ks x) xs in
    ap (λ z. with_names z xs) (sym (again ks x)) ∙ before (with_name ks x) xs x ∙ ap (with_name l) (sym (same_name n x e))
more_at Greater ks x xs n e h = h

-- a name that comes to the second of two lists
pub more_own : (ks own : List (List ℕ)) (n : List ℕ) → with_names ks (with_name own n) ≡ with_name (with_names ks own) n
more_own ks [] n = refl
more_own ks (x ∷ xs) n = more_at (name_cmp n x) ks x xs n refl (more_own (with_name ks x) xs n)

-- names that do
pub more_names : (ks own ns : List (List ℕ)) → with_names ks (with_names own ns) ≡ with_names (with_names ks own) ns
more_names ks own [] = refl
more_names ks own (n ∷ ns) = more_names ks (with_name own n) ns ∙ ap (λ z. with_names z ns) (more_own ks own n)

-- what stands in one of two lists
pub in_either : (ks ns : List (List ℕ)) (q : List ℕ) → has_name (with_names ks ns) q ≡ (has_name ks q || has_name ns q)
in_either ks [] q = or_none (has_name ks q)
in_either ks (n ∷ ns) q =
    in_either (with_name ks n) ns q ∙ ap (λ b. b || has_name ns q) (has_name-with_name ks n q) ∙ or_turn (bytes_eq q n) (has_name ks q) (has_name ns q)

-- ---- how many

one_at : (o : Ordering) (x : List ℕ) (xs : List (List ℕ)) (n : List ℕ) → length (with_name xs n) ≤ length xs + 1 → length (put o x xs n) ≤ suc (length xs) + 1
one_at Less x xs n h = omega arith
one_at Equal x xs n h = omega arith
one_at Greater x xs n h = omega (arith, h)

pub one_more : (ks : List (List ℕ)) (n : List ℕ) → length (with_name ks n) ≤ length ks + 1
one_more [] n = omega arith
one_more (x ∷ xs) n = one_at (name_cmp n x) x xs n (one_more xs n)

pub no_more : (ks ns : List (List ℕ)) → length (with_names ks ns) ≤ length ks + length ns
no_more ks [] = omega arith
no_more ks (n ∷ ns) = omega (arith, no_more (with_name ks n) ns, one_more ks n)

-- ---- the search goes on to the same name where it may go further

further_at : (b : Bool) (used : List (List ℕ)) (base : List ℕ) (n : ℕ) (x y : List ℕ) → has_name used (numbered base n) ≡ b
    → (has_name used x ≡ false → y ≡ x) → has_name used (cond b x (numbered base n)) ≡ false → cond b y (numbered base n) ≡ cond b x (numbered base n)
further_at true used base n x y e h u = h u
further_at false used base n x y e h u = refl

last_at : (b : Bool) (y z : List ℕ) → b ≡ false → cond b y z ≡ z
last_at true y z h = cc
last_at false y z h = refl

further : (used : List (List ℕ)) (base : List ℕ) (n j k : ℕ) → j ≤ k → has_name used (first_free used base n j) ≡ false →
    first_free used base n k ≡ first_free used base n j
further used base n zero zero h u = refl
further used base n zero (suc k) h u = last_at (has_name used (numbered base n)) (first_free used base (n + 1) k) (numbered base n) u
further used base n (suc j) zero h u = absurd (omega (arith, h))
further used base n (suc j) (suc k) h u =
    further_at (has_name used (numbered base n)) used base n (first_free used base (n + 1) j) (first_free used base (n + 1) k) refl
    (λ v. further used base (n + 1) j k (omega (arith, h)) v) u

pub found_same : (used : List (List ℕ)) (base : List ℕ) (k : ℕ) → length used ≤ k → 2 + length used < 2 ^ 64 →
    first_free used base 2 k ≡ first_free used base 2 (length used)
found_same used base k h fits =
    let all : length used ≤ length used = omega arith in
    further used base 2 (length used) k h (first_free_unused used base 2 (length used) all fits)

pub found_unused : (used : List (List ℕ)) (base : List ℕ) → 2 + length used < 2 ^ 64 → has_name used (first_free used base 2 (length used)) ≡ false
found_unused used base fits = let all : length used ≤ length used = omega arith in first_free_unused used base 2 (length used) all fits
