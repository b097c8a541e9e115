-- The rising list of some names has each of them once, in byte order, and no other.
use Rattle.std.proofs.Common.{◌≡◌, ℕ, Bool, true, false, ◌||◌, List, [], ◌∷◌, refl, sym, ap, ◌∙◌}
use Rattle.std.specs.declared.cmp.Ordering.{Ordering}
use Rattle.std.specs.declared.cmp.Ordering.TheVariants.{Less, Equal, Greater}
use Rattle.std.specs.Ordering.{match_ordering, ordering_reverse, is_eq}
use Rattle.std.specs.List.{AllByRecursion}
use Rattle.std.specs.List.Sorted.{IsStrictlySortedBy}
use Rattle.std.specs.Str.{bytes_eq}
use Rattle.std.proofs.lemmas.Cmp.{nat_list_cmp_total}
use Rattle.std.proofs.lemmas.Map.Text.{is_eq-slice_cmp}
use Rattle.std.proofs.lemmas.Slice.Eq.{bytes_eq-Decides}
use Rattle.c_types.specs.Words.{name_cmp}
use Rattle.c_copies.specs.Names.{with_name, with_names, rising, has_name}

-- order

all_at : (P : List ℕ → Type 0) (o : Ordering) (x : List ℕ) (xs : List (List ℕ)) (n : List ℕ)
    → AllByRecursion P (x ∷ xs) → P n → AllByRecursion P (with_name xs n)
    → AllByRecursion P (match_ordering o (n ∷ x ∷ xs) (x ∷ xs) (x ∷ with_name xs n))
all_at P Less x xs n a p r = (p, a)
all_at P Equal x xs n a p r = a
all_at P Greater x xs n a p r = (a.0, r)

all_with_name : (P : List ℕ → Type 0) (ks : List (List ℕ)) (n : List ℕ) → AllByRecursion P ks → P n → AllByRecursion P (with_name ks n)
all_with_name P [] n a p = (p, tt)
all_with_name P (x ∷ xs) n a p = all_at P (name_cmp n x) x xs n a p (all_with_name P xs n a.1 p)

pub below_more : (n x : List ℕ) (xs : List (List ℕ)) → name_cmp n x ≡ Less → AllByRecursion (λ y. name_cmp x y ≡ Less) xs →
    AllByRecursion (λ y. name_cmp n y ≡ Less) xs
below_more n x [] h b = tt
below_more n x (y ∷ ys) h b = (nat_list_cmp_total.trans n x y h b.0, below_more n x ys h b.1)

pub turned : (n x : List ℕ) → name_cmp n x ≡ Greater → name_cmp x n ≡ Less
turned n x h = nat_list_cmp_total.antisymm x n ∙ ap ordering_reverse h

rising_at : (o : Ordering) (x : List ℕ) (xs : List (List ℕ)) (n : List ℕ) → name_cmp n x ≡ o
    → IsStrictlySortedBy name_cmp (x ∷ xs) → IsStrictlySortedBy name_cmp (with_name xs n)
    → IsStrictlySortedBy name_cmp (match_ordering o (n ∷ x ∷ xs) (x ∷ xs) (x ∷ with_name xs n))
unfolding IsStrictlySortedBy
rising_at Less x xs n e s r = ((e, below_more n x xs e s.0), s)
rising_at Equal x xs n e s r = s
rising_at Greater x xs n e s r = (all_with_name (λ y. name_cmp x y ≡ Less) xs n s.0 (turned n x e), r)

pub with_name-rising : (ks : List (List ℕ)) (n : List ℕ) → IsStrictlySortedBy name_cmp ks → IsStrictlySortedBy name_cmp (with_name ks n)
unfolding IsStrictlySortedBy
with_name-rising [] n s = (tt, tt)
with_name-rising (x ∷ xs) n s = rising_at (name_cmp n x) x xs n refl s (with_name-rising xs n s.1)

with_names-rising : (ks ns : List (List ℕ)) → IsStrictlySortedBy name_cmp ks → IsStrictlySortedBy name_cmp (with_names ks ns)
with_names-rising ks [] s = s
with_names-rising ks (n ∷ ns) s = with_names-rising (with_name ks n) ns (with_name-rising ks n s)

pub rising-is : (ns : List (List ℕ)) → IsStrictlySortedBy name_cmp (rising ns)
unfolding IsStrictlySortedBy
rising-is ns = with_names-rising [] ns tt

-- members

or_same : (a b : Bool) → (a || b) ≡ (a || (a || b))
or_same true b = refl
or_same false b = refl

or_swap : (a b c : Bool) → (a || (b || c)) ≡ (b || (a || c))
or_swap true true c = refl
or_swap true false c = refl
or_swap false b c = refl

pub or_none : (a : Bool) → a ≡ (a || false)
or_none true = refl
or_none false = refl

pub or_turn : (a b c : Bool) → ((a || b) || c) ≡ (b || (a || c))
or_turn true true c = refl
or_turn true false c = refl
or_turn false b c = refl

pub same_name : (n x : List ℕ) → name_cmp n x ≡ Equal → n ≡ x
same_name n x e = (bytes_eq-Decides n x).0 (sym (is_eq-slice_cmp n x) ∙ ap is_eq e)

members_at : (o : Ordering) (x : List ℕ) (xs : List (List ℕ)) (n q : List ℕ) → name_cmp n x ≡ o
    → has_name (with_name xs n) q ≡ (bytes_eq q n || has_name xs q)
    → has_name (match_ordering o (n ∷ x ∷ xs) (x ∷ xs) (x ∷ with_name xs n)) q ≡ (bytes_eq q n || (bytes_eq q x || has_name xs q))
members_at Less x xs n q e r = refl
members_at Equal x xs n q e r =
    or_same (bytes_eq q x) (has_name xs q) ∙ ap (λ m. bytes_eq q m || (bytes_eq q x || has_name xs q)) (sym (same_name n x e))
members_at Greater x xs n q e r = ap (λ b. bytes_eq q x || b) r ∙ or_swap (bytes_eq q x) (bytes_eq q n) (has_name xs q)

pub has_name-with_name : (ks : List (List ℕ)) (n q : List ℕ) → has_name (with_name ks n) q ≡ (bytes_eq q n || has_name ks q)
has_name-with_name [] n q = refl
has_name-with_name (x ∷ xs) n q = members_at (name_cmp n x) x xs n q refl (has_name-with_name xs n q)

has_name-with_names : (ks ns : List (List ℕ)) (q : List ℕ) → has_name (with_names ks ns) q ≡ (has_name ks q || has_name ns q)
has_name-with_names ks [] q = or_none (has_name ks q)
has_name-with_names ks (n ∷ ns) q =
    has_name-with_names (with_name ks n) ns q ∙ ap (λ b. b || has_name ns q) (has_name-with_name ks n q)
    ∙ or_turn (bytes_eq q n) (has_name ks q) (has_name ns q)

pub rising-members : (ns : List (List ℕ)) (q : List ℕ) → has_name (rising ns) q ≡ has_name ns q
rising-members ns q = has_name-with_names [] ns q
