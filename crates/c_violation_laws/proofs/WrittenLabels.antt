-- The labels of a function: the names that differ, and their places.
use Rattle.std.proofs.Common.{◌≡◌, ◌⊎◌, inl, inr, ℕ, suc, ◌+◌, Bool, true, false, not, ◌&&◌, cond, List, [], ◌∷◌, length, Option, Some, None, is_some, refl, ap, sym, ◌∙◌, arith, true≢false, bytes_eq}
use Rattle.std.specs.List.{filter}
use Rattle.std.specs.declared.cmp.Ordering.{Ordering}
use Rattle.std.specs.declared.cmp.Ordering.TheVariants.{Less, Equal, Greater}
use Rattle.std.specs.Ordering.{match_ordering, is_eq}
use Rattle.std.proofs.lemmas.Map.Text.{is_eq-slice_cmp}
use Rattle.c_types.specs.Words.{name_cmp}
use Rattle.c_kinds.specs.Scopes.{Names, found, with_entry, or_else}
use Rattle.c_kinds.proofs.Entries.{same_names, names_same, by_bool, found_new}
use Rattle.c_statements.specs.Context.{has_label, number_in}
use Rattle.c_statements.specs.Labels.{numbers_from, numbers, new_name, distinct_from, distinct}
use Rattle.c_reading_defs.specs.Behind.{IsOne}
use Rattle.c_reading_defs.specs.Labels.{each_once, label_number}

-- ---- a name that is known, or not

data Known (q : List ℕ) (known : Names ℕ) : Bool → Type 0 where
  there : (n : ℕ) → found q known ≡ Some n → Known q known true
  absent : found q known ≡ None → Known q known false

known_by : (q : List ℕ) (known : Names ℕ) (o : Option ℕ) → found q known ≡ o → Known q known (is_some o)
known_by q known (Some n) e = there n e
known_by q known None e = absent e

known_if : (q : List ℕ) (known : Names ℕ) → Known q known (has_label known q)
known_if q known = known_by q known (found q known) refl

-- a new name is one more
longer : (m : List ℕ) (b : ℕ) (es : Names ℕ) → found m es ≡ None → length (with_entry m b es) ≡ suc (length es)
longer m b [] h = refl
longer m b (e ∷ es) h = by_order (name_cmp m e.0) (is_eq-slice_cmp m e.0) (by_bool (bytes_eq m e.0) (λ y. absurd (none_there y h)) (λ n. n))
    (λ n. longer m b es (later n h))
  where
    none_there : bytes_eq m e.0 ≡ true → cond (bytes_eq m e.0) (Some e.1) (found m es) ≡ None → ⊥
    none_there y k = let z : Some e.1 ≡ None = (λ i. cond (sym y i) (Some e.1) (found m es)) ∙ k in cc

    later : bytes_eq m e.0 ≡ false → cond (bytes_eq m e.0) (Some e.1) (found m es) ≡ None → found m es ≡ None
    later n k = (λ i. cond (sym n i) (Some e.1) (found m es)) ∙ k

    by_order : (o : Ordering) → is_eq o ≡ bytes_eq m e.0 → bytes_eq m e.0 ≡ false → (bytes_eq m e.0 ≡ false → length (with_entry m b es) ≡ suc (length es))
        → length (match_ordering o ((m, b) ∷ e ∷ es) ((e.0, b) ∷ es) (e ∷ with_entry m b es)) ≡ suc (length (e ∷ es))
    by_order Less q n k = refl
    by_order Equal q n k = absurd (true≢false (q ∙ n))
    by_order Greater q n k = ap suc (k n)

-- ---- tests one after another

filtered_by : {A : Type 0} (t : Bool) (x : A) (p r : A → Bool) (qs xs : List A) → (t && p x) ≡ r x → filter p qs ≡ filter r xs →
    filter p (cond t (x ∷ qs) qs) ≡ filter r (x ∷ xs)
filtered_by true x p r qs xs e f = λ i. cond (e i) (x ∷ f i) (f i)
filtered_by false x p r qs xs e f = f ∙ ap (λ b. cond b (x ∷ filter r xs) (filter r xs)) e

filter_twice : {A : Type 0} (p q r : A → Bool) → ((x : A) → (q x && p x) ≡ r x) → (xs : List A) → filter p (filter q xs) ≡ filter r xs
filter_twice p q r h [] = refl
filter_twice p q r h (x ∷ xs) = filtered_by (q x) x p r (filter q xs) xs (h x) (filter_twice p q r h xs)

filter_all : {A : Type 0} (xs : List A) → filter (λ x. true) xs ≡ xs
filter_all [] = refl
filter_all (x ∷ xs) = ap (λ l. x ∷ l) (filter_all xs)

-- ---- names that are new

abbrev unknown : Names ℕ → List ℕ → Bool
unknown known m = not (has_label known m)

abbrev others : List ℕ → List ℕ → Bool
others n m = not (bytes_eq m n)

-- of a known name nothing is left
none_left : (b : Bool) (o : Option ℕ) → (b ≡ true → is_some o ≡ true) → (not b && not (is_some o)) ≡ not (is_some o)
none_left true o h = sym (ap not (h refl))
none_left false o h = refl

-- a name that is new is known then
one_known : (b : Bool) (l : ℕ) (o : Option ℕ) → (not b && not (is_some o)) ≡ not (is_some (cond b (Some l) o))
one_known true l o = refl
one_known false l o = refl

module _ (n : List ℕ) (known : Names ℕ) where
  abbrev behind : Names ℕ
  behind = with_entry n (length known) known

  still_known : (l : ℕ) → found n known ≡ Some l → (ns : List (List ℕ)) → filter (unknown known) (filter (others n) ns) ≡ filter (unknown known) ns
  still_known l e ns = filter_twice (unknown known) (others n) (unknown known)
      (λ m. none_left (bytes_eq m n) (found m known) (λ y. ap (λ z. is_some (found z known)) (same_names m n y) ∙ ap is_some e)) ns

  module _ (new : found n known ≡ None) where
    found_behind : (q : List ℕ) → found q behind ≡ cond (bytes_eq q n) (Some (length known)) (found q known)
    found_behind q = (λ i. found q (cond (is_some (sym new i)) known behind)) ∙ found_new q n (length known) known (ap is_some new)

    now_known : (ns : List (List ℕ)) → filter (unknown known) (filter (others n) ns) ≡ filter (unknown behind) ns
    now_known ns = filter_twice (unknown known) (others n) (unknown behind)
        (λ m. one_known (bytes_eq m n) (length known) (found m known) ∙ ap (λ o. not (is_some o)) (sym (found_behind m))) ns

-- ---- the names

distinct_by : (n : List ℕ) (ns : List (List ℕ)) (known : Names ℕ) (t : Bool) → Known n known t
    → ((m : Names ℕ) → distinct_from m ns ≡ filter (unknown m) (each_once ns))
    → new_name t n (distinct_from (cond t known (behind n known)) ns)
    ≡ cond (not t) (n ∷ filter (unknown known) (filter (others n) (each_once ns))) (filter (unknown known) (filter (others n) (each_once ns)))
distinct_by n ns known true (there l e) rest = rest known ∙ sym (still_known n known l e (each_once ns))
distinct_by n ns known false (absent e) rest = ap (λ l. n ∷ l) (rest (behind n known) ∙ sym (now_known n known e (each_once ns)))

distinct_is : (ns : List (List ℕ)) (known : Names ℕ) → distinct_from known ns ≡ filter (unknown known) (each_once ns)
distinct_is [] known = refl
distinct_is (n ∷ ns) known = distinct_by n ns known (has_label known n) (known_if n known) (λ m. distinct_is ns m)

pub names_once : (ns : List (List ℕ)) → distinct ns ≡ each_once ns
names_once ns = distinct_is ns [] ∙ filter_all (each_once ns)

-- ---- their places

-- each with its place, counted from this number on
abbrev placed : ℕ → List (List ℕ) → Names ℕ
placed at [] = []
placed at (n ∷ ns) = (n, at) ∷ placed (suc at) ns

-- what a name has among those that are known and those that are placed behind them
abbrev at_last : List ℕ → Names ℕ → List (List ℕ) → Option ℕ
at_last q known ns = or_else (found q known) (found q (placed (length known) ns))

swapped : (b : Bool) (l : ℕ) (o x : Option ℕ) → (b ≡ true → o ≡ None) → or_else (cond b (Some l) o) x ≡ or_else o (cond b (Some l) x)
swapped true l o x h = sym (ap (λ p. or_else p (Some l)) (h refl))
swapped false l o x h = refl

placed_by : (q n : List ℕ) (ns : List (List ℕ)) (known : Names ℕ) (t : Bool) → Known n known t
    → ((m : Names ℕ) → found q (numbers_from m ns) ≡ at_last q m (filter (unknown m) (each_once ns)))
    → found q (numbers_from (cond t known (behind n known)) ns)
    ≡ at_last q known (cond (not t) (n ∷ filter (unknown known) (filter (others n) (each_once ns))) (filter (unknown known) (filter (others n) (each_once ns))))
placed_by q n ns known true (there l e) rest = rest known ∙ ap (at_last q known) (sym (still_known n known l e (each_once ns)))
placed_by q n ns known false (absent e) rest =
    rest (behind n known)
    ∙ (λ i. or_else (found_behind n known e q i) (found q (placed (longer n (length known) known e i) (sym (now_known n known e (each_once ns)) i))))
    ∙ swapped (bytes_eq q n) (length known) (found q known)
    (found q (placed (suc (length known)) (filter (unknown known) (filter (others n) (each_once ns)))))
    (λ y. ap (λ z. found z known) (same_names q n y) ∙ e)

places : (q : List ℕ) (ns : List (List ℕ)) (known : Names ℕ) → found q (numbers_from known ns) ≡ at_last q known (filter (unknown known) (each_once ns))
places q [] known = or_none (found q known)
  where
    or_none : (o : Option ℕ) → o ≡ or_else o None
    or_none (Some n) = refl
    or_none None = refl
places q (n ∷ ns) known = placed_by q n ns known (has_label known n) (known_if n known) (λ m. places q ns m)

count_by : (n : List ℕ) (ns : List (List ℕ)) (known : Names ℕ) (t : Bool) → Known n known t
    → ((m : Names ℕ) → length (numbers_from m ns) ≡ length m + length (filter (unknown m) (each_once ns)))
    → length (numbers_from (cond t known (behind n known)) ns)
    ≡ length known + length (cond (not t) (n ∷ filter (unknown known) (filter (others n) (each_once ns)))
    (filter (unknown known) (filter (others n) (each_once ns))))
count_by n ns known true (there l e) rest = rest known ∙ ap (λ l. length known + length l) (sym (still_known n known l e (each_once ns)))
count_by n ns known false (absent e) rest =
    let a = rest (behind n known) in
    let b = longer n (length known) known e in
    let d = ap length (now_known n known e (each_once ns)) in
    omega arith

counts : (ns : List (List ℕ)) (known : Names ℕ) → length (numbers_from known ns) ≡ length known + length (filter (unknown known) (each_once ns))
counts [] known = omega arith
counts (n ∷ ns) known = count_by n ns known (has_label known n) (known_if n known) (λ m. counts ns m)

found_placed : (ns : List (List ℕ)) (q : List ℕ) → found q (numbers ns) ≡ found q (placed 0 (each_once ns))
found_placed ns q = places q ns [] ∙ ap (λ l. found q (placed 0 l)) (filter_all (each_once ns))

-- the number that is found, or this one
abbrev or_this : Option ℕ → ℕ → ℕ
or_this o other = elim o [ Some n ↦ n | None ↦ other ]

or_next : (t : Bool) (at l k : ℕ) (o : Option ℕ) → or_this o (suc at + l) ≡ suc at + k → or_this (cond t (Some at) o) (at + suc l) ≡ at + cond t 0 (suc k)
or_next true at l k o h = let r : at ≡ at + 0 = omega arith in r
or_next false at l k (Some n) h = let g : n ≡ suc at + k = h in let r : n ≡ at + suc k = omega arith in r
or_next false at l k None h = let g : suc at + l ≡ suc at + k = h in let r : at + suc l ≡ at + suc k = omega arith in r

place_counted : (q : List ℕ) (ns : List (List ℕ)) (at : ℕ) → or_this (found q (placed at ns)) (at + length ns) ≡ at + label_number ns q
place_counted q [] at = let r : at + 0 ≡ at + 0 = refl in r
place_counted q (n ∷ ns) at = or_next (bytes_eq q n) at (length ns) (label_number ns q) (found q (placed (suc at) ns)) (place_counted q ns (suc at))

pub number_same : (ns : List (List ℕ)) (q : List ℕ) → number_in (numbers ns) q ≡ label_number (each_once ns) q
number_same ns q =
    let e = found_placed ns q in
    let k = counts ns [] in
    let a = ap length (filter_all (each_once ns)) in
    let f : length (numbers ns) ≡ 0 + length (each_once ns) = omega arith in
    let g : or_this (found q (numbers ns)) (length (numbers ns)) ≡ or_this (found q (placed 0 (each_once ns))) (0 + length (each_once ns)) =
    λ i. or_this (e i) (f i) in
    let h = place_counted q (each_once ns) 0 in
    let j : number_in (numbers ns) q ≡ or_this (found q (numbers ns)) (length (numbers ns)) = refl in
    let z : 0 + label_number (each_once ns) q ≡ label_number (each_once ns) q = omega arith in
    j ∙ g ∙ h ∙ z

-- ---- one of them

one_placed : (q : List ℕ) (ns : List (List ℕ)) (at : ℕ) → is_some (found q (placed at ns)) ≡ true → IsOne q ns
one_placed q [] at e = true≢false (sym e)
one_placed q (n ∷ ns) at e = by_bool (bytes_eq q n)
    (λ y. inl (same_names q n y))
    (λ f. inr (one_placed q ns (suc at) (ap (λ t. is_some (cond t (Some at) (found q (placed (suc at) ns)))) (sym f) ∙ e)))

behind_one : (q n : List ℕ) (ns : List (List ℕ)) (at : ℕ) → bytes_eq q n ≡ false → (q ≡ n) ⊎ IsOne q ns →
    (IsOne q ns → is_some (found q (placed at ns)) ≡ true) → is_some (found q (placed at ns)) ≡ true
behind_one q n ns at f (inl e) g = absurd (true≢false (sym (names_same q n e) ∙ f))
behind_one q n ns at f (inr k) g = g k

placed_one : (q : List ℕ) (ns : List (List ℕ)) (at : ℕ) → IsOne q ns → is_some (found q (placed at ns)) ≡ true
placed_one q [] at h = absurd h
placed_one q (n ∷ ns) at h = by_bool (bytes_eq q n)
    (λ y. ap (λ t. is_some (cond t (Some at) (found q (placed (suc at) ns)))) y)
    (λ f. ap (λ t. is_some (cond t (Some at) (found q (placed (suc at) ns)))) f ∙ behind_one q n ns (suc at) f h (λ k. placed_one q ns (suc at) k))

pub label_known : (ns : List (List ℕ)) (q : List ℕ) → has_label (numbers ns) q ≡ true → IsOne q (each_once ns)
label_known ns q e = one_placed q (each_once ns) 0 (ap is_some (sym (found_placed ns q)) ∙ e)

pub known_label : (ns : List (List ℕ)) (q : List ℕ) → IsOne q (each_once ns) → has_label (numbers ns) q ≡ true
known_label ns q h = ap is_some (found_placed ns q) ∙ placed_one q (each_once ns) 0 h
