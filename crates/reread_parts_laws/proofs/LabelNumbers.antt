-- The labels of a function get the numbers that they have in its list, since they differ.
use Rattle.std.proofs.Common.{◌≡◌, ◌<◌, ◌+◌, ℕ, zero, suc, true, false, cond, List, [], ◌∷◌, ◌++◌, map, length, length-append, append_assoc, Some, None, is_some, refl, ap, sym, ◌∙◌, arith, true≢false, bytes_eq}
use Rattle.std.specs.Prelude.{◌≢◌, slice_get, unwrap_or}
use Rattle.std.specs.declared.cmp.Ordering.{Ordering}
use Rattle.std.specs.declared.cmp.Ordering.TheVariants.{Less, Equal, Greater}
use Rattle.std.specs.Ordering.{match_ordering, is_eq}
use Rattle.std.proofs.lemmas.Map.Text.{is_eq-slice_cmp}
use Rattle.c_types.specs.Words.{name_cmp}
use Rattle.c_kinds.specs.Scopes.{Names, found, with_entry}
use Rattle.c_kinds.specs.Scopes.{Faults, fault_if}
use Rattle.c_statements.specs.Labels.{with_number, numbers_from, numbers, new_name, distinct_from, distinct, twice_from, twice_faults}
use Rattle.c_resolved_defs.specs.Form.{numbers_from as numbers_in}
use Rattle.c_resolved_defs.specs.Within.{Each, AllDiffer}
use Rattle.c_kinds.proofs.Entries.{same_names, names_same, by_bool, found_new}

-- a new name is one more
longer : (m : List ℕ) (b : ℕ) (es : Names ℕ) → found m es ≡ None → length (with_entry m b es) ≡ suc (length es)
longer m b [] h = refl
longer m b (e ∷ es) h = by_order (name_cmp m e.0) (is_eq-slice_cmp m e.0) (by_bool (bytes_eq m e.0) (λ y. absurd (none_there y h)) (λ n. n))
    (λ n. longer m b es (later n h))
  where
    none_there : bytes_eq m e.0 ≡ true → cond (bytes_eq m e.0) (Some e.1) (found m es) ≡ None → ⊥
    none_there y k = let z : Some e.1 ≡ None = (λ i. cond (sym y i) (Some e.1) (found m es)) ∙ k in cc

    later : bytes_eq m e.0 ≡ false → cond (bytes_eq m e.0) (Some e.1) (found m es) ≡ None → found m es ≡ None
    later n k = (λ i. cond (sym n i) (Some e.1) (found m es)) ∙ k

    by_order : (o : Ordering) → is_eq o ≡ bytes_eq m e.0 → bytes_eq m e.0 ≡ false → (bytes_eq m e.0 ≡ false → length (with_entry m b es) ≡ suc (length es))
        → length (match_ordering o ((m, b) ∷ e ∷ es) ((e.0, b) ∷ es) (e ∷ with_entry m b es)) ≡ suc (length (e ∷ es))
    by_order Less q n k = refl
    by_order Equal q n k = absurd (true≢false (q ∙ n))
    by_order Greater q n k = ap suc (k n)

-- a name that is not known
module _ (m : List ℕ) (known : Names ℕ) (h : found m known ≡ None) where
  new_number : with_number m known ≡ with_entry m (length known) known
  new_number = λ i. cond (is_some (h i)) known (with_entry m (length known) known)

  found_after : (q : List ℕ) → found q (with_number m known) ≡ cond (bytes_eq q m) (Some (length known)) (found q known)
  found_after q = found_new q m (length known) known (ap is_some h)

  length_after : length (with_number m known) ≡ suc (length known)
  length_after = ap length new_number ∙ longer m (length known) known h

differs : (q m : List ℕ) → q ≢ m → bytes_eq q m ≡ false
differs q m h = by_bool (bytes_eq q m) (λ y. absurd (h (same_names q m y))) (λ n. n)

-- the others are not known then
still_new : (m : List ℕ) (known : Names ℕ) (ns : List (List ℕ)) → found m known ≡ None → Each (λ y. y ≢ m) ns → Each (λ y. found y known ≡ None) ns →
    Each (λ y. found y (with_number m known) ≡ None) ns
still_new m known [] h d k = tt
still_new m known (n ∷ ns) h d k = (
  found_after m known h n ∙ (λ i. cond (differs n m (d.0) i) (Some (length known)) (found n known)) ∙ k.0,
  still_new m known ns h (d.1) (k.1),
)

kept : (ns : List (List ℕ)) (q : List ℕ) (known : Names ℕ) → AllDiffer ns → Each (λ y. found y known ≡ None) ns → Each (λ y. y ≢ q) ns →
    found q (numbers_from known ns) ≡ found q known
kept [] q known a k d = refl
kept (n ∷ ns) q known a k d =
    kept ns q (with_number n known) (a.1) (still_new n known ns (k.0) (a.0) (k.1)) (d.1)
    ∙ found_after n known (k.0) q ∙ (λ i. cond (differs q n (λ e. d.0 (sym e)) i) (Some (length known)) (found q known))

number_found : (ns : List (List ℕ)) (known : Names ℕ) (i : ℕ) (q : List ℕ) → AllDiffer ns → Each (λ y. found y known ≡ None) ns →
    slice_get ns i ≡ Some q → found q (numbers_from known ns) ≡ Some (length known + i)
number_found [] known i q a k e = cc
number_found (n ∷ ns) known zero q a k e =
    let s : n ≡ q = cc in
    let z : length known ≡ length known + 0 = omega arith in
    ap (λ y. found y (numbers_from (with_number n known) ns)) (sym s) ∙ kept ns n (with_number n known) (a.1) (still_new n known ns (k.0) (a.0) (k.1)) (a.0)
    ∙ found_after n known (k.0) n ∙ (λ j. cond (names_same n n refl j) (Some (length known)) (found n known)) ∙ ap Some z
number_found (n ∷ ns) known (suc i) q a k e =
    let z : suc (length known) + i ≡ length known + suc i = omega arith in
    number_found ns (with_number n known) i q (a.1) (still_new n known ns (k.0) (a.0) (k.1)) e ∙ ap (λ j. Some (j + i)) (length_after n known (k.0)) ∙ ap Some z

none_known : (ns : List (List ℕ)) → Each (λ y. found {X = ℕ} y [] ≡ None) ns
none_known [] = tt
none_known (n ∷ ns) = (refl, none_known ns)

there : (ns : List (List ℕ)) (i : ℕ) → i < length ns → slice_get ns i ≡ Some (unwrap_or (slice_get ns i) [])
there [] i h = absurd (omega (arith, h))
there (n ∷ ns) zero h = refl
there (n ∷ ns) (suc i) h = there ns i (omega (arith, h))

-- each label is found with its number
pub labels_found : (ns : List (List ℕ)) → AllDiffer ns → (i : ℕ) → i < length ns → found (unwrap_or (slice_get ns i) []) (numbers ns) ≡ Some i
labels_found ns a i h = let z : 0 + i ≡ i = omega arith in number_found ns [] i (unwrap_or (slice_get ns i) []) a (none_known ns) (there ns i h) ∙ ap Some z

-- ---- the labels of the function, and none twice

distinct_new : (ns : List (List ℕ)) (known : Names ℕ) → AllDiffer ns → Each (λ y. found y known ≡ None) ns → distinct_from known ns ≡ ns
distinct_new [] known a k = refl
distinct_new (n ∷ ns) known a k =
    (λ i. new_name (is_some (k.0 i)) n (distinct_from (with_number n known) ns)) ∙
    ap (λ l. n ∷ l) (distinct_new ns (with_number n known) (a.1) (still_new n known ns (k.0) (a.0) (k.1)))

pub distinct_is : (ns : List (List ℕ)) → AllDiffer ns → distinct ns ≡ ns
distinct_is ns a = distinct_new ns [] a (none_known ns)

twice_new : (word : ℕ → List ℕ) (ats : List ℕ) (known : Names ℕ) (vs : Faults) → AllDiffer (map word ats) →
    Each (λ y. found y known ≡ None) (map word ats) → twice_from known word ats vs ≡ vs
twice_new word [] known vs a k = refl
twice_new word (at ∷ ats) known vs a k =
    (λ i. twice_from (with_number (word at) known) word ats (fault_if (is_some (k.0 i)) at 32 vs)) ∙
    twice_new word ats (with_number (word at) known) vs (a.1) (still_new (word at) known (map word ats) (k.0) (a.0) (k.1))

pub none_twice : (word : ℕ → List ℕ) (ats : List ℕ) (vs : Faults) → AllDiffer (map word ats) → twice_faults word ats vs ≡ vs
none_twice word ats vs a = twice_new word ats [] vs a (none_known (map word ats))

-- ---- the names of labels by their numbers

names_behind : (front xs : List (List ℕ)) → map (λ l. unwrap_or (slice_get (front ++ xs) l) []) (numbers_in (length front) (length xs)) ≡ xs
names_behind front [] = refl
names_behind front (x ∷ xs) =
    let more : length (front ++ x ∷ []) ≡ suc (length front) = length-append front (x ∷ []) ∙ one (length front) in
    (λ i. unwrap_or (here front i) [] ∷ map (λ l. unwrap_or (slice_get (sym (append_assoc front (x ∷ []) xs) i) l) []) (numbers_in (sym more i) (length xs)))
    ∙ ap (λ l. x ∷ l) (names_behind (front ++ x ∷ []) xs)
  where
    one : (k : ℕ) → k + 1 ≡ suc k
    one k = omega arith

    here : (ys : List (List ℕ)) → slice_get (ys ++ x ∷ xs) (length ys) ≡ Some x
    here [] = refl
    here (y ∷ ys) = here ys

pub names_are : (xs : List (List ℕ)) → map (λ l. unwrap_or (slice_get xs l) []) (numbers_in 0 (length xs)) ≡ xs
names_are xs = names_behind [] xs
