-- The places of the outermost list, as items and as trees.
use Rattle.std.proofs.Common.{ℕ, zero, suc, ◌+◌, ◌-◌, ◌<◌, ◌≤◌, ◌⊎◌, inl, inr, arith, List, [], ◌∷◌, length, take, drop, get_or, slice_set, Option, Some, None, ◌≡◌, refl, sym, ap, subst, ◌∙◌}
use Rattle.std.specs.Prelude.{remove}
use Rattle.std.proofs.lemmas.Bool.{cases_lt}
use Rattle.c_tree.specs.declared.tree.Item.{Item}
use Rattle.c_tree.specs.Trees.{Forest, Nil, Then, trees_of, join}
use Rattle.c_tree.proofs.TreeLaws.{trees-none}
use Rattle.jump_meaning.specs.Code.{FunctionTree}
use Rattle.c_tree.specs.Views.{tree_at}
use Rattle.c_tree.proofs.Views.{trees-first, trees-end}
use Rattle.tidy_loops.specs.Slots.{Tells, counts_of}
use Rattle.break_recovery.specs.Next.{put, next_list, next_at, changed_to}
use Rattle.break_recovery.specs.Places.{behind, replaced, removed, removed_at, AreQuiet, AreQuietBut, IsFoundAt, Fewer, GoesOn}
use Rattle.break_recovery.proofs.NothingBefore.{goes_on_at, found_next}

-- ---- items and trees

pub behind_is : (k : ℕ) (xs : List Item) → trees_of (drop k xs) ≡ behind k (trees_of xs)
behind_is zero xs = refl
behind_is (suc k) [] = trees-none ∙ sym (ap (behind (suc k)) trees-none)
behind_is (suc k) (x ∷ xs) = behind_is k xs ∙ sym (ap (behind (suc k)) (trees-first x xs))

replaced_is : (k : ℕ) (c : Forest) (xs : List Item) → join (trees_of (take k xs)) c ≡ replaced k c (trees_of xs)
replaced_is zero c xs = ap (λ z. join z c) trees-none
replaced_is (suc k) c [] = ap (λ z. join z c) trees-none ∙ sym (ap (replaced (suc k) c) trees-none)
replaced_is (suc k) c (x ∷ xs) = ap (λ z. join z c) (trees-first x (take k xs)) ∙ ap (Then (tree_at x)) (replaced_is k c xs) ∙
    sym (ap (replaced (suc k) c) (trees-first x xs))

pub removed_is : (xs : List Item) (i : ℕ) → i < length xs → trees_of (remove xs i) ≡ removed i (trees_of xs)
removed_is [] i h = absurd (omega (arith, h))
removed_is (x ∷ xs) zero h = sym (ap (removed zero) (trees-first x xs))
removed_is (x ∷ xs) (suc i) h = trees-first x (remove xs i) ∙ ap (Then (tree_at x)) (removed_is xs i (omega (arith, h))) ∙
    sym (ap (removed (suc i)) (trees-first x xs))

none_past : (xs : List Item) (k : ℕ) → length xs ≤ k → behind k (trees_of xs) ≡ Nil
none_past xs k h = sym (behind_is k xs) ∙ trees-end xs k h

-- ---- what was found

put_same : {A B : Type 0} (F G : A → B) → ((x : A) → F x ≡ G x) → (o : Option (ℕ × A)) → put F o ≡ put G o
put_same F G h None = refl
put_same F G h (Some c) = ap (λ z. Some (c.0, z)) (h c.1)

pub at_place : (xs : List Item) (k : ℕ) (f : FunctionTree) (n : ℕ)
    → put (join (trees_of (take k xs))) (next_at f n (trees_of (drop k xs))) ≡ put (λ c. replaced k c (trees_of xs)) (next_at f n (behind k (trees_of xs)))
at_place xs k f n =
    put_same (join (trees_of (take k xs))) (λ c. replaced k c (trees_of xs)) (λ c. replaced_is k c xs) (next_at f n (trees_of (drop k xs)))
    ∙ ap (λ a. put (λ c. replaced k c (trees_of xs)) (next_at f n a)) (behind_is k xs)

pub past_place : (xs : List Item) (k : ℕ) (f : FunctionTree) (n : ℕ) → length xs ≤ k →
    None ≡ put (λ c. replaced k c (trees_of xs)) (next_at f n (behind k (trees_of xs)))
past_place xs k f n h = sym (ap (λ z. put (λ c. replaced k c (trees_of xs)) (next_at f n z)) (none_past xs k h))

apart : {A : Type 0} (x : A) → Some x ≡ None → ⊥
apart x e = cc

pub some_none : {A P : Type 0} (x : A) → Some x ≡ None → P
some_none x e = absurd (apart x e)

pub none_found : {A : Type 0} (F : A → Forest) (s : Option ℕ) (b : Forest) (o : Option (ℕ × A)) → changed_to s b ≡ put F o → s ≡ None → o ≡ None
none_found F s b None e h = refl
none_found F None b (Some c) e h = some_none (c.0, F c.1) (sym e)
none_found F (Some g) b (Some c) e h = some_none g h

abbrev slot_in : Option (ℕ × Forest) → ℕ
slot_in None = 0
slot_in (Some c) = c.0

abbrev list_in : Option (ℕ × Forest) → Forest
list_in None = Nil
list_in (Some c) = c.1

pub one_found : (f : FunctionTree) (n k : ℕ) (a b : Forest) (s : Option ℕ) (g : ℕ) →
    changed_to s b ≡ put (λ c. replaced k c a) (next_at f n (behind k a)) → s ≡ Some g → AreQuiet f n k a → IsFoundAt f n (Some (g, k)) a b
one_found f n k a b s g e h q = by (next_at f n (behind k a)) refl
  where
    by : (o : Option (ℕ × Forest)) → next_at f n (behind k a) ≡ o → IsFoundAt f n (Some (g, k)) a b
    by None i = some_none (g, b) (sym (ap (λ s. changed_to s b) h) ∙ e ∙ ap (put (λ c. replaced k c a)) i)
    by (Some c) i =
        let w : Some (g, b) ≡ Some (c.0, replaced k c.1 a) = sym (ap (λ s. changed_to s b) h) ∙ e ∙ ap (put (λ c. replaced k c a)) i in
        (q, c.1, i ∙ ap (λ z. Some (z, c.1)) (sym (ap slot_in w)), ap list_in w)

-- ---- quiet places

pub none_quiet : (f : FunctionTree) (n : ℕ) (a : Forest) → AreQuiet f n 0 a
none_quiet f n a j i = absurd (omega (arith, i))

pub more_quiet : (f : FunctionTree) (n k : ℕ) (a : Forest) → next_at f n (behind k a) ≡ None → AreQuiet f n k a → AreQuiet f n (k + 1) a
more_quiet f n k a h q j i = elim (cases_lt j k) [
  | inl m ↦ q j m
  | inr m ↦ let e : j ≡ k = omega (arith, i, m) in ap (λ z. next_at f n (behind z a)) e ∙ h
]

pub all_quiet : (f : FunctionTree) (n : ℕ) (xs : List Item) (i : ℕ) → length xs ≤ i → AreQuiet f n i (trees_of xs) → (j : ℕ) →
    next_at f n (behind j (trees_of xs)) ≡ None
all_quiet f n xs i h q j = elim (cases_lt j i) [
  | inl m ↦ q j m
  | inr m ↦ ap (next_at f n) (none_past xs j (omega (arith, h, m)))
]

pub before_doubt : (f : FunctionTree) (n doubt from : ℕ) (a : Forest) → doubt < from → AreQuietBut f n doubt from a → AreQuiet f n doubt a
before_doubt f n doubt from a h q j i = q j (omega (arith, h, i)) (λ e. omega (arith, i, e))

pub no_doubt : (f : FunctionTree) (n doubt from : ℕ) (a : Forest) → from ≤ doubt → AreQuietBut f n doubt from a → AreQuiet f n from a
no_doubt f n doubt from a h q j i = q j i (λ e. omega (arith, h, i, e))

pub doubt_gone : (f : FunctionTree) (n doubt from : ℕ) (a : Forest) → next_at f n (behind doubt a) ≡ None → AreQuietBut f n doubt from a → AreQuiet f n from a
doubt_gone f n doubt from a h q j i = elim (cases_lt j doubt) [
  | inl m ↦ q j i (λ e. omega (arith, m, e))
  | inr m ↦ elim (cases_lt doubt j) [
    | inl l ↦ q j i (λ e. omega (arith, l, e))
    | inr l ↦ let e : j ≡ doubt = omega (arith, l, m) in ap (λ z. next_at f n (behind z a)) e ∙ h
  ]
]

-- ---- where the search goes on

pub goes_before : (k d : ℕ) → k < d → GoesOn k (Some d) k k
goes_before k d h j i p = inl (omega (arith, h, i), i)

at_least : (j d : ℕ) → d - 1 ≤ j → (j ≡ d - 1 → ⊥) → d < suc j
at_least j zero h p = omega arith
at_least j (suc d) h p = elim (cases_lt d j) [
  | inl l ↦ omega (arith, l)
  | inr l ↦ absurd (p (omega (arith, h, l)))
]

pub goes_behind : (k d : ℕ) → GoesOn k (Some d) (d - 1) (k - 1)
goes_behind k d j i p = elim (cases_lt j (d - 1)) [
  | inl m ↦ inl (omega (arith, m), omega (arith, i))
  | inr m ↦ inr (at_least j d m p, omega (arith, i))
]

pub found_changed : (f : FunctionTree) (g k : ℕ) (a b : Forest) → IsFoundAt f 2 (Some (g, k)) a b → Some (g, b) ≡ next_list f 1 a
found_changed f g k a b (q, c, e, i) = ap (λ z. Some (g, z)) i ∙ sym (found_next f 1 k a g c q e)

pub found_goes_on : (f h : FunctionTree) → Fewer (counts_of f) (counts_of h) → (g k : ℕ) (a b d : Forest) (gone : Option ℕ) (doubt from : ℕ) →
    IsFoundAt f 2 (Some (g, k)) a b
    → d ≡ removed_at gone b → GoesOn k gone doubt from → AreQuietBut h 2 doubt from d
found_goes_on f h l g k a b d gone doubt from (q, c, e, i) r o =
    subst (AreQuietBut h 2 doubt from) (sym (r ∙ ap (removed_at gone) i)) (goes_on_at f h l 2 k a g c gone doubt from e q o)

-- ---- the counts after a change

set_or : (xs : List ℕ) (s g : ℕ) → (get_or (slice_set xs s 0) g 0 ≡ get_or xs g 0) ⊎ (get_or (slice_set xs s 0) g 0 ≡ 0)
set_or [] s g = inl refl
set_or (x ∷ xs) zero zero = inr refl
set_or (x ∷ xs) zero (suc g) = inl refl
set_or (x ∷ xs) (suc s) zero = inl refl
set_or (x ∷ xs) (suc s) (suc g) = set_or xs s g

pub fewer_counted : (f h : FunctionTree) (counts after : List ℕ) (s : ℕ) → after ≡ slice_set counts s 0 → Tells counts f → Tells after h →
    Fewer (counts_of f) (counts_of h)
fewer_counted f h counts after s e t u g = by (set_or counts s g)
  where
    now : counts_of h g ≡ get_or (slice_set counts s 0) g 0
    now = sym (u g) ∙ ap (λ xs. get_or xs g 0) e

    by : (get_or (slice_set counts s 0) g 0 ≡ get_or counts g 0) ⊎ (get_or (slice_set counts s 0) g 0 ≡ 0) →
        (counts_of h g ≡ counts_of f g) ⊎ (counts_of h g ≡ 0)
    by (inl k) = inl (now ∙ k ∙ t g)
    by (inr k) = inr (now ∙ k)

pub set_zero : (xs : List ℕ) (s : ℕ) → get_or (slice_set xs s 0) s 0 ≡ 0
set_zero [] s = refl
set_zero (x ∷ xs) zero = refl
set_zero (x ∷ xs) (suc s) = set_zero xs s

pub none_counted : (h : FunctionTree) (counts after : List ℕ) (s : ℕ) → after ≡ slice_set counts s 0 → Tells after h → counts_of h s ≡ 0
none_counted h counts after s e u = sym (u s) ∙ ap (λ xs. get_or xs s 0) e ∙ set_zero counts s

pub one_slot : (g x : ℕ) → Some g ≡ Some x → g ≡ x
one_slot g x e = ap slot_there e
  where
    slot_there : Option ℕ → ℕ
    slot_there None = 0
    slot_there (Some y) = y
