-- How many slots are gone before each, and which are left.
use Rattle.std.proofs.Common.{ℕ, zero, suc, ◌+◌, ◌-◌, ◌<◌, ◌≤◌, ◌⊎◌, inl, inr, arith, Bool, true, false, cond, List, [], ◌∷◌, ◌++◌, length, get_or, take, drop, Some, None, slice_get, ◌≡◌, refl, sym, ap, ◌∙◌}
use Rattle.std.specs.Prelude.{remove}
use Rattle.std.proofs.Math.Nat.{eq-or-lt_of_le}
use Rattle.std.proofs.lemmas.List.{take_all, drop_all, append-nil}
use Rattle.c_tree.specs.declared.tree.Slot.{Slot}
use Rattle.tidy_laws.specs.Gone.{gone_before, left}
use Rattle.tidy_slots.specs.declared.numbers.Numbers.{Numbers}
use Rattle.tidy_slots.specs.Numbers.{number}

pub entry_there : (xs : List ℕ) (i n d : ℕ) → Some n ≡ slice_get xs i → get_or xs i d ≡ n
entry_there [] i n d e = cc
entry_there (x ∷ xs) zero n d e = cc
entry_there (x ∷ xs) (suc i) n d e = entry_there xs i n d e

pub entry_past : (xs : List ℕ) (i d : ℕ) → None ≡ slice_get xs i → get_or xs i d ≡ d
entry_past [] i d e = refl
entry_past (x ∷ xs) zero d e = cc
entry_past (x ∷ xs) (suc i) d e = entry_past xs i d e

-- ---- how many are gone

gone_next : (gone : List Bool) (i : ℕ) → gone_before gone (suc i) ≡ gone_before gone i + cond (get_or gone i false) 1 0
gone_next [] i = omega arith
gone_next (b ∷ []) zero = omega arith
gone_next (b ∷ c ∷ gone) zero = omega arith
gone_next (b ∷ gone) (suc i) = let h = gone_next gone i in omega (arith, h)

gone_past : (gone : List Bool) (x : ℕ) → length gone ≤ x → gone_before gone x ≡ gone_before gone (length gone)
gone_past [] x h = refl
gone_past (b ∷ gone) zero h = absurd (omega (arith, h))
gone_past (b ∷ gone) (suc x) h = ap (λ n. cond b 1 0 + n) (gone_past gone x (omega (arith, h)))

pushed_last : (xs : List ℕ) (v d : ℕ) → get_or (xs ++ v ∷ []) (length xs) d ≡ v
pushed_last [] v d = refl
pushed_last (x ∷ xs) v d = pushed_last xs v d

pushed_there : (xs : List ℕ) (v i d : ℕ) → i < length xs → get_or (xs ++ v ∷ []) i d ≡ get_or xs i d
pushed_there [] v i d h = absurd (omega (arith, h))
pushed_there (x ∷ xs) v zero d h = refl
pushed_there (x ∷ xs) v (suc i) d h = pushed_there xs v i d (omega (arith, h))

pushed_long : (xs : List ℕ) (v : ℕ) → length (xs ++ v ∷ []) ≡ suc (length xs)
pushed_long [] v = refl
pushed_long (x ∷ xs) v = ap suc (pushed_long xs v)

entry_same : (xs : List ℕ) (i d e : ℕ) → i < length xs → get_or xs i d ≡ get_or xs i e
entry_same [] i d e h = absurd (omega (arith, h))
entry_same (x ∷ xs) zero d e h = refl
entry_same (x ∷ xs) (suc i) d e h = entry_same xs i d e (omega (arith, h))

entry_none : (xs : List ℕ) (i d : ℕ) → length xs ≤ i → get_or xs i d ≡ d
entry_none [] i d h = refl
entry_none (x ∷ xs) zero d h = absurd (omega (arith, h))
entry_none (x ∷ xs) (suc i) d h = entry_none xs i d (omega (arith, h))

-- so many are counted
pub record CountedTo (gone : List Bool) (i : ℕ) (before : List ℕ) (total : ℕ) : Type 0 where
  pub as_long : length before ≡ i
  pub in_all : total ≡ gone_before gone i
  pub each : (x : ℕ) → x < i → get_or before x 0 ≡ gone_before gone x

zero_before : (gone : List Bool) → gone_before gone 0 ≡ 0
zero_before [] = refl
zero_before (b ∷ gone) = refl

pub none_counted : (gone : List Bool) (before : List ℕ) → before ≡ [] → CountedTo gone 0 before 0
none_counted gone before e = record { as_long = ap length e; in_all = sym (zero_before gone); each = λ x h. absurd (omega (arith, h)) }

pub one_counted : (gone : List Bool) (i j : ℕ) (before next : List ℕ) (total sum : ℕ) (b : Bool) → j ≡ suc i → next ≡ before ++ total ∷ [] →
    b ≡ get_or gone i false → sum ≡ total + cond b 1 0 → CountedTo gone i before total → CountedTo gone j next sum
one_counted gone i j before next total sum b q e h k c = record {
  as_long = ap length e ∙ pushed_long before total ∙ ap suc c.as_long ∙ sym q;
  in_all = k ∙ ap (λ z. total + cond z 1 0) h ∙ ap (λ n. n + cond (get_or gone i false) 1 0) c.in_all ∙ sym (ap (gone_before gone) q ∙ gone_next gone i);
  each = λ x l. at x (eq-or-lt_of_le (omega (arith, l, q)));
}
  where
    at : (x : ℕ) → (x ≡ i) ⊎ (x < i) → get_or next x 0 ≡ gone_before gone x
    at x (inl w) =
        ap (λ z. get_or z x 0) e ∙ ap (λ y. get_or (before ++ total ∷ []) y 0) (w ∙ sym c.as_long) ∙ pushed_last before total 0
        ∙ c.in_all ∙ sym (ap (gone_before gone) w)
    at x (inr w) =
        let m : x < length before = omega (arith, w, c.as_long) in
        ap (λ z. get_or z x 0) e ∙ pushed_there before total x 0 m ∙ c.each x w

pub all_counted : (gone : List Bool) (i : ℕ) (n : Numbers) → i ≡ length gone → CountedTo gone i n.before n.total → (x : ℕ) → number n x ≡ x - gone_before gone x
all_counted gone i n e c x = ap (λ m. x - m) (at (eq-or-lt_of_le_or x i))
  where
    eq-or-lt_of_le_or : (x i : ℕ) → (x < i) ⊎ (i ≤ x)
    eq-or-lt_of_le_or x zero = inr (omega arith)
    eq-or-lt_of_le_or zero (suc i) = inl (omega arith)
    eq-or-lt_of_le_or (suc x) (suc i) = more (eq-or-lt_of_le_or x i)
      where
        more : (x < i) ⊎ (i ≤ x) → (suc x < suc i) ⊎ (suc i ≤ suc x)
        more (inl h) = inl (omega (arith, h))
        more (inr h) = inr (omega (arith, h))

    at : (x < i) ⊎ (i ≤ x) → get_or n.before x n.total ≡ gone_before gone x
    at (inl h) = entry_same n.before x n.total 0 (omega (arith, h, c.as_long)) ∙ c.each x h
    at (inr h) =
        entry_none n.before x n.total (omega (arith, h, c.as_long)) ∙ c.in_all ∙ ap (gone_before gone) e
        ∙ sym (gone_past gone x (omega (arith, h, e)))

-- ---- which are left

-- those from one place on are taken out
abbrev pub LeftFrom : List Bool → List Slot → ℕ → List Slot → Type 0
LeftFrom gone old i new = new ≡ take i old ++ left (drop i gone) (drop i old)

pub none_taken : (gone : List Bool) (old : List Slot) (i : ℕ) → i ≡ length gone → length gone ≡ length old → LeftFrom gone old i old
none_taken gone old i e h =
    let k : length old ≤ i = omega (arith, e, h) in
    let l : length gone ≤ i = omega (arith, e) in
    sym (ap (λ z. take i old ++ left z (drop i old)) (drop_all i gone l) ∙ ap (λ z. take i old ++ z) (drop_all i old k) ∙ append-nil (take i old) ∙
    take_all i old k)

taken_at : (b : Bool) (s : Slot) (r w : List Slot) → cond b (s ∷ r) (s ∷ w) ≡ s ∷ cond b r w
taken_at true s r w = refl
taken_at false s r w = refl

taken : (gone : List Bool) (old : List Slot) (i : ℕ) → i < length gone → length gone ≡ length old
    → cond (get_or gone i false) (remove (take (suc i) old ++ left (drop (suc i) gone) (drop (suc i) old)) i)
    (take (suc i) old ++ left (drop (suc i) gone) (drop (suc i) old))
    ≡ take i old ++ left (drop i gone) (drop i old)
taken [] old i h e = absurd (omega (arith, h))
taken (b ∷ gone) [] i h e = absurd (omega (arith, e))
taken (true ∷ gone) (s ∷ old) zero h e = refl
taken (false ∷ gone) (s ∷ old) zero h e = refl
taken (b ∷ gone) (s ∷ old) (suc i) h e =
    let w = take (suc i) old ++ left (drop (suc i) gone) (drop (suc i) old) in
    taken_at (get_or gone i false) s (remove w i) w ∙ ap (λ z. s ∷ z) (taken gone old i (omega (arith, h)) (omega (arith, e)))

pub one_taken : (gone : List Bool) (old new next : List Slot) (i j : ℕ) (b : Bool) → j ≡ suc i → i < length gone → length gone ≡ length old →
    b ≡ get_or gone i false → next ≡ cond b (remove new i) new → LeftFrom gone old j new → LeftFrom gone old i next
one_taken gone old new next i j b q h e k n l =
    let m = l ∙ ap (λ z. take z old ++ left (drop z gone) (drop z old)) q in
    n ∙ ap (λ z. cond z (remove new i) new) k ∙ ap (λ z. cond (get_or gone i false) (remove z i) z) m ∙ taken gone old i h e

pub all_taken : (gone : List Bool) (old new : List Slot) (i : ℕ) → i ≡ 0 → LeftFrom gone old i new → new ≡ left gone old
all_taken gone old new i e l = l ∙ ap (λ z. take z old ++ left (drop z gone) (drop z old)) e ∙ none old gone
  where
    none : (old : List Slot) (gone : List Bool) → take 0 old ++ left (drop 0 gone) (drop 0 old) ≡ left gone old
    none [] [] = refl
    none [] (b ∷ gone) = refl
    none (s ∷ old) [] = refl
    none (s ∷ old) (b ∷ gone) = refl
