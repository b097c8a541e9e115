-- What the limits count, told by a walk over the symbols with a state, as the events of tokens tell it; and that the places of
-- the symbols tell the same.
use Rattle.std.proofs.Common.{◌≡◌, ◌<◌, ◌≤◌, ◌⊎◌, inl, inr, ◌+◌, ◌-◌, ℕ, Bool, true, false, cond, nat_lt, max, List, [], ◌∷◌, ◌++◌, length, reverse, Option, Some, None, refl, sym, ap, subst, ◌∙◌, append-nil, append_assoc, arith}
use Rattle.std.proofs.lemmas.Bool.{ltb-true, ltb-false}
use Rattle.std.specs.Prelude.{count_by}
use Rattle.std.proofs.lemmas.List.{reverse-append}
use Rattle.std.proofs.lemmas.List.Sums.{sum_by-append}
use Rattle.c_grammar.specs.Derives.{NotBefore}
use Rattle.c_reading_defs.specs.Behind.{SomeBehind}
use Rattle.c_reading_defs.specs.Symbols.{Symbol, Counted, Uncounted, Outside, OpensLevel, EndsLevel, classes_in, limit, counted, most_counted, opens_level, ends_level, levels, IsOver}
use Rattle.c_source_laws.proofs.Spelt.{AreNested}

-- The number of the first token that opens a level or counts past the limit. In front of these symbols stand so many tokens,
-- so many count in the full expression that is open there, and so many levels are open.
abbrev pub walked_over : ℕ → ℕ → ℕ → List Symbol → Option ℕ
walked_over at count level [] = None
walked_over at count level (Counted k ∷ xs) = cond (nat_lt limit (count + 1)) (Some at) (walked_over (at + 1) (count + 1) level xs)
walked_over at count level (Uncounted k ∷ xs) = walked_over (at + 1) count level xs
walked_over at count level (Outside k ∷ xs) = walked_over (at + 1) 0 level xs
walked_over at count level (OpensLevel ∷ xs) = cond (nat_lt limit (level + 1)) (Some at) (walked_over at count (level + 1) xs)
walked_over at count level (EndsLevel ∷ xs) = walked_over at count (level - 1) xs

-- the most tokens that count in one full expression, where so many do in front of these
abbrev pub walked_most : ℕ → List Symbol → ℕ
walked_most count [] = 0
walked_most count (Counted k ∷ xs) = max (count + 1) (walked_most (count + 1) xs)
walked_most count (Outside k ∷ xs) = walked_most 0 xs
walked_most count (_ ∷ xs) = walked_most count xs

-- ---- the most that count

counted_low : (xs : List Symbol) → counted xs ≤ most_counted xs
counted_low [] = omega arith
counted_low (x ∷ xs) = omega arith

most_from : (count : ℕ) (xs : List Symbol) → max count (walked_most count xs) ≡ max (count + counted xs) (most_counted xs)
most_from count [] = omega arith
most_from count (Counted k ∷ xs) = let h = most_from (count + 1) xs in omega (arith, h)
most_from count (Uncounted k ∷ xs) = let h = most_from count xs in omega (arith, h)
most_from count (Outside k ∷ xs) = let h = most_from 0 xs in let l = counted_low xs in omega (arith, h, l)
most_from count (OpensLevel ∷ xs) = let h = most_from count xs in omega (arith, h)
most_from count (EndsLevel ∷ xs) = let h = most_from count xs in omega (arith, h)

pub walked_most_is : (xs : List Symbol) → walked_most 0 xs ≡ most_counted xs
walked_most_is xs = let h = most_from 0 xs in let l = counted_low xs in omega (arith, h, l)

-- ---- the numbers of tokens

abbrev number : List Symbol → ℕ
number xs = length (classes_in xs)

abbrev has_token : Symbol → ℕ
has_token (Counted k) = 1
has_token (Uncounted k) = 1
has_token (Outside k) = 1
has_token _ = 0

number_one : (x : Symbol) (xs : List Symbol) → number (x ∷ xs) ≡ has_token x + number xs
number_one (Counted k) xs = omega arith
number_one (Uncounted k) xs = omega arith
number_one (Outside k) xs = omega arith
number_one OpensLevel xs = omega arith
number_one EndsLevel xs = omega arith

number_both : (xs ys : List Symbol) → number (xs ++ ys) ≡ number xs + number ys
number_both [] ys = omega arith
number_both (x ∷ xs) ys =
    let h = number_both xs ys in
    let f = number_one x (xs ++ ys) in
    let g = number_one x xs in
    omega (arith, f, g, h)

-- ---- the levels, by the symbols in front with the last first

abbrev levels_back : List Symbol → ℕ
levels_back [] = 0
levels_back (OpensLevel ∷ q) = levels_back q + 1
levels_back (EndsLevel ∷ q) = levels_back q - 1
levels_back (_ ∷ q) = levels_back q

nested_more : (x : Symbol) (q xs : List Symbol) → AreNested (levels_back q) (x ∷ xs) → AreNested (levels_back (x ∷ q)) xs
nested_more (Counted k) q xs n = n
nested_more (Uncounted k) q xs n = n
nested_more (Outside k) q xs n = n
nested_more OpensLevel q xs n = n
nested_more EndsLevel q xs n = n.1

-- so many were opened as have ended and are open
abbrev AreOpen : List Symbol → ℕ → Type 0
AreOpen front n = count_by opens_level front ≡ count_by ends_level front + n

open_more : (x : Symbol) (front q xs : List Symbol) → AreNested (levels_back q) (x ∷ xs) → AreOpen front (levels_back q)
    → AreOpen (front ++ x ∷ []) (levels_back (x ∷ q))
open_more x front q xs n h =
    let o = counted_last opens_level front x in
    let c = counted_last ends_level front x in
    by x n (omega (arith, o, h)) c
  where
    counted_last : (p : Symbol → Bool) (front : List Symbol) (x : Symbol) → count_by p (front ++ x ∷ []) ≡ count_by p front + cond (p x) 1 0
    counted_last p front x = let e = sum_by-append (λ (x : Symbol). cond {A = ℕ} (p x) 1 0) front (x ∷ []) in omega (arith, e)

    by : (x : Symbol) → AreNested (levels_back q) (x ∷ xs)
        → count_by opens_level (front ++ x ∷ []) ≡ count_by ends_level front + levels_back q + cond (opens_level x) 1 0
        → count_by ends_level (front ++ x ∷ []) ≡ count_by ends_level front + cond (ends_level x) 1 0 → AreOpen (front ++ x ∷ []) (levels_back (x ∷ q))
    by (Counted k) n o c = omega (arith, o, c)
    by (Uncounted k) n o c = omega (arith, o, c)
    by (Outside k) n o c = omega (arith, o, c)
    by OpensLevel n o c = omega (arith, o, c)
    by EndsLevel n o c = let l = n.0 in omega (arith, o, c, l)

-- ---- those that are past a limit

abbrev Past : List Symbol → Type 0
Past q = (limit < counted q) ⊎ (limit < levels_back q)

abbrev OverBehind : List Symbol → List Symbol → ℕ → Type 0
OverBehind q [] k = ⊥
OverBehind q (x ∷ xs) k = ((number q ≡ k) × Past (x ∷ q)) ⊎ OverBehind (x ∷ q) xs k

later : (q xs : List Symbol) (k : ℕ) → OverBehind q xs k → number q ≤ k
later q [] k h = absurd h
later q (x ∷ xs) k (inl h) = let e = h.0 in omega (arith, e)
later q (x ∷ xs) k (inr h) = let l = later (x ∷ q) xs k h in let n = number_one x q in omega (arith, l, n)

record IsBack (front q : List Symbol) : Type 0 where
  same : reverse front ≡ q
  numbers : number front ≡ number q
  open_there : AreOpen front (levels_back q)

back_more : (front q : List Symbol) (x : Symbol) (xs : List Symbol) → AreNested (levels_back q) (x ∷ xs) → IsBack front q → IsBack (front ++ x ∷ []) (x ∷ q)
back_more front q x xs i b =
    let n = b.numbers in
    let f = number_both front (x ∷ []) in
    let g = number_one x [] in
    let h = number_one x q in
    record {
      same = reverse-append front (x ∷ []) ∙ ap (λ l. x ∷ l) (b.same);
      numbers = omega (arith, n, f, g, h);
      open_there = open_more x front q xs i (b.open_there);
    }

abbrev PastAt : List Symbol → Symbol → Type 0
PastAt front x = (limit < counted (x ∷ reverse front)) ⊎ (limit < levels (front ++ x ∷ []))

past_back : (front q : List Symbol) (x : Symbol) → IsBack front q → IsBack (front ++ x ∷ []) (x ∷ q) → PastAt front x → Past (x ∷ q)
past_back front q x b m (inl h) = inl (subst (λ l. limit < counted (x ∷ l)) (b.same) h)
past_back front q x b m (inr h) = inr (let e = m.open_there in omega (arith, h, e))

past_at : (front q : List Symbol) (x : Symbol) → IsBack front q → IsBack (front ++ x ∷ []) (x ∷ q) → Past (x ∷ q) → PastAt front x
past_at front q x b m (inl h) = inl (subst (λ l. limit < counted (x ∷ l)) (sym (b.same)) h)
past_at front q x b m (inr h) = inr (let e = m.open_there in omega (arith, h, e))

abbrev Is : ℕ → List Symbol → Symbol → Type 0
Is k front x = (number front ≡ k) × PastAt front x

abbrev FrontsOf : (k : ℕ) → List Symbol → (List Symbol → List Symbol) → Type 0
FrontsOf k xs f = SomeBehind (λ before. Is k (f before)) xs

-- one more stands in front
further : (k : ℕ) (front : List Symbol) (x : Symbol) (xs : List Symbol)
    → FrontsOf k xs (λ before. front ++ x ∷ before) → FrontsOf k xs (λ before. (front ++ x ∷ []) ++ before)
further k front x xs h = subst (FrontsOf k xs) (λ i. λ before. sym (append_assoc front (x ∷ []) before) i) h

back : (k : ℕ) (front : List Symbol) (x : Symbol) (xs : List Symbol)
    → FrontsOf k xs (λ before. (front ++ x ∷ []) ++ before) → FrontsOf k xs (λ before. front ++ x ∷ before)
back k front x xs h = subst (FrontsOf k xs) (λ i. λ before. append_assoc front (x ∷ []) before i) h

to_behind : (k : ℕ) (front q xs : List Symbol) → AreNested (levels_back q) xs → IsBack front q
    → SomeBehind (λ before. Is k (front ++ before)) xs → OverBehind q xs k
to_behind k front q [] i b h = h
to_behind k front q (x ∷ xs) i b (inl h) =
    let e = append-nil front in
    let n = subst (λ l. number l ≡ k) e h.0 in
    let m = b.numbers in
    inl (omega (arith, n, m), past_back front q x b (back_more front q x xs i b) (subst (λ l. PastAt l x) e h.1))
to_behind k front q (x ∷ xs) i b (inr h) =
    inr (to_behind k (front ++ x ∷ []) (x ∷ q) xs (nested_more x q xs i) (back_more front q x xs i b) (further k front x xs h))

from_behind : (k : ℕ) (front q xs : List Symbol) → AreNested (levels_back q) xs → IsBack front q
    → OverBehind q xs k → SomeBehind (λ before. Is k (front ++ before)) xs
from_behind k front q [] i b h = h
from_behind k front q (x ∷ xs) i b (inl h) =
    let e = sym (append-nil front) in
    let n = h.0 in
    let m = b.numbers in
    inl (subst (λ l. number l ≡ k) e (omega (arith, n, m)), subst (λ l. PastAt l x) e (past_at front q x b (back_more front q x xs i b) h.1))
from_behind k front q (x ∷ xs) i b (inr h) =
    inr (back k front x xs (from_behind k (front ++ x ∷ []) (x ∷ q) xs (nested_more x q xs i) (back_more front q x xs i b) h))

-- ---- the first of them

-- the first of the tokens that are so, if any is
abbrev pub IsFirst : Option ℕ → (ℕ → Type 0) → Type 0
IsFirst None P = (k : ℕ) → P k → ⊥
IsFirst (Some n) P = P n × ((k : ℕ) → k < n → P k → ⊥)

first_as : (o : Option ℕ) (P Q : ℕ → Type 0) → ((k : ℕ) → P k → Q k) → ((k : ℕ) → Q k → P k) → IsFirst o P → IsFirst o Q
first_as None P Q f g h = λ k q. h k (g k q)
first_as (Some n) P Q f g h = (f n (h.0), λ k l q. h.1 k l (g k q))

passed : (o : Option ℕ) (x : Symbol) (q xs : List Symbol) → counted (x ∷ q) ≤ limit → levels_back (x ∷ q) ≤ limit
    → IsFirst o (OverBehind (x ∷ q) xs) → IsFirst o (OverBehind q (x ∷ xs))
passed o x q xs c l = first_as o _ _ (λ k h. inr h) (λ k h. go k h)
  where
    go : (k : ℕ) → OverBehind q (x ∷ xs) k → OverBehind (x ∷ q) xs k
    go k (inl (e, inl h)) = absurd (omega (arith, h, c))
    go k (inl (e, inr h)) = absurd (omega (arith, h, l))
    go k (inr h) = h

reached : (x : Symbol) (q xs : List Symbol) (at : ℕ) → at ≡ number q → Past (x ∷ q) → IsFirst (Some at) (OverBehind q (x ∷ xs))
reached x q xs at e p = (inl (sym e, p), λ k l h. let m = later q (x ∷ xs) k h in absurd (omega (arith, l, m, e)))

by_limit : (n at : ℕ) (o : Option ℕ) (P : ℕ → Type 0) → (limit < n → IsFirst (Some at) P) → (n ≤ limit → IsFirst o P)
    → IsFirst (cond (nat_lt limit n) (Some at) o) P
by_limit n at o P f g = go (nat_lt limit n) refl
  where
    go : (b : Bool) → nat_lt limit n ≡ b → IsFirst (cond b (Some at) o) P
    go true e = f (ltb-true limit n e)
    go false e = g (ltb-false limit n e)

first_behind : (xs q : List Symbol) (at : ℕ) → at ≡ number q → counted q ≤ limit → levels_back q ≤ limit
    → IsFirst (walked_over at (counted q) (levels_back q) xs) (OverBehind q xs)
first_behind [] q at e c l = λ k h. h
first_behind (Counted k ∷ xs) q at e c l =
    by_limit (counted q + 1) at _ (OverBehind q (Counted k ∷ xs)) (λ h. reached (Counted k) q xs at e (inl h))
    (λ h. passed _ (Counted k) q xs h l (first_behind xs (Counted k ∷ q) (at + 1) (omega (arith, e)) h l))
first_behind (Uncounted k ∷ xs) q at e c l = passed _ (Uncounted k) q xs c l (first_behind xs (Uncounted k ∷ q) (at + 1) (omega (arith, e)) c l)
first_behind (Outside k ∷ xs) q at e c l =
    passed _ (Outside k) q xs (omega arith) l (first_behind xs (Outside k ∷ q) (at + 1) (omega (arith, e)) (omega arith) l)
first_behind (OpensLevel ∷ xs) q at e c l =
    by_limit (levels_back q + 1) at _ (OverBehind q (OpensLevel ∷ xs)) (λ h. reached OpensLevel q xs at e (inr h))
    (λ h. passed _ OpensLevel q xs c h (first_behind xs (OpensLevel ∷ q) at e c h))
first_behind (EndsLevel ∷ xs) q at e c l = let m : levels_back q - 1 ≤ limit = omega (arith, l) in
    passed _ EndsLevel q xs c m (first_behind xs (EndsLevel ∷ q) at e c m)

-- what the walk finds is the first token over a limit
pub walked_first : (xs : List Symbol) → AreNested 0 xs → IsFirst (walked_over 0 0 0 xs) (IsOver xs)
walked_first xs i =
    let b : IsBack [] [] = record { same = refl; numbers = refl; open_there = refl } in
    let h = first_behind xs [] 0 refl (omega arith) (omega arith) in
    first_as (walked_over 0 0 0 xs) (OverBehind [] xs) (IsOver xs) (λ k. from_behind k [] [] xs i b) (λ k. to_behind k [] [] xs i b) h

-- ---- what a first one says

pub none_is : (o : Option ℕ) (P : ℕ → Type 0) → IsFirst o P → o ≡ None → (k : ℕ) → P k → ⊥
none_is o P h e = subst (λ p. IsFirst p P) e h

pub is_none : (o : Option ℕ) (P : ℕ → Type 0) → IsFirst o P → ((k : ℕ) → P k → ⊥) → o ≡ None
is_none None P h n = refl
is_none (Some m) P h n = absurd (n m (h.0))

pub none_before : (o : Option ℕ) (P : ℕ → Type 0) (k : ℕ) → IsFirst o P → NotBefore k o → (j : ℕ) → j < k → P j → ⊥
none_before None P k h b j l p = h j p
none_before (Some m) P k h b j l p = h.1 j (omega (arith, b, l)) p

pub is_before : (o : Option ℕ) (P : ℕ → Type 0) (k : ℕ) → IsFirst o P → ((j : ℕ) → j < k → P j → ⊥) → NotBefore k o
is_before None P k h n = tt
is_before (Some m) P k h n = not_below m k (λ l. n m l (h.0))
  where
    not_below : (m k : ℕ) → (m < k → ⊥) → k ≤ m
    not_below m k f = go (nat_lt m k) refl
      where
        go : (b : Bool) → nat_lt m k ≡ b → k ≤ m
        go true e = absurd (f (ltb-true m k e))
        go false e = ltb-false m k e

pub first_is : (o : Option ℕ) (P : ℕ → Type 0) (k : ℕ) → IsFirst o P → o ≡ Some k → IsFirst (Some k) P
first_is o P k h e = subst (λ p. IsFirst p P) e h

pub is_first : (o : Option ℕ) (P : ℕ → Type 0) (k : ℕ) → IsFirst o P → IsFirst (Some k) P → o ≡ Some k
is_first None P k h f = absurd (h k (f.0))
is_first (Some m) P k h f =
    let a = is_before (Some m) P k h (f.1) in
    let b = is_before (Some k) P m f (h.1) in
    ap Some (omega (arith, a, b))
