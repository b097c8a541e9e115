-- A list that has each number below n has n items at least.
use Rattle.std.proofs.Common.{◌≡◌, ◌≢◌, ℕ, zero, suc, ◌≤◌, ◌<◌, ℤ, pos, List, [], ◌∷◌, length, Option, Some, ◌⊎◌, inl, inr, refl, sym, ap, ◌∙◌, arith}
use Rattle.std.specs.Prelude.{Contains, slice_index_or}

abbrev In : {A : Type 0} → A → List A → Type 0
In x [] = ⊥
In x (y ∷ ys) = (x ≡ y) ⊎ In x ys

in_list : {A : Type 0} (xs : List A) (x : A) (k : ℕ) → k < length xs → slice_index_or xs k x ≡ x → In x xs
in_list [] x k h e = absurd (omega arith)
in_list (y ∷ ys) x zero h e = inl (sym e)
in_list (y ∷ ys) x (suc k) h e = inr (in_list ys x k (omega arith) e)

record Without {A : Type 0} (x : A) (xs : List A) : Type 0 where
  rest : List A
  shorter : length xs ≡ suc (length rest)
  kept : (y : A) → (y ≢ x) → In y xs → In y rest

without : {A : Type 0} (x : A) (xs : List A) → In x xs → Without x xs
without x [] h = absurd h
without x (y ∷ ys) h = elim h [
  | inl e ↦ record { rest = ys; shorter = refl; kept = λ z d i. elim i [ inl f ↦ absurd (d (f ∙ sym e)) | inr r ↦ r ] }
  | inr r ↦
      let w = without x ys r in
      record { rest = y ∷ w.rest; shorter = ap suc w.shorter; kept = λ z d i. elim i [ inl f ↦ inl f | inr q ↦ inr (w.kept z d q) ] }
]

numbers_differ : (m n : ℕ) → m < n → Some (pos m) ≢ Some (pos n)
numbers_differ m n h e = let f : m ≡ n = cc in omega arith

all_in : (n : ℕ) (xs : List (Option ℤ)) → ((m : ℕ) → m < n → In (Some (pos m)) xs) → n ≤ length xs
all_in zero xs h = omega arith
all_in (suc n) xs h =
    let w = without (Some (pos n)) xs (h n (omega arith)) in
    let r = all_in n w.rest (λ m l. w.kept (Some (pos m)) (numbers_differ m n l) (h m (omega arith))) in
    let s = w.shorter in
    omega arith

pub count_below : (n : ℕ) (xs : List (Option ℤ)) → ((m : ℕ) → m < n → Contains xs (Some (pos m))) → n ≤ length xs
count_below n xs h = all_in n xs (λ m l. let i = h m l in in_list xs (Some (pos m)) i.0 i.1 i.2)
