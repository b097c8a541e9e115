-- The search for a free name finds one.
use Rattle.std.proofs.Common.{◌≡◌, ℕ, zero, suc, ◌+◌, ◌<◌, ◌≤◌, ◌^◌, Bool, true, false, cond, ◌||◌, List, [], ◌∷◌, ◌++◌, length, codes, refl, ap, ◌∙◌, inl, inr, arith}
use Rattle.std.specs.Fmt.{decimal}
use Rattle.std.specs.Str.{bytes_eq}
use Rattle.std.specs.Set.{is_member}
use Rattle.std.specs.List.{IsDistinct, AllByRecursion}
use Rattle.std.proofs.lemmas.Fmt.{decimal_injective}
use Rattle.std.proofs.lemmas.Slice.Eq.{bytes_eq-Decides}
use Rattle.std.proofs.lemmas.Cmp.{nat_list_eq_equiv}
use Rattle.std.proofs.lemmas.List.{append_cancel_left}
use Rattle.std.proofs.lemmas.Bool.{or_cases, false_from_ne_true}
use Rattle.std.proofs.lemmas.Map.Made.{length-le_from_is_member}
use Rattle.c_copies.specs.Names.{has_name}
use Rattle.c_fresh_names.specs.Fresh.{numbered, first_free}

-- base_n and so on, so many names
abbrev tried : List ℕ → ℕ → ℕ → List (List ℕ)
tried base n zero = []
tried base n (suc k) = numbered base n ∷ tried base (n + 1) k

length_tried : (base : List ℕ) (n k : ℕ) → length (tried base n k) ≡ k
length_tried base n zero = refl
length_tried base n (suc k) = ap suc (length_tried base (n + 1) k)

numbered_apart : (base : List ℕ) (m n : ℕ) → m < 2 ^ 64 → n < 2 ^ 64 → m < n → bytes_eq (numbered base m) (numbered base n) ≡ false
numbered_apart base m n hm hn lt =
    false_from_ne_true (bytes_eq (numbered base m) (numbered base n)) (λ e.
    let same : numbered base m ≡ numbered base n = (bytes_eq-Decides (numbered base m) (numbered base n)).0 e in
    let d : decimal m ≡ decimal n = append_cancel_left (base ++ codes "_") (decimal m) (decimal n) same in
    let h : m ≡ n = decimal_injective m n hm hn d in
    absurd (omega arith))

all_apart : (base : List ℕ) (m n k : ℕ) → m < n → n + k ≤ 2 ^ 64 → AllByRecursion (λ y. bytes_eq (numbered base m) y ≡ false) (tried base n k)
all_apart base m n zero lt le = tt
all_apart base m n (suc k) lt le =
    (numbered_apart base m n (omega arith) (omega arith) lt, all_apart base m (n + 1) k (omega arith) (omega arith))

tried_distinct : (base : List ℕ) (n k : ℕ) → n + k ≤ 2 ^ 64 → IsDistinct bytes_eq (tried base n k)
unfolding IsDistinct
tried_distinct base n zero le = tt
tried_distinct base n (suc k) le = (all_apart base n (n + 1) k (omega arith) (omega arith), tried_distinct base (n + 1) k (omega arith))

used_like : (used : List (List ℕ)) (p q : List ℕ) → has_name used p ≡ true → bytes_eq q p ≡ true → has_name used q ≡ true
used_like used p q h e = ap (has_name used) ((bytes_eq-Decides q p).0 e) ∙ h

-- where the name that is found is used, all that were tried are
module _ (used : List (List ℕ)) (base : List ℕ) where
  abbrev AllUsed : ℕ → ℕ → Type 0
  AllUsed n k = has_name used (first_free used base n k) ≡ true
      → (q : List ℕ) → is_member bytes_eq (tried base n (suc k)) q ≡ true → has_name used q ≡ true

  step : (n k : ℕ) (b : Bool) → AllUsed (n + 1) k → has_name used (numbered base n) ≡ b
      → has_name used (cond b (first_free used base (n + 1) k) (numbered base n)) ≡ true
      → (q : List ℕ) → (bytes_eq q (numbered base n) || is_member bytes_eq (tried base (n + 1) (suc k)) q) ≡ true → has_name used q ≡ true
  step n k true rest is h q m =
      elim (or_cases (bytes_eq q (numbered base n)) (is_member bytes_eq (tried base (n + 1) (suc k)) q) m)
      [ inl e ↦ used_like used (numbered base n) q is e | inr e ↦ rest h q e ]
  step n k false rest is h q m = cc

  all_used : (n k : ℕ) → AllUsed n k
  all_used n zero h q m =
      elim (or_cases (bytes_eq q (numbered base n)) false m) [ inl e ↦ used_like used (numbered base n) q h e | inr e ↦ cc ]
  all_used n (suc k) h q m = step n k (has_name used (numbered base n)) (all_used (n + 1) k) refl h q m

pub first_free_unused : (used : List (List ℕ)) (base : List ℕ) (n k : ℕ) → length used ≤ k → n + k < 2 ^ 64 → has_name used (first_free used base n k) ≡ false
first_free_unused used base n k le fits =
    false_from_ne_true (has_name used (first_free used base n k)) (λ e.
    let more : length (tried base n (suc k)) ≤ length used =
    length-le_from_is_member nat_list_eq_equiv (tried base n (suc k)) used (tried_distinct base n (suc k) (omega arith)) (all_used used base n k e) in
    let long : length (tried base n (suc k)) ≡ suc k = length_tried base n (suc k) in
    absurd (omega arith))
