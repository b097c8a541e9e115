-- The places of numbers, entered from the last to the first.
use Rattle.std.proofs.Common.{◌≡◌, ℕ, suc, ◌+◌, ◌-◌, ◌<◌, ◌≤◌, ℤ, Bool, true, false, cond, List, [], ◌∷◌, length, drop, get_or, Option, Some, None, arith, refl, sym, ap, ◌∙◌}
use Rattle.std.proofs.lemmas.List.{drop_more}
use Rattle.std.specs.BTreeMap.{get}
use Rattle.std.specs.Option.{unwrap_or}
use Rattle.std.specs.Ordering.{int_cmp}
use Rattle.flat_laws.specs.FlatForm.{same_number, place_of}
use Rattle.flat_items.specs.declared.places.CasePlaces as P
use Rattle.flat_items.specs.Places.{place_at}

-- the place of the first that is the number, where these stand from a place on
abbrev pub sought : Option ℤ → List (Option ℤ) → ℕ → Option ℕ
sought n [] at = None
sought n (m ∷ ms) at = cond (same_number n m) (Some at) (sought n ms (suc at))

sought_is : (n : ℤ) (ms : List (Option ℤ)) (at : ℕ) → unwrap_or (sought (Some n) ms at) (at + length ms) ≡ at + place_of (Some n) ms
sought_is n [] at = refl
sought_is n (m ∷ ms) at = by (same_number (Some n) m) (sought_is n ms (suc at)) where
  by : (y : Bool) → unwrap_or (sought (Some n) ms (suc at)) (suc at + length ms) ≡ suc at + place_of (Some n) ms
      → unwrap_or (cond y (Some at) (sought (Some n) ms (suc at))) (at + suc (length ms)) ≡ at + cond y 0 (suc (place_of (Some n) ms))
  by true rest = omega arith
  by false rest =
      let more : at + suc (length ms) ≡ suc at + length ms = omega arith in
      let after : suc at + place_of (Some n) ms ≡ at + suc (place_of (Some n) ms) = omega arith in
      ap (unwrap_or (sought (Some n) ms (suc at))) more ∙ rest ∙ after

none_is : (ms : List (Option ℤ)) → length ms ≡ place_of None ms
none_is [] = refl
none_is (m ∷ ms) = ap suc (none_is ms)

-- one more, in front of the last k
pub one_more : (ms : List (Option ℤ)) (d : Option ℤ) (k : ℕ) (n : ℤ) (old : Option ℕ) → k < length ms →
    old ≡ sought (Some n) (drop (length ms - k) ms) (length ms - k)
    → cond (same_number (Some n) (get_or ms (length ms - 1 - k) d)) (Some (length ms - 1 - k)) old ≡ sought (Some n) (drop (length ms - (k + 1)) ms)
    (length ms - (k + 1))
one_more ms d k n old below e =
    let j = length ms - (k + 1) in
    let here : length ms - 1 - k ≡ j = omega arith in
    let next : length ms - k ≡ suc j = omega arith in
    let follows : j + 1 ≡ suc j = omega arith in
    let inside : j < length ms = omega arith in
    ap (λ z. cond (same_number (Some n) (get_or ms z d)) (Some z) old) here
    ∙ ap (cond (same_number (Some n) (get_or ms j d)) (Some j)) (e ∙ ap (λ z. sought (Some n) (drop z ms) z) next)
    ∙ sym (ap (λ xs. sought (Some n) xs j) (drop_more ms j d inside) ∙
    ap (λ z. cond (same_number (Some n) (get_or ms j d)) (Some j) (sought (Some n) (drop z ms) (suc j))) follows)

-- once all are entered
pub all_entered : (p : P.CasePlaces) (ms : List (Option ℤ)) (k : ℕ) → p.behind ≡ length ms → length ms ≤ k →
    ((n : ℤ) → get int_cmp p.table n ≡ sought (Some n) (drop (length ms - k) ms) (length ms - k))
    → (n : Option ℤ) → place_at p n ≡ place_of n ms
all_entered p ms k b e inv None = b ∙ none_is ms
all_entered p ms k b e inv (Some n) =
    let all : length ms - k ≡ 0 = omega arith in
    let same : length ms ≡ 0 + length ms = omega arith in
    let place : 0 + place_of (Some n) ms ≡ place_of (Some n) ms = omega arith in
    ap (λ o. unwrap_or o p.behind) (inv n ∙ ap (λ z. sought (Some n) (drop z ms) z) all) ∙ ap (unwrap_or (sought (Some n) ms 0)) (b ∙ same) ∙
    sought_is n ms 0 ∙ place
