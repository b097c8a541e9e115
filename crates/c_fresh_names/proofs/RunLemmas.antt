-- The search passes over names that are used.
use Rattle.std.proofs.Common.{◌≡◌, ℕ, zero, suc, ◌+◌, ◌-◌, ◌≤◌, ◌<◌, Bool, true, false, List, refl, sym, ap, subst, ◌∙◌, arith}
use Rattle.std.specs.Prelude.{nat_lt}
use Rattle.std.proofs.lemmas.Bool.{ltb-true, ltb-false, or_left}
use Rattle.c_copies.specs.Names.{has_name, with_names}
use Rattle.c_fresh_names.specs.Fresh.{numbered, first_free}
use Rattle.c_fresh_names.specs.Runs.{AreUsedFrom}
use Rattle.c_fresh_names.proofs.FreshLemmas.{first_free_used}
use Rattle.c_fresh_names.proofs.NameSets.{in_either}

pub fewer_from : (used : List (List ℕ)) (base : List ℕ) (k m n : ℕ) → m ≤ n → AreUsedFrom used base k n → AreUsedFrom used base k m
fewer_from used base k m n le h i a b = h i a (omega (arith, le, b))

-- two stretches, the second right behind the first
pub joined_from : (used : List (List ℕ)) (base : List ℕ) (k m n : ℕ) → AreUsedFrom used base k m → AreUsedFrom used base m n → AreUsedFrom used base k n
joined_from used base k m n h w i a b = at (nat_lt i m) refl
  where
    at : (c : Bool) → nat_lt i m ≡ c → has_name used (numbered base i) ≡ true
    at true l = h i a (ltb-true i m l)
    at false l = w i (ltb-false i m l) b

pub one_from : (used : List (List ℕ)) (base : List ℕ) (n : ℕ) → has_name used (numbered base n) ≡ true → AreUsedFrom used base n (n + 1)
one_from used base n h i a b = let q : i ≡ n = omega (arith, a, b) in ap (λ j. has_name used (numbered base j)) q ∙ h

pub in_file : (file own : List (List ℕ)) (q : List ℕ) → has_name file q ≡ true → has_name (with_names file own) q ≡ true
in_file file own q h = in_either file own q ∙ or_left (has_name file q) (has_name own q) h

pub all_in_file : (file own : List (List ℕ)) (base : List ℕ) (m n : ℕ) → AreUsedFrom file base m n → AreUsedFrom (with_names file own) base m n
all_in_file file own base m n h i a b = in_file file own (numbered base i) (h i a b)

-- the search goes on behind a stretch
skip : (used : List (List ℕ)) (base done : List ℕ) (e m d : ℕ) → m + d ≤ e → AreUsedFrom used base m (m + d) → first_free used base m (e - m) ≡ done →
    first_free used base (m + d) (e - (m + d)) ≡ done
skip used base done e m zero le h w = let q : m ≡ m + zero = omega arith in subst (λ k. first_free used base k (e - k) ≡ done) q w
skip used base done e m (suc d) le h w =
    let lt : m + d < e = omega (arith, le) in
    let first = skip used base done e m d (omega (arith, le)) (fewer_from used base m (m + d) (m + suc d) (omega arith) h) w in
    let more = first_free_used used base done (m + d) e lt (h (m + d) (omega arith) (omega arith)) first in
    let q : m + d + 1 ≡ m + suc d = omega arith in
    subst (λ k. first_free used base k (e - k) ≡ done) q more

pub passed : (used : List (List ℕ)) (base done : List ℕ) (e m n : ℕ) → m ≤ n → n ≤ e → AreUsedFrom used base m n →
    first_free used base m (e - m) ≡ done → first_free used base n (e - n) ≡ done
passed used base done e m n a b h w =
    let q : m + (n - m) ≡ n = omega (arith, a) in
    subst (λ k. first_free used base k (e - k) ≡ done) q (skip used base done e m (n - m) (omega (arith, a, b)) (subst (AreUsedFrom used base m) (sym q) h) w)
