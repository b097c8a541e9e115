-- Labels that count, from one place on: a label counts at the place where it stands first, and so each once.
use Rattle.std.proofs.Common.{◌≡◌, ℕ, suc, ◌+◌, ◌<◌, ◌≤◌, ◌==◌, ◌&&◌, ◌||◌, Bool, true, false, cond, not, List, [], ◌∷◌, ◌++◌, length, drop, get_or, refl, sym, ap, ◌∙◌, arith, add-one, eqb-true, eq-eqb, drop-cons, append_assoc, length-append}
use Rattle.std.proofs.lemmas.List.{drop_all}
use Rattle.std.specs.List.{list_any}
use Rattle.flat_laws.specs.FlatForm.{place_in}
use Rattle.c_resolved_laws.specs.Counts.{labels_named}

-- those of a list that stand first at their place in all, where place i is that of the first
abbrev pub labels_from : (ℕ → Bool) → List ℕ → ℕ → List ℕ → ℕ
labels_from named all i [] = 0
labels_from named all i (l ∷ ls) = cond (named l && (place_in all l == i)) 1 0 + labels_from named all (i + 1) ls

abbrev bit : Bool → ℕ
bit b = cond b 1 0

-- ---- a label that is one of these, and its place

abbrev is_one : ℕ → List ℕ → Bool
is_one l ls = list_any (λ m. m == l) ls

one_last : (l : ℕ) (before : List ℕ) (x : ℕ) → is_one l (before ++ x ∷ []) ≡ (is_one l before || (x == l))
one_last l [] x = or-false (x == l)
  where
    or-false : (b : Bool) → (b || false) ≡ b
    or-false true = refl
    or-false false = refl
one_last l (y ∷ before) x = ap (λ b. (y == l) || b) (one_last l before x) ∙ or-or (y == l) (is_one l before) (x == l)
  where
    or-or : (a b c : Bool) → (a || (b || c)) ≡ ((a || b) || c)
    or-or true b c = refl
    or-or false b c = refl

zero_suc : (m : ℕ) → (0 == suc m) ≡ false
zero_suc m = grind arith

suc_suc : (n m : ℕ) → (suc n == suc m) ≡ (n == m)
suc_suc n m = grind arith

-- the place of a label tells whether it stands before
first_place : (before : List ℕ) (l : ℕ) (ls : List ℕ) → (place_in (before ++ l ∷ ls) l == length before) ≡ not (is_one l before)
first_place [] l ls = ap (λ b. cond b 0 (suc (place_in ls l)) == 0) (eq-eqb l l refl)
first_place (x ∷ before) l ls = by (x == l) (place_in (before ++ l ∷ ls) l) (length before) (first_place before l ls)
  where
    by : (b : Bool) (n m : ℕ) → (n == m) ≡ not (is_one l before) → (cond b 0 (suc n) == suc m) ≡ not (b || is_one l before)
    by true n m e = zero_suc m
    by false n m e = suc_suc n m ∙ e

-- ---- each once, where it stands first or last

-- without one label there is one less, if it is there
less_one : (named : ℕ → Bool) (l : ℕ) (ls : List ℕ)
    → labels_named (λ m. named m && not (m == l)) ls + bit (named l && is_one l ls) ≡ labels_named named ls
less_one named l [] = let e = by (named l) in omega (arith, e)
  where
    by : (b : Bool) → bit (b && false) ≡ 0
    by true = refl
    by false = refl
less_one named l (m ∷ ls) = by (m == l) refl (less_one named l ls)
  where
    rest : ℕ
    rest = labels_named (λ k. named k && not (k == l)) ls

    same : (b c : Bool) (r n : ℕ) → r + bit (b && c) ≡ n → (bit ((b && false) && not c) + r) + bit (b && true) ≡ bit (b && not c) + n
    same true true r n e = omega (arith, e)
    same true false r n e = omega (arith, e)
    same false c r n e = omega (arith, e)

    other : (a c : Bool) (r k n : ℕ) → r + k ≡ n → (bit ((a && true) && c) + r) + k ≡ bit (a && c) + n
    other true c r k n e = omega (arith, e)
    other false c r k n e = omega (arith, e)

    by : (b : Bool) → (m == l) ≡ b → rest + bit (named l && is_one l ls) ≡ labels_named named ls
        → (bit ((named m && not b) && not (is_one m ls)) + rest) + bit (named l && (b || is_one l ls))
        ≡ bit (named m && not (is_one m ls)) + labels_named named ls
    by true q less =
        let e = eqb-true m l q in
        (λ i. (bit ((named (e i) && false) && not (is_one (e i) ls)) + rest) + bit (named l && true))
        ∙ same (named l) (is_one l ls) rest (labels_named named ls) less
        ∙ (λ i. bit (named (sym e i) && not (is_one (sym e i) ls)) + labels_named named ls)
    by false q less = other (named m) (not (is_one m ls)) rest (bit (named l && is_one l ls)) (labels_named named ls) less

-- of those that don't stand before
first_ones : (named : ℕ → Bool) (before ls : List ℕ)
    → labels_from named (before ++ ls) (length before) ls ≡ labels_named (λ m. named m && not (is_one m before)) ls
first_ones named before [] = refl
first_ones named before (l ∷ ls) =
    let more = before ++ l ∷ [] in
    let new = λ (m : ℕ). named m && not (is_one m before) in
    let rest : labels_from named (before ++ l ∷ ls) (length before + 1) ls ≡ labels_named (λ m. new m && not (m == l)) ls =
    (λ i. labels_from named (sym (append_assoc before (l ∷ []) ls) i) (sym (length-append before (l ∷ [])) i) ls)
    ∙ first_ones named more ls
    ∙ (λ i. labels_named (λ m. apart m i) ls) in
    let less = less_one new l ls in
    (λ i. bit (named l && first_place before l ls i) + rest i)
    ∙ last (new l) (is_one l ls) (labels_named (λ m. new m && not (m == l)) ls) (labels_named new ls) less
  where
    apart : (m : ℕ) → (named m && not (is_one m (before ++ l ∷ []))) ≡ ((named m && not (is_one m before)) && not (m == l))
    apart m =
        ap (λ b. named m && not b) (one_last m before l)
        ∙ ap (λ b. named m && not (is_one m before || b)) (turned l m)
        ∙ by (named m) (is_one m before) (m == l)
      where
        by : (a b c : Bool) → (a && not (b || c)) ≡ ((a && not b) && not c)
        by true true c = refl
        by true false c = refl
        by false b c = refl

        turned : (x y : ℕ) → (x == y) ≡ (y == x)
        turned x y = grind arith

    last : (b c : Bool) (r n : ℕ) → r + bit (b && c) ≡ n → bit b + r ≡ bit (b && not c) + n
    last true true r n e = omega (arith, e)
    last true false r n e = omega (arith, e)
    last false c r n e = omega (arith, e)

pub labels_first : (named : ℕ → Bool) (ls : List ℕ) → labels_from named ls 0 ls ≡ labels_named named ls
labels_first named ls = first_ones named [] ls ∙ (λ i. labels_named (λ m. all (named m) i) ls)
  where
    all : (b : Bool) → (b && true) ≡ b
    all true = refl
    all false = refl

-- ---- the loop

pub labels_step : (named : ℕ → Bool) (ls : List ℕ) (i : ℕ) → i < length ls
    → labels_from named ls i (drop i ls) ≡ cond (named (get_or ls i 0) && (place_in ls (get_or ls i 0) == i)) 1 0 + labels_from named ls (i + 1)
    (drop (i + 1) ls)
labels_step named ls i h =
    ap (labels_from named ls i) (drop-cons ls i 0 h)
    ∙ ap (λ j. cond (named (get_or ls i 0) && (place_in ls (get_or ls i 0) == i)) 1 0 + labels_from named ls (i + 1) (drop j ls)) (sym (add-one i))

pub labels_end : (named : ℕ → Bool) (ls : List ℕ) (i : ℕ) → length ls ≤ i → labels_from named ls i (drop i ls) ≡ 0
labels_end named ls i h = ap (labels_from named ls i) (drop_all i ls h)

pub ruleset steps = (labels_step, labels_end, labels_first)
