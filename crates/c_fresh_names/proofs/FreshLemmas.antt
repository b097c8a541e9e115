-- The search for a free name, one step on and at its end.
use Rattle.std.proofs.Common.{◌≡◌, ℕ, suc, ◌+◌, ◌-◌, ◌<◌, ◌≤◌, Bool, true, List, cond, sym, ap, ◌∙◌, arith}
use Rattle.c_copies.specs.Names.{has_name}
use Rattle.c_fresh_names.specs.Fresh.{numbered, first_free}

first_free_step : (used : List (List ℕ)) (base : List ℕ) (n e : ℕ) → n < e
    → first_free used base n (e - n) ≡ cond (has_name used (numbered base n)) (first_free used base (n + 1) (e - (n + 1))) (numbered base n)
first_free_step used base n e h =
    let s : e - n ≡ suc (e - (n + 1)) = omega arith in ap (first_free used base n) s

-- a name that is used is passed over
pub first_free_used : (used : List (List ℕ)) (base done : List ℕ) (n e : ℕ) → n < e → has_name used (numbered base n) ≡ true
    → first_free used base n (e - n) ≡ done → first_free used base (n + 1) (e - (n + 1)) ≡ done
first_free_used used base done n e h taken inv =
    sym (first_free_step used base n e h ∙ ap (λ (b : Bool). cond b (first_free used base (n + 1) (e - (n + 1))) (numbered base n)) taken) ∙ inv

-- the name after all that were tried
pub first_free_last : (used : List (List ℕ)) (base done : List ℕ) (n e : ℕ) → n ≤ e → e ≤ n
    → first_free used base n (e - n) ≡ done → numbered base e ≡ done
first_free_last used base done n e below above inv =
    let s : e - n ≡ 0 = omega arith in
    let q : e ≡ n = omega arith in
    ap (numbered base) q ∙ sym (ap (first_free used base n) s) ∙ inv
