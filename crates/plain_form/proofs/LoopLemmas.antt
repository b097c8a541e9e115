-- One turn of the loops that declare variables.
use Rattle.std.proofs.Common.{◌≡◌, ℕ, suc, ◌+◌, ◌-◌, ◌<◌, List, [], ◌∷◌, ◌++◌, map, sym, ap, ◌∙◌, append_assoc, arith}
use Rattle.plain_laws.specs.Plain.{numbers_from}

numbers_more : (k to : ℕ) → k < to → numbers_from k (to - k) ≡ k ∷ numbers_from (k + 1) (to - (k + 1))
numbers_more k to h = let s : to - k ≡ suc (to - (k + 1)) = omega arith in ap (numbers_from k) s

pub declare_step : {A : Type 0} (f : ℕ → A) (out next done : List A) (k to : ℕ) → k < to → next ≡ out ++ f k ∷ []
    → out ++ map f (numbers_from k (to - k)) ≡ done → next ++ map f (numbers_from (k + 1) (to - (k + 1))) ≡ done
declare_step f out next done k to h pushed inv =
    let rest = map f (numbers_from (k + 1) (to - (k + 1))) in
    ap (λ l. l ++ rest) pushed ∙ append_assoc out (f k ∷ []) rest ∙ ap (λ l. out ++ map f l) (sym (numbers_more k to h)) ∙ inv
