-- One turn of the loop that names guards.
use Rattle.std.proofs.Common.{◌≡◌, ℕ, ◌+◌, ◌<◌, List, [], ◌∷◌, ◌++◌, length, drop, get_or, sym, ap, ◌∙◌, append_assoc}
use Rattle.std.proofs.lemmas.List.{at_drop_more}
use Rattle.c_copies.specs.Names.{with_name}
use Rattle.guard_vars.specs.GuardNames.{guard_name, named_guards}

-- one more at the end, and the rest after it
one_more : {A : Type 0} (out : List A) (x : A) (rest : List A) → (out ++ x ∷ []) ++ rest ≡ out ++ (x ∷ rest)
one_more out x rest = append_assoc out (x ∷ []) rest

pub guards_step : (used more : List (List ℕ)) (out next done labels : List (List ℕ)) (i : ℕ) (x name : List ℕ)
    → i < length labels → x ≡ get_or labels i x → name ≡ guard_name x used → more ≡ with_name used name → next ≡ out ++ name ∷ []
    → out ++ named_guards used (drop i labels) ≡ done → next ++ named_guards more (drop (i + 1) labels) ≡ done
guards_step used more out next done labels i x name h is named added pushed inv =
    let rest = drop (i + 1) labels in
    let same : name ≡ guard_name (get_or labels i x) used = named ∙ ap (λ y. guard_name y used) is in
    let turn : named_guards used (drop i labels) ≡ name ∷ named_guards more rest =
    at_drop_more (named_guards used) labels i x h
    ∙ ap (λ n. n ∷ named_guards (with_name used n) rest) (sym same)
    ∙ ap (λ u. name ∷ named_guards u rest) (sym added) in
    ap (λ l. l ++ named_guards more rest) pushed ∙ one_more out name (named_guards more rest) ∙ ap (λ l. out ++ l) (sym turn) ∙ inv
