-- Names given one after another.
use Rattle.std.proofs.Common.{◌≡◌, ℕ, suc, ◌+◌, ◌-◌, ◌<◌, ◌≤◌, List, [], ◌∷◌, ◌++◌, length, drop, get_or, append_assoc, arith, sym, ap, ◌∙◌}
use Rattle.std.proofs.lemmas.List.{at_drop_more, at_drop_all, append-nil}
use Rattle.flat_names.specs.declared.constructs.Construct.{Construct}
use Rattle.flat_names.specs.declared.giving.Made.{Made}
use Rattle.flat_names.specs.FlatNames.{Given, name_case, name_cases, name_construct, name_constructs, naming, label_of, chosen, used_then, label_names}

pub cases_step : (k i n : ℕ) (g : Given) → i < n → name_cases k (i + 1) (n - i) g ≡ name_cases k (i + 1 + 1) (n - (i + 1)) (name_case k (i + 1) g)
cases_step k i n g h = let e : n - i ≡ suc (n - (i + 1)) = omega arith in ap (λ m. name_cases k (i + 1) m g) e

pub cases_end : (k i n : ℕ) (g : Given) → n ≤ i → name_cases k (i + 1) (n - i) g ≡ g
cases_end k i n g h = let e : n - i ≡ 0 = omega arith in ap (λ m. name_cases k (i + 1) m g) e

pub constructs_step : (cs : List Construct) (i : ℕ) (g : Given) (d : Construct) → i < length cs →
    name_constructs (i + 1) (drop i cs) g ≡ name_constructs (i + 1 + 1) (drop (i + 1) cs) (name_construct (i + 1) (get_or cs i d) g)
constructs_step cs i g d h = at_drop_more (λ z. name_constructs (i + 1) z g) cs i d h

pub constructs_end : (cs : List Construct) (i : ℕ) (g : Given) → length cs ≤ i → name_constructs (i + 1) (drop i cs) g ≡ g
constructs_end cs i g h = at_drop_all (λ z. name_constructs (i + 1) z g) cs i h

pub labels_step : (labels : List (List ℕ)) (m : Made) (used : List (List ℕ)) (cs : List ℕ) (i d : ℕ) (out : List (List ℕ)) → i < length cs
    → (let n = naming labels m (label_of (length labels) (get_or cs i d)) in
    out ++ label_names labels m used (drop i cs) ≡ (out ++ chosen n used ∷ []) ++ label_names labels m (used_then n used) (drop (i + 1) cs))
labels_step labels m used cs i d out h =
    let n = naming labels m (label_of (length labels) (get_or cs i d)) in
    ap (λ z. out ++ z) (at_drop_more (label_names labels m used) cs i d h) ∙
    sym (append_assoc out (chosen n used ∷ []) (label_names labels m (used_then n used) (drop (i + 1) cs)))

pub labels_end : (labels : List (List ℕ)) (m : Made) (used : List (List ℕ)) (cs : List ℕ) (i : ℕ) (out : List (List ℕ)) → length cs ≤ i →
    out ++ label_names labels m used (drop i cs) ≡ out
labels_end labels m used cs i out h = ap (λ z. out ++ z) (at_drop_all (label_names labels m used) cs i h) ∙ append-nil out
