-- Names given one after another.
use Rattle.std.proofs.Common.{◌≡◌, ◌≤◌, ℕ, ◌+◌, ◌<◌, ◌%◌, ◌/◌, Bool, true, false, cond, eqb, List, [], ◌∷◌, ◌++◌, length, drop, get_or, Option, append_assoc, refl, sym, ap, ◌∙◌}
use Rattle.std.proofs.lemmas.List.{at_drop_more, at_drop_all, append-nil}
use Rattle.std.specs.Prelude.{codes}
use Rattle.c_types.specs.declared.kinds.IntKind.{IntKind}
use Rattle.c_copies.specs.Names.{with_name}
use Rattle.c_fresh_names.specs.Fresh.{numbered, fresh}
use Rattle.flat_names.specs.FlatNames.{Named}
use Rattle.lower_laws.specs.Lowering.{with_variable, with_variables, label_names}
use Rattle.goto_lowering.specs.Steps.{chosen, used_then, next_then}

pub variables_step : (cs : List (Option IntKind)) (i : ℕ) (n : Named) (d : Option IntKind) → i < length cs →
    with_variables (i + 1) (drop i cs) n ≡ with_variables (i + 1 + 1) (drop (i + 1) cs) (with_variable (i + 1) (get_or cs i d) n)
variables_step cs i n d h = at_drop_more (λ z. with_variables (i + 1) z n) cs i d h

pub variables_end : (cs : List (Option IntKind)) (i : ℕ) (n : Named) → length cs ≤ i → with_variables (i + 1) (drop i cs) n ≡ n
variables_end cs i n h = at_drop_all (λ z. with_variables (i + 1) z n) cs i h

module _ (labels used : List (List ℕ)) (n : ℕ) where
  either : (y : Bool) (a m : List ℕ) (cs : List ℕ) → cond y (a ∷ label_names labels used n cs)
      (m ∷ label_names labels (with_name used m) (n + 1) cs) ≡ cond y a m ∷ label_names labels (cond y used (with_name used m)) (cond y n (n + 1)) cs
  either true a m cs = refl
  either false a m cs = refl

  pub labels_step : (cs : List ℕ) (i d : ℕ) (out : List (List ℕ)) → i < length cs
      → (let c = get_or cs i d in out ++ label_names labels used n (drop i cs) ≡ (out ++ chosen labels used n c ∷ []) ++
      label_names labels (used_then used n c) (next_then n c) (drop (i + 1) cs))
  labels_step cs i d out h =
      let c = get_or cs i d in
      let rest = drop (i + 1) cs in
      ap (λ z. out ++ z) (at_drop_more (label_names labels used n) cs i d h ∙
      either (eqb (c % 7) 0) (get_or labels (c / 7) []) (fresh (numbered (codes "low") n) used) rest)
      ∙ sym (append_assoc out (chosen labels used n c ∷ []) (label_names labels (used_then used n c) (next_then n c) rest))

  pub labels_end : (cs : List ℕ) (i : ℕ) (out : List (List ℕ)) → length cs ≤ i → out ++ label_names labels used n (drop i cs) ≡ out
  labels_end cs i out h = ap (λ z. out ++ z) (at_drop_all (label_names labels used n) cs i h) ∙ append-nil out
