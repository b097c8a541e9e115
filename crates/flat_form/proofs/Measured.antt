-- The labels of a body by the flags of those that are named.
use Rattle.std.proofs.Common.{◌≡◌, ℕ, ◌+◌, Bool, true, false, cond, List, Some, None, sym, ap, ◌∙◌}
use Rattle.c_tree.specs.Trees.{Forest}
use Rattle.flat_laws.specs.Parts.{has_jumps, is_named}
use Rattle.flat_laws.specs.FlatForm.{marks}
use Rattle.c_resolved_laws.specs.Counts.{labels_in, summed, labels_named, gotos_of, labels_of, bound_counts}

module _ (body : Forest) where
  abbrev by_flags : (ℕ → Bool) → List ℕ → ℕ
  by_flags named ls = summed (labels_in named) named false body + labels_named named ls

  pub labels_flagged : (named : ℕ → Bool) (ls : List ℕ) (made stay : ℕ) → ((l : ℕ) → named l ≡ is_named body l) → ls ≡ marks body
      → made ≡ summed (labels_in named) named false body → stay ≡ labels_named named ls → made + stay ≡ labels_of body
  labels_flagged named ls made stay same all e f = (λ i. e i + f i) ∙ (λ i. by_flags (λ l. same l i) (all i))

  pub measured : (gotos labels : ℕ) → has_jumps body ≡ true → gotos ≡ gotos_of body → labels ≡ labels_of body → Some (gotos, labels) ≡ bound_counts body
  measured gotos labels jumps e f = (λ i. Some (e i, f i)) ∙ sym (ap (λ b. cond b (Some (gotos_of body, labels_of body)) None) jumps)
