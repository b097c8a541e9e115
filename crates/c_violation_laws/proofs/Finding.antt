-- How walks that find something are put together.
use Rattle.std.proofs.Common.{◌≡◌, ◌⊎◌, inl, inr, ℕ, Bool, true, false, refl, sym, subst, true≢false}
use Rattle.c_kinds.specs.declared.typed.Fault.{Fault}
use Rattle.c_kinds.specs.Scopes.{Faults, fault, fault_if}
use Rattle.c_reading_defs.specs.Violations.{broken}
use Rattle.c_violation_laws.specs.Finds.{IsAmong, Finds}

abbrev pub Rule : Type 1
Rule = Fault → Type 0

pub finds_none : Finds (λ vs. vs) (λ v. ⊥)
finds_none v vs = (λ h. inr h, λ h. elim h [ inl e ↦ absurd e | inr g ↦ g ])

pub finds_both : (f g : Faults → Faults) (P Q : Rule) → Finds f P → Finds g Q → Finds (λ vs. g (f vs)) (λ v. P v ⊎ Q v)
finds_both f g P Q hf hg v vs = (
  λ h. elim ((hg v (f vs)).0 h) [ inl q ↦ inl (inr q) | inr k ↦ elim ((hf v vs).0 k) [ inl p ↦ inl (inl p) | inr r ↦ inr r ] ],
  λ h. elim h [
    | inl pq ↦ elim pq [ inl p ↦ (hg v (f vs)).1 (inr ((hf v vs).1 (inl p))) | inr q ↦ (hg v (f vs)).1 (inl q) ]
    | inr r ↦ (hg v (f vs)).1 (inr ((hf v vs).1 (inr r)))
  ],
)

pub finds_same : (f : Faults → Faults) (P Q : Rule) → Finds f P → ((v : Fault) → P v → Q v) → ((v : Fault) → Q v → P v) → Finds f Q
finds_same f P Q h to fro v vs = (
  λ k. elim ((h v vs).0 k) [ inl p ↦ inl (to v p) | inr r ↦ inr r ],
  λ k. elim k [ inl q ↦ (h v vs).1 (inl (fro v q)) | inr r ↦ (h v vs).1 (inr r) ],
)

-- walks that do the same
pub finds_as : (f g : Faults → Faults) (P : Rule) → ((vs : Faults) → f vs ≡ g vs) → Finds g P → Finds f P
finds_as f g P e h v vs = (λ k. (h v vs).0 (subst (IsAmong v) (e vs) k), λ k. subst (IsAmong v) (sym (e vs)) ((h v vs).1 k))

pub finds_nothing : (Q : Rule) → ((v : Fault) → Q v → ⊥) → Finds (λ vs. vs) Q
finds_nothing Q fro = finds_same (λ vs. vs) (λ v. ⊥) Q finds_none (λ v e. absurd e) fro

pub finds_fault : (at reason : ℕ) → Finds (fault at reason) (λ v. v ≡ broken at reason)
finds_fault at reason v vs = (λ h. h, λ h. h)

pub finds_if : (b : Bool) (at reason : ℕ) → Finds (fault_if b at reason) (λ v. (b ≡ true) × (v ≡ broken at reason))
finds_if true at reason v vs = (λ h. elim h [ inl e ↦ inl (refl, e) | inr r ↦ inr r ], λ h. elim h [ inl p ↦ inl p.1 | inr r ↦ inr r ])
finds_if false at reason v vs = (λ h. inr h, λ h. elim h [ inl p ↦ absurd (true≢false (sym p.0)) | inr r ↦ r ])

-- a rule that is broken at one place, for one reason
pub finds_one : (at reason : ℕ) (Q : Rule) → Q (broken at reason) → ((v : Fault) → Q v → v ≡ broken at reason) → Finds (fault at reason) Q
finds_one at reason Q there only = finds_same (fault at reason) (λ v. v ≡ broken at reason) Q (finds_fault at reason) (λ v e. subst Q (sym e) there) only
