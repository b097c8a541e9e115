-- The labels of a function: known ones, and ones that stand twice.
use Rattle.std.proofs.Common.{◌≡◌, ◌⊎◌, inl, inr, ℕ, Bool, true, false, cond, ◌||◌, List, [], ◌∷◌, ◌++◌, map, length, Option, Some, is_some, refl, sym, ap, subst, ◌∙◌, bytes_eq, true≢false}
use Rattle.std.proofs.lemmas.Bool.{or_cases, or_left, or_right}
use Rattle.c_kinds.specs.declared.typed.Fault.{Fault}
use Rattle.c_kinds.specs.Scopes.{Names, found, with_entry, fault_if}
use Rattle.c_kinds.proofs.Entries.{same_names, names_same, found_entry}
use Rattle.c_statements.specs.Context.{has_label}
use Rattle.c_statements.specs.Labels.{with_number, twice_from, twice_faults}
use Rattle.c_reading_defs.specs.Behind.{SomeBehind, IsOne}
use Rattle.c_violation_laws.proofs.Behind.{Behind, finds_behind}
use Rattle.c_reading_defs.specs.Functions.{LabelTwice}
use Rattle.c_reading_defs.specs.Violations.{broken}
use Rattle.c_violation_laws.specs.Finds.{Finds}
use Rattle.c_violation_laws.proofs.Finding.{finds_none, finds_both, finds_same, finds_if}

-- ---- known labels

either : (t : Bool) (n : ℕ) (o : Option ℕ) → is_some (cond t (Some n) o) ≡ (t || is_some o)
either true n o = refl
either false n o = refl

same_or : (b c : Bool) → (b ≡ true → c ≡ true) → c ≡ (b || c)
same_or true c f = f refl
same_or false c f = refl

-- a name is known behind these and one more
has_more : (q n : List ℕ) (known : Names ℕ) → has_label (with_number n known) q ≡ (bytes_eq q n || has_label known q)
has_more q n known = by (has_label known n) refl
  where
    by : (b : Bool) → has_label known n ≡ b → has_label (cond b known (with_entry n (length known) known)) q ≡ (bytes_eq q n || has_label known q)
    by true e = same_or (bytes_eq q n) (has_label known q) (λ g. subst (λ z. has_label known z ≡ true) (sym (same_names q n g)) e)
    by false e = ap is_some (found_entry q n (length known) known) ∙ either (bytes_eq q n) (length known) (found q known)

-- ---- labels that stand twice

module _ (word : ℕ → List ℕ) where
  one_more : (q : List ℕ) (before : List ℕ) (at : ℕ) → IsOne q (map word (before ++ at ∷ [])) → IsOne q (map word before) ⊎ (q ≡ word at)
  one_more q [] at (inl e) = inr e
  one_more q [] at (inr h) = absurd h
  one_more q (b ∷ bs) at (inl e) = inl (inl e)
  one_more q (b ∷ bs) at (inr h) = elim (one_more q bs at h) [ inl a ↦ inl (inr a) | inr e ↦ inr e ]

  more_one : (q : List ℕ) (before : List ℕ) (at : ℕ) → IsOne q (map word before) ⊎ (q ≡ word at) → IsOne q (map word (before ++ at ∷ []))
  more_one q [] at (inl h) = absurd h
  more_one q [] at (inr e) = inl e
  more_one q (b ∷ bs) at (inl (inl e)) = inl e
  more_one q (b ∷ bs) at (inl (inr h)) = inr (more_one q bs at (inl h))
  more_one q (b ∷ bs) at (inr e) = inr (more_one q bs at (inr e))

  abbrev Knows : List ℕ → Names ℕ → Type 0
  Knows before known = (q : List ℕ) → (has_label known q ≡ true → IsOne q (map word before)) × (IsOne q (map word before) → has_label known q ≡ true)

  knows_more : (before : List ℕ) (known : Names ℕ) (at : ℕ) → Knows before known → Knows (before ++ at ∷ []) (with_number (word at) known)
  knows_more before known at k q = (
    λ e. more_one q before at (elim (or_cases (bytes_eq q (word at)) (has_label known q) (sym (has_more q (word at) known) ∙ e))
        [ inl g ↦ inr (same_names q (word at) g) | inr g ↦ inl ((k q).0 g) ]),
    λ h. has_more q (word at) known ∙ elim (one_more q before at h) [
      | inl a ↦ or_right (bytes_eq q (word at)) (has_label known q) ((k q).1 a)
      | inr e ↦ or_left (bytes_eq q (word at)) (has_label known q) (names_same q (word at) e)
    ],
  )

  twice : (ats before : List ℕ) (known : Names ℕ) → Knows before known →
      Finds (twice_from known word ats) (λ v. Behind (λ b at. LabelTwice word b at v) before ats)
  twice [] before known k = finds_none
  twice (at ∷ ats) before known k =
      finds_both (fault_if (has_label known (word at)) at 32) (twice_from (with_number (word at) known) word ats) _ _
      (finds_same (fault_if (has_label known (word at)) at 32) _ (λ v. LabelTwice word before at v) (finds_if (has_label known (word at)) at 32)
      (λ v p. subst (LabelTwice word before at) (sym p.1) (LabelTwice.label_twice ((k (word at)).0 p.0))) fro)
      (twice ats (before ++ at ∷ []) (with_number (word at) known) (knows_more before known at k))
    where
      fro : (v : Fault) → LabelTwice word before at v → (has_label known (word at) ≡ true) × (v ≡ broken at 32)
      fro v (LabelTwice.label_twice h) = ((k (word at)).1 h, refl)

  pub labels_twice : (ats : List ℕ) → Finds (twice_faults word ats) (λ v. SomeBehind (λ b at. LabelTwice word b at v) ats)
  labels_twice ats = finds_behind (twice_faults word ats) (λ v b at. LabelTwice word b at v) ats
      (twice ats [] [] (λ q. (λ e. absurd (true≢false (sym e)), λ h. absurd h)))
