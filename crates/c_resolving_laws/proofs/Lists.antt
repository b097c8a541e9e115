-- Lists of violations that are empty, and choices that were made.
use Rattle.std.proofs.Common.{ℕ, Bool, true, false, not, ◌&&◌, ◌||◌, List, [], ◌∷◌, ◌++◌, Option, Some, None, ◌≡◌, refl, sym, ap, subst, true≢false}
use Rattle.std.specs.Prelude.{IsSomeAnd}
use Rattle.c_kinds.specs.Scopes.{Faults, fault_if}
use Rattle.c_resolved_defs.specs.Within.{Each}

abbrev has_some : {A : Type 0} → List A → Bool
has_some [] = false
has_some (x ∷ xs) = true

pub none_left : {A : Type 0} (x : A) (xs : List A) → x ∷ xs ≡ [] → ⊥
none_left x xs e = true≢false (ap has_some e)

-- no violation, so the condition of one doesn't hold
pub clean_if : (b : Bool) (at reason : ℕ) (vs : Faults) → fault_if b at reason vs ≡ [] → (vs ≡ []) × (b ≡ false)
clean_if true at reason vs e = absurd (none_left _ vs e)
clean_if false at reason vs e = (e, refl)

-- ---- truth values

pub and_left : (a b : Bool) → (a && b) ≡ true → a ≡ true
and_left true b e = refl
and_left false b e = absurd (true≢false (sym e))

pub and_right : (a b : Bool) → (a && b) ≡ true → b ≡ true
and_right true b e = e
and_right false b e = absurd (true≢false (sym e))

pub or_left : (a b : Bool) → (a || b) ≡ false → a ≡ false
or_left true b e = absurd (true≢false e)
or_left false b e = refl

pub or_right : (a b : Bool) → (a || b) ≡ false → b ≡ false
or_right true b e = absurd (true≢false e)
or_right false b e = e

pub not_true : (a : Bool) → not a ≡ false → a ≡ true
not_true true e = refl
not_true false e = absurd (true≢false e)

-- ---- elements

pub the_some : {A : Type 0} (P : A → Type 0) (o : Option A) → IsSomeAnd o P → (a : A) × (o ≡ Some a) × P a
the_some P None h = absurd h
the_some P (Some a) h = (a, refl, h)

pub is_some_and : {A : Type 0} (P : A → Type 0) (o : Option A) (a : A) → o ≡ Some a → P a → IsSomeAnd o P
is_some_and P o a e h = subst (λ o. IsSomeAnd o P) (sym e) h

pub each_map : {A : Type 0} (P Q : A → Type 0) → ((a : A) → P a → Q a) → (xs : List A) → Each P xs → Each Q xs
each_map P Q f [] h = tt
each_map P Q f (x ∷ xs) h = (f x h.0, each_map P Q f xs h.1)

pub each_append : {A : Type 0} (P : A → Type 0) (xs ys : List A) → Each P xs → Each P ys → Each P (xs ++ ys)
each_append P [] ys h k = k
each_append P (x ∷ xs) ys h k = (h.0, each_append P xs ys h.1 k)
