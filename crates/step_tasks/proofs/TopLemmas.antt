-- The entry on top of a stack.
use Rattle.std.specs.Option.{option_copied}
use Rattle.std.proofs.lemmas.List.{take_all}
use Rattle.std.proofs.Common.{◌-◌, take, Bor, Bool, true, ◌==◌, ◌<◌, ◌≤◌, length, get_or, drop, arith, List, [], ◌∷◌, Option, Some, None, MatchOption, slice_get, ◌≡◌, refl, sym, ap, ◌∙◌}

-- what is below the entry on top
abbrev pub below : {A : Type 0} → List A → List A
below [] = []
below (x ∷ xs) = xs

pub on_top : {A : Type 0} (x : A) (xs : List A) → Some x ≡ slice_get xs 0 → xs ≡ x ∷ below xs
on_top x [] e = cc
on_top x (y ∷ xs) e = cc

pub popped : {A : Type 0} (r : Option A) (x : A) (old new : List A) → MatchOption r ((old ≡ []) × (new ≡ [])) (λ t. old ≡ t ∷ new) →
    Some x ≡ slice_get old 0 → old ≡ x ∷ new
popped None x old new h e = let k = e ∙ ap (λ xs. slice_get xs 0) h.0 in cc
popped (Some t) x old new h e = let k = e ∙ ap (λ xs. slice_get xs 0) h in cc

pub no_top : {A : Type 0} (r : Option (Bor A)) (xs : List A) → option_copied r ≡ slice_get xs 0 → ((x : Bor A) → r ≡ Some x → ⊥) → xs ≡ []
no_top None [] e h = refl
no_top None (x ∷ xs) e h = cc
no_top (Some b) xs e h = absurd (h b refl)

-- the first entry of a slice, and the others
pub first_and_rest : {A : Type 0} (xs : List A) (x : A) → 1 ≤ length xs → x ≡ get_or xs 0 x → xs ≡ x ∷ take (length xs - 1) (drop 1 xs)
first_and_rest [] x h e = absurd (omega arith)
first_and_rest (y ∷ xs) x h e = ap (λ z. z ∷ xs) (sym e) ∙ ap (λ ys. x ∷ ys) (sym (take_all (length (y ∷ xs) - 1) xs (omega arith)))

pub no_entry : {A : Type 0} (xs : List A) → length xs < 1 → xs ≡ []
no_entry [] h = refl
no_entry (x ∷ xs) h = absurd (omega arith)

pub is_emptied : {A : Type 0} (r : Bool) (xs : List A) → r ≡ (length xs == 0) → r ≡ true → xs ≡ []
is_emptied r [] e h = refl
is_emptied r (x ∷ xs) e h = absurd (grind (arith, e, h))

pub none_on_top : {A : Type 0} (xs : List A) → None ≡ slice_get xs 0 → xs ≡ []
none_on_top [] e = refl
none_on_top (x ∷ xs) e = cc

pub popped_back : {A : Type 0} (r : Option A) (x : A) (old new xs : List A) → MatchOption r ((old ≡ []) × (new ≡ [])) (λ t. old ≡ t ∷ new) →
    old ≡ x ∷ xs → new ≡ xs
popped_back None x old new xs h e = let k = h.0 in cc
popped_back (Some t) x old new xs h e = cc
