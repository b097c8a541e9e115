-- One of a list, also told with those in front of it, in text order; and a name that is one of some.
use Rattle.std.specs.Prelude.{◌≡◌, ◌⊎◌, ℕ, List, [], ◌∷◌}

-- P holds of one of these, with those in front of it
abbrev pub SomeBehind : {A : Type 0} → (List A → A → Type 0) → List A → Type 0
SomeBehind P [] = ⊥
SomeBehind P (x ∷ xs) = P [] x ⊎ SomeBehind (λ before. P (x ∷ before)) xs

-- P holds of one of these
abbrev pub SomeOf : {A : Type 0} → (A → Type 0) → List A → Type 0
SomeOf P [] = ⊥
SomeOf P (x ∷ xs) = P x ⊎ SomeOf P xs

-- a name is one of these
abbrev pub IsOne : List ℕ → List (List ℕ) → Type 0
IsOne name [] = ⊥
IsOne name (n ∷ ns) = (name ≡ n) ⊎ IsOne name ns
