-- A list whose entries are changed one after another.
use Rattle.std.proofs.Common.{ℕ, suc, ◌<◌, ◌≡◌, arith, List, [], ◌∷◌, length, get_or, map, refl}
use mathlib.Core.Path.{ap₂}

-- so many entries are changed
abbrev pub DoneTo : {A : Type 0} → (A → A) → ℕ → List A → List A → Type 0
DoneTo {A} f i old new = (length new ≡ length old) × ((k : ℕ) (d : A) → k < i → get_or new k d ≡ f (get_or old k d))

pub mapped : {A : Type 0} (f : A → A) (xs ys : List A) → length ys ≡ length xs →
    ((k : ℕ) (d : A) → k < length ys → get_or ys k d ≡ f (get_or xs k d)) → ys ≡ map f xs
mapped f [] [] e h = refl
mapped f [] (y ∷ ys) e h = absurd (omega (arith, e))
mapped f (x ∷ xs) [] e h = absurd (omega (arith, e))
mapped {A} f (x ∷ xs) (y ∷ ys) e h = ap₂ {A = A} {B = List A} (λ z zs. z ∷ zs) (h 0 x (omega arith))
    (mapped f xs ys (omega (arith, e)) (λ k d l. h (suc k) d (omega (arith, l))))
