-- Changes of a part of a body that are made in a row.
use Rattle.std.specs.Prelude.{ℕ, suc, ◌≡◌, List, [], ◌∷◌, ◌++◌, take, drop, slice_set, Option, Some}
use Rattle.jump_meaning.specs.Code.{FunctionTree}
use Rattle.tidy_loops.specs.Slots.{Tells}

-- the changes of these slots, each the next of what the one before it left, and after each the part is alike to what it was
abbrev pub AreNext : {A : Type 0} → (FunctionTree → A → Option (ℕ × A)) → (List ℕ → ℕ → A → A → Type 0) → List ℕ → List ℕ → A → A → Type 0
AreNext {A} next like counts [] a b = b ≡ a
AreNext {A} next like counts (g ∷ gs) a b = (c : A) × ((f : FunctionTree) → Tells counts f → next f a ≡ Some (g, c)) ×
    (like counts g a c × AreNext next like (slice_set counts g 0) gs c b)

-- the counts, once these slots count no more
abbrev pub without : List ℕ → List ℕ → List ℕ
without counts [] = counts
without counts (g ∷ gs) = without (slice_set counts g 0) gs

-- such changes, which lead from one way to the next, whichever function has the counts
abbrev pub IsRow : {A W : Type 0} → (FunctionTree → A → Option (ℕ × A)) → (List ℕ → ℕ → A → A → Type 0) →
    (FunctionTree → W → A → Type 0) → List ℕ → List ℕ → List ℕ → W → W → A → A → Type 0
IsRow next like P counts after gs v w a b = (after ≡ without counts gs) × ((f : FunctionTree) → Tells counts f →
    ((h : FunctionTree) → Tells counts h → P h v a) → AreNext next like counts gs a b × ((h : FunctionTree) → Tells after h → P h w b))

-- a list without what stands behind this place and before that
abbrev pub closed : {A : Type 0} → ℕ → ℕ → List A → List A
closed at next xs = take (suc at) xs ++ drop next xs
