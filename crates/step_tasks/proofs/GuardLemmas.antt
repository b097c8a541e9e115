-- Guards that are kept as a list of the labels whose guard is set.
use mathlib.Core.Path.{fun_ext}
use Rattle.std.proofs.Common.{ℕ, zero, suc, ◌+◌, inl, inr, ◌<◌, ◌≤◌, Bool, true, false, ◌||◌, cond, eqb, List, [], ◌∷◌, ◌++◌, length, get_or, take, drop, remove, ◌≡◌, ◌≢◌, refl, sym, ap, ◌∙◌, true≢false, arith}
use Rattle.std.specs.List.{list_any}
use Rattle.std.proofs.lemmas.Bool.Decides.{Decides-eqb}
use Rattle.std.proofs.lemmas.Bool.{cases_Bool}
use Rattle.jump_meaning.specs.Step.{with_guard}
use Rattle.jump_meaning.proofs.Memory.{chosen}
use Rattle.step_tasks.specs.Controls.{guards_of}

pub is_same : (l m : ℕ) → m ≡ l → eqb l m ≡ true
is_same l m e = (Decides-eqb l m).1 (sym e)

pub is_other : (l m : ℕ) → m ≢ l → eqb l m ≡ false
is_other l m n = elim (cases_Bool (eqb l m)) as (λ _. eqb l m ≡ false) [
  | inl t ↦ absurd (n (sym ((Decides-eqb l m).0 t)))
  | inr f ↦ f
]

-- the labels without one
abbrev pub without : ℕ → List ℕ → List ℕ
without l [] = []
without l (x ∷ xs) = cond (eqb l x) (without l xs) (x ∷ without l xs)

-- ---- one label more

or_chosen : (a b q : Bool) → a || cond b true q ≡ cond b true (a || q)
or_chosen true true q = refl
or_chosen true false q = refl
or_chosen false _ q = refl

last_one : (l m : ℕ) → list_any (eqb m) (l ∷ []) ≡ cond (eqb l m) true false
last_one l m = elim (cases_Bool (eqb l m)) as (λ _. list_any (eqb m) (l ∷ []) ≡ cond (eqb l m) true false) [
  | inl t ↦ ap (λ b. b || false) (is_same m l ((Decides-eqb l m).0 t)) ∙ sym (ap (λ b. cond b true false) t)
  | inr f ↦ ap (λ b. b || false) (is_other m l (λ e. true≢false (sym (is_same l m (sym e)) ∙ f))) ∙ sym (ap (λ b. cond b true false) f)
]

pushed_at : (l m : ℕ) (xs : List ℕ) → list_any (eqb m) (xs ++ l ∷ []) ≡ cond (eqb l m) true (list_any (eqb m) xs)
pushed_at l m [] = last_one l m
pushed_at l m (x ∷ xs) = ap (λ b. eqb m x || b) (pushed_at l m xs) ∙ or_chosen (eqb m x) (eqb l m) (list_any (eqb m) xs)

pub pushed : (l : ℕ) (xs : List ℕ) → guards_of (xs ++ l ∷ []) ≡ with_guard l true (guards_of xs)
pushed l xs = fun_ext (λ m. pushed_at l m xs)

-- the guard of a label that is set already
pub set_already : (l : ℕ) (xs : List ℕ) → guards_of xs l ≡ true → guards_of xs ≡ with_guard l true (guards_of xs)
set_already l xs h = fun_ext at where
  at : (m : ℕ) → guards_of xs m ≡ with_guard l true (guards_of xs) m
  at m = chosen (λ b. guards_of xs m ≡ b) (eqb l m) true (guards_of xs m) (λ t. ap (guards_of xs) (sym ((Decides-eqb l m).0 t)) ∙ h) (λ f. refl)

-- ---- one label less

without_one : (m x : ℕ) (W : List ℕ) (a b q : Bool) → list_any (eqb m) W ≡ cond b false q → (a ≡ true → b ≡ false → eqb m x ≡ false) →
    (a ≡ false → b ≡ true → eqb m x ≡ false)
    → list_any (eqb m) (cond a W (x ∷ W)) ≡ cond b false (eqb m x || q)
without_one m x W true true q i h k = i
without_one m x W true false q i h k = i ∙ sym (ap (λ c. c || q) (h refl refl))
without_one m x W false true q i h k = ap (λ c. c || list_any (eqb m) W) (k refl refl) ∙ i
without_one m x W false false q i h k = ap (λ p. eqb m x || p) i

without_at : (l m : ℕ) (xs : List ℕ) → list_any (eqb m) (without l xs) ≡ cond (eqb l m) false (list_any (eqb m) xs)
without_at l m [] = chosen (λ b. false ≡ b) (eqb l m) false false (λ _. refl) (λ _. refl)
without_at l m (x ∷ xs) =
    without_one m x (without l xs) (eqb l x) (eqb l m) (list_any (eqb m) xs) (without_at l m xs)
    (λ t f. is_other m x (λ e. true≢false (sym (is_same l m (sym ((Decides-eqb l x).0 t ∙ e))) ∙ f)))
    (λ f t. is_other m x (λ e. true≢false (sym (is_same l x (e ∙ sym ((Decides-eqb l m).0 t))) ∙ f)))

pub reset : (l : ℕ) (xs : List ℕ) → guards_of (without l xs) ≡ with_guard l false (guards_of xs)
reset l xs = fun_ext (λ m. without_at l m xs)

-- ---- the loop that takes a label out

pub removed : (l : ℕ) (xs : List ℕ) (i d : ℕ) → i < length xs → get_or xs i d ≡ l →
    take i (remove xs i) ++ without l (drop i (remove xs i)) ≡ take i xs ++ without l (drop i xs)
removed l [] i d h e = absurd (omega arith)
removed l (x ∷ xs) zero d h e = sym (ap (λ b. cond b (without l xs) (x ∷ without l xs)) (is_same l x e))
removed l (x ∷ xs) (suc i) d h e = ap (λ ys. x ∷ ys) (removed l xs i d (omega arith) e)

pub passed_all : (l : ℕ) (xs : List ℕ) (i : ℕ) → length xs ≤ i → take i xs ++ without l (drop i xs) ≡ xs
passed_all l [] zero h = refl
passed_all l [] (suc i) h = refl
passed_all l (x ∷ xs) zero h = absurd (omega arith)
passed_all l (x ∷ xs) (suc i) h = ap (λ ys. x ∷ ys) (passed_all l xs i (omega arith))
