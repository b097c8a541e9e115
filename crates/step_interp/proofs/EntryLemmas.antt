-- Entries of a program.
use Rattle.std.proofs.Common.{ℕ, zero, suc, ◌+◌, ◌<◌, ◌⊎◌, inl, inr, ◌≡◌, List, [], ◌∷◌, ℤ, take, length, get_or, IsSome, IsNone, refl, sym, ap, ◌∙◌, subst, true≢false, arith}
use Rattle.c_tree.specs.declared.tree.Slot.{Slot}
use Rattle.jump_meaning.specs.Code.{Code, undeclared}
use Rattle.jump_meaning.specs.Runs.{IsEntry}

pub no_entry : (p : Code) (m : List ℕ) (xs : List ℤ) → p.functions m ≡ undeclared → ¬ (IsEntry p m xs)
no_entry p m xs e h = true≢false (sym (subst (λ f. IsSome f.body) e h.defined))

-- ---- the first slots are numbers

-- one that is taken is one of them
pub taken_slot : (xs : List Slot) (n k : ℕ) (d : Slot) → k < length (take n xs) → get_or (take n xs) k d ≡ get_or xs k d
taken_slot [] zero k d l = refl
taken_slot [] (suc n) k d l = refl
taken_slot (x ∷ xs) zero k d l = absurd (omega (arith, l))
taken_slot (x ∷ xs) (suc n) zero d l = refl
taken_slot (x ∷ xs) (suc n) (suc k) d l = taken_slot xs n k d (omega (arith, l))

any_default : (xs : List Slot) (k : ℕ) (d e : Slot) → k < length xs → get_or xs k d ≡ get_or xs k e
any_default [] k d e l = absurd (omega (arith, l))
any_default (x ∷ xs) zero d e l = refl
any_default (x ∷ xs) (suc k) d e l = any_default xs k d e (omega (arith, l))

order : (k n : ℕ) → k < n + 1 → (k < n) ⊎ (k ≡ n)
order k n l = grind arith

pub numbers_more : (xs : List Slot) (n : ℕ) (s : Slot) → n < length xs → s ≡ get_or xs n s → IsNone s.cells →
    ((k : ℕ) (d : Slot) → k < n → IsNone (get_or xs k d).cells)
    → (k : ℕ) (d : Slot) → k < n + 1 → IsNone (get_or xs k d).cells
numbers_more xs n s l e z h k d q = elim (order k n q) as (λ _. IsNone (get_or xs k d).cells) [
  | inl a ↦ h k d a
  | inr b ↦ subst (λ x. IsNone x.cells) (e ∙ any_default xs n s d l ∙ ap (λ i. get_or xs i d) (sym b)) z
]

-- and it stands among the first
pub short_of : (xs : List Slot) (n k : ℕ) → k < length (take n xs) → k < n
short_of [] zero k l = absurd (omega (arith, l))
short_of [] (suc n) k l = absurd (omega (arith, l))
short_of (x ∷ xs) zero k l = absurd (omega (arith, l))
short_of (x ∷ xs) (suc n) zero l = omega arith
short_of (x ∷ xs) (suc n) (suc k) l = omega (arith, short_of xs n k (omega (arith, l)))
