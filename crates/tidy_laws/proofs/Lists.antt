-- What holds of each change of a list of changes.
use Rattle.std.proofs.Common.{ℕ, zero, suc, ◌+◌, ◌≤◌, ◌<◌, List, [], ◌∷◌, ◌++◌, Option, Some, None, ◌≡◌, refl, arith}
use Rattle.c_tree.specs.Trees.{Forest}
use Rattle.tidy_laws.specs.Changes.{listed, changed_for, around}

abbrev pub Each : {A : Type 0} → (A → Type 0) → List A → Type 0
Each P [] = Unit {0}
Each P (c ∷ cs) = P c × Each P cs

pub each_both : {A : Type 0} (P : A → Type 0) (cs ds : List A) → Each P cs → Each P ds → Each P (cs ++ ds)
each_both P [] ds h k = k
each_both P (c ∷ cs) ds h k = (h.0, each_both P cs ds h.1 k)

pub each_around : {A B : Type 0} (P : ℕ × A → Type 0) (Q : ℕ × B → Type 0) (f : A → B) (cs : List (ℕ × A)) → ((c : ℕ × A) → P c → Q (c.0, f c.1)) →
    Each P cs → Each Q (around f cs)
each_around P Q f [] k h = tt
each_around P Q f (c ∷ cs) k h = (k c h.0, each_around P Q f cs k h.1)

pub each_for : (P : ℕ × Forest → Type 0) (f : ℕ → Option Forest) (g n : ℕ) → ((x : ℕ) (a : Forest) → g ≤ x → x < g + n → f x ≡ Some a → P (x, a)) →
    Each P (changed_for f g n)
each_for P f g zero k = tt
each_for P f g (suc n) k = each_both P (listed g (f g)) (changed_for f (suc g) n) (first (f g) refl)
    (each_for P f (suc g) n (λ x a l m e. k x a (omega (arith, l)) (omega (arith, m)) e))
  where
    first : (o : Option Forest) → f g ≡ o → Each P (listed g o)
    first None e = tt
    first (Some a) e = (k g a (omega arith) (omega arith) e, tt)
