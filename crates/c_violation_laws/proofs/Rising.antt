-- Numbers that don't fall, and numbers that climb.
use Rattle.std.proofs.Common.{◌≡◌, ◌≤◌, ◌+◌, ℕ, suc, cond, List, [], ◌∷◌, ◌++◌, length, refl, ap, subst, ◌∙◌, arith, eq-eqb, ne_eqb}
use Rattle.c_reading_defs.specs.Variables.{variable_number}

-- ---- none is less than the one in front of it

-- from `lo` up to `hi`
abbrev pub Rising : ℕ → List ℕ → ℕ → Type 0
Rising lo [] hi = lo ≤ hi
Rising lo (x ∷ xs) hi = (lo ≤ x) × Rising x xs hi

pub rising_ends : (lo : ℕ) (xs : List ℕ) (hi : ℕ) → Rising lo xs hi → lo ≤ hi
rising_ends lo [] hi r = r
rising_ends lo (x ∷ xs) hi r = let g = r.0 in let h = rising_ends x xs hi r.1 in omega (arith, g, h)

later : (lo : ℕ) (xs : List ℕ) (hi more : ℕ) → hi ≤ more → Rising lo xs hi → Rising lo xs more
later lo [] hi more h r = omega (arith, h, r)
later lo (x ∷ xs) hi more h r = (r.0, later x xs hi more h r.1)

earlier : (less lo : ℕ) (xs : List ℕ) (hi : ℕ) → less ≤ lo → Rising lo xs hi → Rising less xs hi
earlier less lo [] hi h r = omega (arith, h, r)
earlier less lo (x ∷ xs) hi h r = let g = r.0 in (omega (arith, g, h), r.1)

pub wider : (less lo : ℕ) (xs : List ℕ) (hi more : ℕ) → less ≤ lo → hi ≤ more → Rising lo xs hi → Rising less xs more
wider less lo xs hi more g h r = later less xs hi more h (earlier less lo xs hi g r)

pub rising_both : (lo : ℕ) (xs : List ℕ) (mid : ℕ) (ys : List ℕ) (hi : ℕ) → Rising lo xs mid → Rising mid ys hi → Rising lo (xs ++ ys) hi
rising_both lo [] mid ys hi r s = earlier lo mid ys hi r s
rising_both lo (x ∷ xs) mid ys hi r s = (r.0, rising_both x xs mid ys hi r.1 s)

-- there is a number between two parts
pub parted : (lo : ℕ) (xs ys : List ℕ) (hi : ℕ) → Rising lo (xs ++ ys) hi → (mid : ℕ) × Rising lo xs mid × Rising mid ys hi
parted lo [] ys hi r = (lo, omega arith, r)
parted lo (x ∷ xs) ys hi r = let s = parted x xs ys hi r.1 in (s.0, (r.0, s.1), s.2)

-- ---- each is more than the one in front of it

-- from `lo` on and before `hi`
abbrev pub Climbing : ℕ → List ℕ → ℕ → Type 0
Climbing lo [] hi = lo ≤ hi
Climbing lo (x ∷ xs) hi = (lo ≤ x) × Climbing (x + 1) xs hi

climbing_earlier : (less lo : ℕ) (xs : List ℕ) (hi : ℕ) → less ≤ lo → Climbing lo xs hi → Climbing less xs hi
climbing_earlier less lo [] hi h r = omega (arith, h, r)
climbing_earlier less lo (x ∷ xs) hi h r = let g = r.0 in (omega (arith, g, h), r.1)

climbing_later : (lo : ℕ) (xs : List ℕ) (hi more : ℕ) → hi ≤ more → Climbing lo xs hi → Climbing lo xs more
climbing_later lo [] hi more h r = omega (arith, h, r)
climbing_later lo (x ∷ xs) hi more h r = (r.0, climbing_later (x + 1) xs hi more h r.1)

pub climbing_wider : (less lo : ℕ) (xs : List ℕ) (hi more : ℕ) → less ≤ lo → hi ≤ more → Climbing lo xs hi → Climbing less xs more
climbing_wider less lo xs hi more g h r = climbing_later less xs hi more h (climbing_earlier less lo xs hi g r)

pub climbing_both : (lo : ℕ) (xs : List ℕ) (mid : ℕ) (ys : List ℕ) (hi : ℕ) → Climbing lo xs mid → Climbing mid ys hi → Climbing lo (xs ++ ys) hi
climbing_both lo [] mid ys hi r s = climbing_earlier lo mid ys hi r s
climbing_both lo (x ∷ xs) mid ys hi r s = (r.0, climbing_both (x + 1) xs mid ys hi r.1 s)

-- ---- the number of one among them

from_on : (lo : ℕ) (xs : List ℕ) (v : ℕ) (rest : List ℕ) (hi : ℕ) → Climbing lo (xs ++ v ∷ rest) hi → lo ≤ v
from_on lo [] v rest hi r = r.0
from_on lo (x ∷ xs) v rest hi r = let g = r.0 in let h = from_on (x + 1) xs v rest hi r.1 in omega (arith, g, h)

-- it is how many stand in front
abbrev pub Apart : List ℕ → Type 0
Apart vs = (front : List ℕ) (v : ℕ) (rest : List ℕ) → vs ≡ front ++ v ∷ rest → variable_number vs v ≡ length front

number_of : (lo : ℕ) (front : List ℕ) (v : ℕ) (rest : List ℕ) (hi : ℕ) → Climbing lo (front ++ v ∷ rest) hi →
    variable_number (front ++ v ∷ rest) v ≡ length front
number_of lo [] v rest hi r = ap (λ b. cond b 0 (suc (variable_number rest v))) (eq-eqb v v refl)
number_of lo (x ∷ xs) v rest hi r =
    let less = from_on (x + 1) xs v rest hi r.1 in
    ap (λ b. cond b 0 (suc (variable_number (xs ++ v ∷ rest) v))) (ne_eqb x v (λ e. omega (arith, less, e)))
    ∙ ap suc (number_of (x + 1) xs v rest hi r.1)

pub climbing_apart : (lo : ℕ) (vs : List ℕ) (hi : ℕ) → Climbing lo vs hi → Apart vs
climbing_apart lo vs hi r front v rest e = ap (λ l. variable_number l v) e ∙ number_of lo front v rest hi (subst (λ l. Climbing lo l hi) e r)
