-- The sections of a switch that a Leap leaves.
use Rattle.std.proofs.Common.{◌≡◌, ℕ, zero, suc, ◌+◌, ◌<◌, List, [], ◌∷◌, ◌++◌, length, take, drop, slice_get, slice_set, Some, Bool, true, false, cond, sym, ap, ◌∙◌, arith, add-one}
use Rattle.c_tree.specs.declared.tree.Section.{Section, out-Section}
use Rattle.c_tree.specs.Paths.{list_of, with_list}
use Rattle.c_tree.specs.Outward.{rest_guarded, section_guarded, later_guarded, sections_left}
use Rattle.outward_moves.specs.Fallen.{fallen, fallen_later}

-- the lists put under the guard, one after another

module _ (l : ℕ) where
  pub later_ends : (xs : List Section) (k : ℕ) (s t : Section) → slice_get xs k ≡ Some s → t ≡ section_guarded l s → (out-Section s).ends ≡ true
      → slice_set xs k t ≡ take k xs ++ later_guarded l (drop k xs)
  later_ends [] k s t g e h = cc
  later_ends (x ∷ xs) zero s t g e h =
      let same : s ≡ x = cc in
      ap (λ y. y ∷ xs) (e ∙ ap (section_guarded l) same)
      ∙ sym (ap (λ b. section_guarded l x ∷ cond b xs (later_guarded l xs)) (ap (λ y. (out-Section y).ends) (sym same) ∙ h))
  later_ends (x ∷ xs) (suc k) s t g e h = ap (λ ys. x ∷ ys) (later_ends xs k s t g e h)

  later_suc : (xs : List Section) (k : ℕ) (s t : Section) → slice_get xs k ≡ Some s → t ≡ section_guarded l s → (out-Section s).ends ≡ false
      → take (suc k) (slice_set xs k t) ++ later_guarded l (drop (suc k) (slice_set xs k t)) ≡ take k xs ++ later_guarded l (drop k xs)
  later_suc [] k s t g e h = cc
  later_suc (x ∷ xs) zero s t g e h =
      let same : s ≡ x = cc in
      ap (λ y. y ∷ later_guarded l xs) (e ∙ ap (section_guarded l) same)
      ∙ sym (ap (λ b. section_guarded l x ∷ cond b xs (later_guarded l xs)) (ap (λ y. (out-Section y).ends) (sym same) ∙ h))
  later_suc (x ∷ xs) (suc k) s t g e h = ap (λ ys. x ∷ ys) (later_suc xs k s t g e h)

  pub later_on : (xs : List Section) (k : ℕ) (s t : Section) → slice_get xs k ≡ Some s → t ≡ section_guarded l s → (out-Section s).ends ≡ false
      → take (k + 1) (slice_set xs k t) ++ later_guarded l (drop (k + 1) (slice_set xs k t)) ≡ take k xs ++ later_guarded l (drop k xs)
  later_on xs k s t g e h = rw add-one (later_suc xs k s t g e h)

-- the section that the Leap at i leaves, and those after it

module _ (l i : ℕ) where
  pub left_ends : (xs : List Section) (k : ℕ) (s t : Section) → slice_get xs k ≡ Some s → t ≡ with_list (rest_guarded l i (list_of s)) s →
      (out-Section s).ends ≡ true
      → slice_set xs k t ≡ take k xs ++ sections_left l i (drop k xs)
  left_ends [] k s t g e h = cc
  left_ends (x ∷ xs) zero s t g e h =
      let same : s ≡ x = cc in
      ap (λ y. y ∷ xs) (e ∙ ap (λ y. with_list (rest_guarded l i (list_of y)) y) same)
      ∙ sym (ap (λ b. with_list (rest_guarded l i (list_of x)) x ∷ cond b xs (later_guarded l xs)) (ap (λ y. (out-Section y).ends) (sym same) ∙ h))
  left_ends (x ∷ xs) (suc k) s t g e h = ap (λ ys. x ∷ ys) (left_ends xs k s t g e h)

  left_suc : (xs : List Section) (k : ℕ) (s t : Section) → slice_get xs k ≡ Some s → t ≡ with_list (rest_guarded l i (list_of s)) s →
      (out-Section s).ends ≡ false
      → take (suc k) (slice_set xs k t) ++ later_guarded l (drop (suc k) (slice_set xs k t)) ≡ take k xs ++ sections_left l i (drop k xs)
  left_suc [] k s t g e h = cc
  left_suc (x ∷ xs) zero s t g e h =
      let same : s ≡ x = cc in
      ap (λ y. y ∷ later_guarded l xs) (e ∙ ap (λ y. with_list (rest_guarded l i (list_of y)) y) same)
      ∙ sym (ap (λ b. with_list (rest_guarded l i (list_of x)) x ∷ cond b xs (later_guarded l xs)) (ap (λ y. (out-Section y).ends) (sym same) ∙ h))
  left_suc (x ∷ xs) (suc k) s t g e h = ap (λ ys. x ∷ ys) (left_suc xs k s t g e h)

  pub left_on : (xs : List Section) (k : ℕ) (s t : Section) → slice_get xs k ≡ Some s → t ≡ with_list (rest_guarded l i (list_of s)) s →
      (out-Section s).ends ≡ false
      → take (k + 1) (slice_set xs k t) ++ later_guarded l (drop (k + 1) (slice_set xs k t)) ≡ take k xs ++ sections_left l i (drop k xs)
  left_on xs k s t g e h = rw add-one (left_suc xs k s t g e h)

-- how many are fallen into

pub fallen_some : (xs : List Section) (k : ℕ) → k < length xs → 0 < fallen (drop k xs)
fallen_some [] k h = absurd (omega arith)
fallen_some (x ∷ xs) zero h = omega arith
fallen_some (x ∷ xs) (suc k) h = fallen_some xs k (omega arith)

fallen_suc : (xs : List Section) (k : ℕ) (s t : Section) → slice_get xs k ≡ Some s → (out-Section s).ends ≡ false →
    fallen (drop k xs) ≡ 1 + fallen (drop (suc k) (slice_set xs k t))
fallen_suc [] k s t g h = cc
fallen_suc (x ∷ xs) zero s t g h =
    let same : s ≡ x = cc in
    ap (λ (b : Bool). 1 + cond b 0 (fallen xs)) (ap (λ y. (out-Section y).ends) (sym same) ∙ h)
fallen_suc (x ∷ xs) (suc k) s t g h = fallen_suc xs k s t g h

pub fallen_on : (xs : List Section) (k : ℕ) (s t : Section) → slice_get xs k ≡ Some s → (out-Section s).ends ≡ false →
    fallen (drop k xs) ≡ 1 + fallen (drop (k + 1) (slice_set xs k t))
fallen_on xs k s t g h = rw add-one (fallen_suc xs k s t g h)

pub fallen_later_on : (xs : List Section) (k : ℕ) (s t : Section) → slice_get xs k ≡ Some s → (out-Section s).ends ≡ false →
    fallen_later (drop k xs) ≡ fallen (drop (k + 1) (slice_set xs k t))
fallen_later_on [] k s t g h = cc
fallen_later_on (x ∷ xs) zero s t g h =
    let same : s ≡ x = cc in
    ap (λ (b : Bool). cond b 0 (fallen xs)) (ap (λ y. (out-Section y).ends) (sym same) ∙ h)
fallen_later_on (x ∷ xs) (suc k) s t g h = rw add-one (rw add-one at (fallen_later_on xs k s t g h))
