-- A list whose entries are exchanged one after another.
use Rattle.std.proofs.Common.{ℕ, ◌<◌, ◌≤◌, ◌≡◌, arith, List, [], ◌++◌, length, get_or, take, drop, ap, ◌∙◌}
use Rattle.std.proofs.lemmas.List.{take_all, drop_all, append-nil}
use Rattle.c_types.specs.Refill.{refilled}

refilled_at : {A : Type 0} (n : ℕ) (w : List A) → length w ≡ n → (r : List A) → r ≡ [] → take n (w ++ r) ≡ w
refilled_at n w h r e = ap (λ z. take n (w ++ z)) e ∙ ap (take n) (append-nil w) ∙ take_all n w (omega (arith, h))

-- a slice of the same length put back is what the list then holds
pub refilled_same : {A : Type 0} (old lent w : List A) → lent ≡ old → length w ≡ length lent → refilled old w ≡ w
refilled_same old lent w e h =
    let k : length w ≡ length old = h ∙ ap length e in
    refilled_at (length old) w k (drop (length w) old) (drop_all (length w) old (omega (arith, k)))

-- so many entries are exchanged
abbrev pub DoneTo : {A : Type 0} → (A → A → Type 0) → ℕ → List A → List A → Type 0
DoneTo {A} R i old new = (length new ≡ length old) × ((k : ℕ) (d : A) → k < i → R (get_or old k d) (get_or new k d))

-- all of them
pub all_done : {A : Type 0} (R : A → A → Type 0) (i : ℕ) (old new : List A) → length new ≤ i → DoneTo R i old new → (k : ℕ) (d : A) → k < length new →
    R (get_or old k d) (get_or new k d)
all_done R i old new h p k d l = p.1 k d (omega (arith, h, l))
