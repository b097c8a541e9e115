-- The numbers of slots once some of them are gone: true for each that is.
use Rattle.std.specs.Prelude.{ℕ, zero, suc, ◌+◌, Bool, true, false, cond, List, [], ◌∷◌, get_or}
use Rattle.c_tree.specs.declared.tree.Slot.{Slot}

-- whether a slot is gone
abbrev pub is_gone : List Bool → ℕ → Bool
is_gone gone x = get_or gone x false

-- the number that the slot of a new number had before
abbrev pub old_number : List Bool → ℕ → ℕ
old_number [] x = x
old_number (true ∷ gone) x = suc (old_number gone x)
old_number (false ∷ gone) zero = zero
old_number (false ∷ gone) (suc x) = suc (old_number gone x)

-- how many are gone that stand before a slot
abbrev pub gone_before : List Bool → ℕ → ℕ
gone_before [] x = 0
gone_before (b ∷ gone) zero = 0
gone_before (b ∷ gone) (suc x) = cond b 1 0 + gone_before gone x

-- how many are gone in all
abbrev pub gone_count : List Bool → ℕ
gone_count [] = 0
gone_count (b ∷ gone) = cond b 1 0 + gone_count gone

-- the slots that are left
abbrev pub left : List Bool → List Slot → List Slot
left [] ss = ss
left (b ∷ gone) [] = []
left (true ∷ gone) (s ∷ ss) = left gone ss
left (false ∷ gone) (s ∷ ss) = s ∷ left gone ss
