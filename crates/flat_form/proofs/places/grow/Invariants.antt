use Rattle.std.proofs.Common.{◌≡◌, ℕ, length, get_or, None}
use Rattle.flat_form.proofs.places.grow.Given as goal

abbrev pub invariant-loop-i : goal.invariant-loop-i
invariant-loop-i l = ((c : ℕ) → get_or l.table c None ≡ get_or l.initial.table c None) × (length l.table ≡ l._i)
