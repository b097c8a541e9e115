use Rattle.std.proofs.Common.{◌≡◌, ℕ, take, get_or, None}
use Rattle.flat_form.proofs.PlaceLaws.{place_if}
use Rattle.flat_form.proofs.places.places_of.Given as goal

abbrev pub invariant-loop-i : goal.invariant-loop-i
invariant-loop-i l = (c : ℕ) → get_or l.table c None ≡ place_if (take l.i l.codes) c
