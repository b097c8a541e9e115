use Rattle.std.proofs.Common.{◌≡◌, ◌≤◌, ℕ, List, drop, length}
use Rattle.std.specs.BTreeMap.{get_by_text}
use Rattle.move_replay.specs.Places.{place_from}
use Rattle.move_replay.proofs.places.Places.new.Given as goal

abbrev pub invariant-loop-at : goal.invariant-loop-at
invariant-loop-at l = (l.at ≤ length l.tops) × ((m : List ℕ) → get_by_text l.table m ≡ place_from l.at m (drop l.at l.tops))

abbrev pub decreases-loop-at : goal.decreases-loop-at
decreases-loop-at l = l.at
