use Rattle.std.proofs.Common.{ℕ, List, ◌≡◌, ◌-◌, drop, map}
use Rattle.jump_meaning.specs.Values.{Integer}
use Rattle.step_memory.specs.Values.{values_of}
use Rattle.step_interp.proofs.starts.first_values.Given as goal

abbrev pub invariant-loop-at : goal.invariant-loop-at
invariant-loop-at l = (ns : List (List ℕ)) → values_of ns l.values ≡ map Integer (drop (l.count - l.at) l.arguments)
