use Rattle.std.proofs.Common.{◌≡◌, drop}
use Rattle.label_offsets.specs.Leaps.{paths_from, sections_paths, first}
use Rattle.label_offsets.proofs.first.+find.Given as goal

abbrev pub invariant-first_among-loop-i : goal.invariant-first_among-loop-i
invariant-first_among-loop-i l = first (paths_from l.sought 0 l.items) ≡ first (paths_from l.sought l.i (drop l.i l.items))

abbrev pub invariant-first_section-loop-k : goal.invariant-first_section-loop-k
invariant-first_section-loop-k l = first (sections_paths l.sought l.at 0 l.sections) ≡ first (sections_paths l.sought l.at l.k (drop l.k l.sections))
