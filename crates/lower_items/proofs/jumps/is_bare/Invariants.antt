use Rattle.std.proofs.Common.{◌≡◌, drop}
use Rattle.c_tree.specs.Trees.{trees_of}
use Rattle.flat_questions.specs.Reading.{is_flagged}
use Rattle.lower_laws.specs.Lowered.{is_bare}
use Rattle.lower_items.proofs.jumps.is_bare.Given as goal

abbrev pub invariant-loop-i : goal.invariant-loop-i
invariant-loop-i l = is_bare (is_flagged l.named) (trees_of (drop l.from l.items)) ≡ is_bare (is_flagged l.named) (trees_of (drop l.i l.items))
