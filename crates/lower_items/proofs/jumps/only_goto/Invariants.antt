use Rattle.std.proofs.Common.{◌≡◌, drop}
use Rattle.c_tree.specs.Trees.{trees_of}
use Rattle.flat_questions.specs.Reading.{is_flagged}
use Rattle.lower_laws.specs.Lowered.{only_goto}
use Rattle.lower_items.proofs.jumps.only_goto.Given as goal

abbrev pub invariant-loop-i : goal.invariant-loop-i
invariant-loop-i l = only_goto (is_flagged l.named) (trees_of l.items) ≡ only_goto (is_flagged l.named) (trees_of (drop l.i l.items))
