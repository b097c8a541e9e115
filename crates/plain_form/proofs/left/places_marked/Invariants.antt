use Rattle.std.proofs.Common.{◌≡◌, ◌++◌, drop}
use Rattle.plain_form.specs.Marks.{places_marked}
use Rattle.plain_form.proofs.left.places_marked.Given as goal

abbrev pub invariant-loop-i : goal.invariant-loop-i
invariant-loop-i l = l.out ++ places_marked l.i (drop l.i l.marks) ≡ places_marked 0 l.marks
