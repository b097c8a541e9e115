use Rattle.std.proofs.Common.{◌≡◌}
use Rattle.plain_form.specs.Marks.{unmarked}
use Rattle.plain_form.proofs.left.no_marks.Given as goal

abbrev pub invariant-loop-i : goal.invariant-loop-i
invariant-loop-i l = l.marks ≡ unmarked l.i
