use Rattle.std.proofs.Common.{◌≡◌, length}
use Rattle.plain_form.specs.Marks.{names_marked}
use Rattle.plain_form.proofs.left.names_marked.Given as goal

abbrev pub invariant-loop-name : goal.invariant-loop-name
invariant-loop-name l = record {
  at : l.at ≡ length l.yielded;
  value : l.out ≡ names_marked l.yielded l.marks;
}
