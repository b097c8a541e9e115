use Rattle.std.proofs.Common.{◌≡◌, length}
use Rattle.c_parse_step.specs.Machine as spec
use Rattle.c_parse_step.proofs.resume.resume.Given as goal

-- what is left goes on to what the whole node gives
abbrev pub invariant-loop-want : goal.invariant-loop-want
invariant-loop-want l = record {
  goes : spec.resume l.initial.form l.initial.stack l.class l.at ≡ spec.resume l.form l.stack l.class l.at;
  same : l.stack ≡ l.initial.stack;
}

abbrev pub decreases-loop-want : goal.decreases-loop-want
decreases-loop-want l = length l.form.todo
