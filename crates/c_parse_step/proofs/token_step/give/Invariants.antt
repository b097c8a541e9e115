use Rattle.std.proofs.Common.{◌≡◌, length}
use Rattle.c_parse_step.specs.Machine as spec
use Rattle.c_parse_step.proofs.token_step.give.Given as goal

-- the frames that are left do with the value what all of them do
abbrev pub invariant-loop-entry : goal.invariant-loop-entry
invariant-loop-entry l = spec.give l.initial.stack l.initial.found l.class l.at ≡ spec.give l.stack l.found l.class l.at

abbrev pub decreases-loop-entry : goal.decreases-loop-entry
decreases-loop-entry l = length l.stack
