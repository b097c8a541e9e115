use Rattle.std.proofs.Common.{◌≡◌, ◌++◌, map}
use Rattle.plain_laws.specs.Plain.{guard_slot}
use Rattle.plain_form.proofs.functions.with_guard_slots.Given as goal

abbrev pub invariant-loop-name : goal.invariant-loop-name
invariant-loop-name l = l.out ≡ l.fn.slots ++ map guard_slot l.yielded
