use Rattle.std.proofs.Common.{◌≡◌, ◌+◌, drop}
use Rattle.plain_laws.specs.Plain.{slot_among}
use Rattle.plain_form.proofs.slots.Slots.slot.Given as goal

abbrev pub invariant-loop-i : goal.invariant-loop-i
invariant-loop-i l = slot_among (l.self.base + l.i) (drop l.i l.left) l.label ≡ slot_among l.self.base l.left l.label
