use Rattle.std.proofs.Common.{◌≡◌, drop}
use Rattle.plain_form.specs.Staying.{has_switch}
use Rattle.plain_form.proofs.staying.+has_switch.Given as goal

abbrev pub invariant-items_have_switch-loop-i : goal.invariant-items_have_switch-loop-i
invariant-items_have_switch-loop-i l = has_switch l.items ≡ has_switch (drop l.i l.items)
