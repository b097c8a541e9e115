use Rattle.std.proofs.Common.{◌≡◌, drop}
use Rattle.tidy_slots.proofs.NamingLaws.{any_named}
use Rattle.tidy_slots.proofs.mention_expressions.+naming.Given as goal

abbrev pub invariant-any_names-loop-i : goal.invariant-any_names-loop-i
invariant-any_names-loop-i l = any_named l.slot l.items ≡ any_named l.slot (drop l.i l.items)
