use Rattle.std.proofs.Common.{◌≡◌, drop}
use Rattle.tidy_slots.proofs.NamingLaws.{some_named}
use Rattle.tidy_slots.proofs.mention_items.all_names.Given as goal

abbrev pub invariant-loop-i : goal.invariant-loop-i
invariant-loop-i l = some_named l.slot l.items ≡ some_named l.slot (drop l.i l.items)
