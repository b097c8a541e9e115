use Rattle.std.proofs.Common.{refl}
use Rattle.tidy_slots.specs.Numbers.{number}
use Rattle.break_recovery.proofs.functions.number_again.Goals as goal

pub returns : goal.returns
returns c = record {
  kept = refl;
  slots = c.remove_gone.ensures;
  number = number c.in_ok-numbers.numbers;
  told = c.in_ok-numbers.ensures;
  body = c.renumber_body.ensures;
}
