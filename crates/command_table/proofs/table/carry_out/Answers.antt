use Rattle.std.proofs.Common.{refl}
use Rattle.command_table.proofs.table.carry_out.Goals as goal

pub returns-in-None-clause-answers : goal.returns-in-None-clause-answers
returns-in-None-clause-answers g c = rw (← c.in-None.ensures) (refl, refl, c.tell.ensures)

pub returns-in-Some-clause-answers : goal.returns-in-Some-clause-answers
returns-in-Some-clause-answers g c = rw (← c.in-Some.ensures) c.work.ensures.does
