use Rattle.std.proofs.Common.{refl}
use Rattle.command_table.proofs.table.work.Goals as goal

pub returns-in-Run-clause-input : goal.returns-in-Run-clause-input
returns-in-Run-clause-input g c = λ other. absurd (other c.in-Run.from.now c.in-Run.steps (rw c.in-Run.is refl))
