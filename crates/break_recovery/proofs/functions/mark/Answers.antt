use Rattle.std.proofs.Common.{true, arith}
use Rattle.break_recovery.proofs.Numbered.{set_past}
use Rattle.break_recovery.proofs.functions.mark.Goals as goal

pub returns-else-slot-len : goal.returns-else-slot-len
returns-else-slot-len c = set_past c.args.gone.now c.args.slot true (omega (arith, c.if-slot-len.false, c.len.ensures.value))
