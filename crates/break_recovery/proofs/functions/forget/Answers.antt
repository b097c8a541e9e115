use Rattle.std.proofs.Common.{arith}
use Rattle.break_recovery.proofs.Numbered.{set_past}
use Rattle.break_recovery.proofs.functions.forget.Goals as goal

pub returns-else-slot-len : goal.returns-else-slot-len
returns-else-slot-len c = set_past c.args.counts.now c.args.slot 0 (omega (arith, c.if-slot-len.false, c.len.ensures.value))
