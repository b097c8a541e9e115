use Rattle.step_memory.proofs.StoreLemmas.{reaches_lent, reaches_own}
use Rattle.step_memory.proofs.store.holder.Goals as goal

pub returns-in-Lent : goal.returns-in-Lent
returns-in-Lent c s h n e = reaches_lent s h c.args.owner c.in-Lent.other c.args.room.now n e c.in-Lent.is

pub returns-in_default : goal.returns-in_default
returns-in_default c s h n e = reaches_own s h c.args.owner c.args.room.now n e c.in_default.not-Lent
