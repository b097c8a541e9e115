use Rattle.break_recovery.proofs.Walks.{on_ok_more, all_closed}
use Rattle.break_recovery.proofs.walk.close_gap.Goals as goal

pub returns : goal.returns
returns c = on_ok_more c.close.result _ _ (all_closed c.args.at c.args.next c.args.list.now c.close.new.list) c.close.ensures
