use Rattle.restructure_laws.specs.Replayed.{converted_top}
use Rattle.move_replay.proofs.MovesMade.{replaced_at}
use Rattle.move_replay.proofs.all_moves.convert_tops.Goals as goal

pub loop-i-preserved : goal.loop-i-preserved
loop-i-preserved c = replaced_at converted_top c.args.tops.now c.loop-i.tops c.loop-i.i c.at_mut.result.now c.convert_top.new.top c.loop-i.invariant
    c.at_mut.ensures.value c.in_ok-convert_top.ensures
