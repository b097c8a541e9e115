use Rattle.restructure_laws.proofs.Whole.{lawful_laws}
use Rattle.move_replay.proofs.making.make_all.Goals as goal

pub find_none-requires : goal.find_none-requires
find_none-requires c = lawful_laws.well_made c.args.tops.now c.make_each.new.tops c.args.moves.now c.requires c.in-Ok.ensures.moved
