use Rattle.std.proofs.Common.{arith}
use Rattle.label_offsets.proofs.ChoiceLaws.{one_land}
use Rattle.move_bodies.proofs.Applied.{leap_at}
use Rattle.move_bodies.proofs.lands.find_land.Goals as goal

pub place_of-requires-clause-land : goal.place_of-requires-clause-land
place_of-requires-clause-land c =
    let one = one_land c.args.body.now c.requires.well_made c.args.label c.args.at.now (leap_at c.args.body.now c.args.at.now c.args.label c.requires.label) in
    omega (arith, one)
