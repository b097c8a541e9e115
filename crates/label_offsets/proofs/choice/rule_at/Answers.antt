use Rattle.std.proofs.Common.{arith}
use Rattle.label_offsets.specs.Choice.{Applies}
use Rattle.label_offsets.proofs.MarkLaws.{leap_of_label}
use Rattle.label_offsets.proofs.ChoiceLaws.{one_land, rule_applies}
use Rattle.label_offsets.proofs.OneRule.{one_rule}
use Rattle.label_offsets.proofs.choice.rule_at.Goals as goal

pub place_of-requires-clause-land : goal.place_of-requires-clause-land
place_of-requires-clause-land c =
    let body = c.args.body.now in
    let at = c.args.at.now in
    let one = one_land body c.requires.well_made c.in-Some.label at (leap_of_label body at c.in-Some.label c.in-Some.ensures) in
    omega (arith, one)

pub returns : goal.returns
returns c =
    let body = c.args.body.now in
    let at = c.args.at.now in
    let place = c.in_ok-land.land in
    let leap = leap_of_label body at c.in-Some.label c.in-Some.ensures in
    let applies = rule_applies body c.requires.well_made c.in-Some.label at place leap c.in_ok-land.ensures in
    let one = one_land body c.requires.well_made c.in-Some.label at leap in
    let rule : Applies c.relation.result c.in-Some.label at place body = rw c.relation.ensures.value applies in
    record {
      label = c.in-Some.label;
      place = place;
      leap = leap;
      land = c.in_ok-land.ensures;
      applies = rule;
      only = λ other q k. one_rule body c.in-Some.label one at c.relation.result other place q rule k;
    }
