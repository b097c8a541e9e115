use Rattle.std.proofs.Common.{Some, sym, ap, ◌∙◌}
use Rattle.c_tree.specs.Paths.{list_at}
use Rattle.move_bodies.proofs.Applied.{leap_at}
use Rattle.move_bodies.proofs.Leaves.{joined_here, held_after_here}
use Rattle.move_bodies.proofs.going_on.has_land_beside.Goals as goal

pub returns-in-Some-first_land-clause-some : goal.returns-in-Some-first_land-clause-some
returns-in-Some-first_land-clause-some c _ =
    joined_here c.args.body.now c.args.at.now c.args.label c.requires.well_made (leap_at c.args.body.now c.args.at.now c.args.label c.requires.label)
    c.in-Some-first_land.field-0 c.as_slice-2.result.now
    (sym (ap Some c.as_slice-2.ensures.value ∙ c.in-Some.ensures ∙ ap (list_at c.args.body.now) c.as_slice.ensures.value))
    (sym c.first_land.ensures.place ∙ c.in-Some-first_land.is)

pub returns-in-None-clause-none : goal.returns-in-None-clause-none
returns-in-None-clause-none c _ =
    held_after_here c.args.body.now c.args.at.now c.args.label c.requires.well_made
    (leap_at c.args.body.now c.args.at.now c.args.label c.requires.label) c.requires.ahead c.as_slice-2.result.now
    (sym (ap Some c.as_slice-2.ensures.value ∙ c.in-Some.ensures ∙ ap (list_at c.args.body.now) c.as_slice.ensures.value))
    (sym c.first_land.ensures.place ∙ c.in-None.is)
