use Rattle.std.proofs.Common.{sym, ◌∙◌}
use Rattle.move_bodies.proofs.Applied.{leap_at}
use Rattle.move_bodies.proofs.GoingOut.{starts, held_elsewhere, leads_on, out_more}
use Rattle.move_bodies.proofs.leaving.leave.Goals as goal

pub loop-alloc-init : goal.loop-alloc-init
loop-alloc-init c = starts c.args.body.now c.args.start c.args.label c.args.moves.now c.requires.well_made c.requires.label

pub move_out-requires : goal.move_out-requires
move_out-requires c =
    held_elsewhere c.args.label c.args.start c.args.body.now c.args.land.now c.args.moves.now c.requires.well_made
    (leap_at c.args.body.now c.args.start c.args.label c.requires.label) c.requires.land
    c.loop-alloc.at c.loop-alloc.body c.loop-alloc.moves c.loop-alloc.invariant (sym c.goes_out.ensures ∙ c.loop-alloc-test.true)

pub loop-alloc-preserved : goal.loop-alloc-preserved
loop-alloc-preserved c =
    out_more c.args.label c.args.start c.loop-alloc.at c.in_ok-to.to c.args.body.now c.loop-alloc.body c.move_out.new.body c.args.moves.now
    c.loop-alloc.moves c.push.new.self c.loop-alloc.invariant c.in_ok-to.ensures.ok
    (c.in_ok-to.ensures.well_made c.loop-alloc.invariant.underway.well_made) c.in_ok-push.ensures.ok

pub returns-clause-underway : goal.returns-clause-underway
returns-clause-underway c = c.loop-alloc.invariant.underway

pub returns-clause-leads : goal.returns-clause-leads
returns-clause-leads c =
    leads_on c.args.label c.args.start c.args.body.now c.args.land.now c.args.moves.now c.requires.well_made
    (leap_at c.args.body.now c.args.start c.args.label c.requires.label) c.requires.land
    c.loop-alloc.at c.loop-alloc.body c.loop-alloc.moves c.loop-alloc.invariant (sym c.goes_out.ensures ∙ c.loop-alloc-test.false)
