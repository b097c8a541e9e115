use Rattle.std.proofs.Common.{◌<◌, ◌≤◌, sym, subst, arith}
use Rattle.label_offsets.specs.Standing.{outermost}
use Rattle.move_bodies.specs.Moving.{IsUnderway, moves_ahead}
use Rattle.move_bodies.specs.Leaving.{IsAhead, AheadIf}
use Rattle.move_bodies.proofs.Underway.{one_more, less_ahead}
use Rattle.move_bodies.proofs.Leaves.{ahead_after}
use Rattle.move_bodies.proofs.GoingOut.{some_land}
use Rattle.move_bodies.proofs.Front.{free_front, same_front}
use Rattle.move_bodies.proofs.moving.eliminate.Goals as goal

pub place_of-requires-clause-land : goal.place_of-requires-clause-land
place_of-requires-clause-land c = some_land c.args.body.now c.args.at c.in-Some.label c.requires.well_made (sym c.in-Some.ensures)

pub loop-next-init : goal.loop-next-init
loop-next-init c = (
  one_more c.in-Some.label c.args.at c.args.body.now c.leave.new.body c.move_once.new.body c.in_ok-path.path c.in_ok-kind.field-0.kind
      c.in_ok-kind.field-0.to c.args.moves.now c.leave.new.moves c.push.new.self
      c.in_ok-path.ensures.underway c.in_ok-kind.ensures.moves c.in_ok-kind.ensures.well_made c.in_ok-push.ensures.ok,
  ahead_after c.in-Some.label c.in_ok-path.path c.in_ok-kind.field-0.kind c.in_ok-kind.field-0.to c.leave.new.body c.move_once.new.body
      c.in_ok-kind.ensures.moves c.in_ok-path.ensures.leads,
)

pub loop-next-smaller : goal.loop-next-smaller
loop-next-smaller c =
    subst (λ o. moves_ahead c.in-Some.label c.go_on.new.body c.in_ok-kind-2.field-0.to < moves_ahead c.in-Some.label c.loop-next.body o) (sym c.in-Some-next.is)
    (less_ahead c.in-Some.label c.args.at c.args.body.now c.loop-next.body c.go_on.new.body c.in-Some-next.path c.in_ok-kind-2.field-0.kind
    c.in_ok-kind-2.field-0.to c.loop-next.invariant.0.well_made c.in_ok-kind-2.ensures.moves)

pub loop-next-preserved : goal.loop-next-preserved
loop-next-preserved c =
    let ahead : IsAhead c.in-Some.label c.loop-next.body c.in-Some-next.path =
    subst (AheadIf c.in-Some.label c.loop-next.body) c.in-Some-next.is c.loop-next.invariant.1 in (
      one_more c.in-Some.label c.args.at c.args.body.now c.loop-next.body c.go_on.new.body c.in-Some-next.path c.in_ok-kind-2.field-0.kind
          c.in_ok-kind-2.field-0.to c.args.moves.now c.loop-next.moves c.push-in-Some-next.new.self
          (subst (λ o. IsUnderway c.in-Some.label c.args.at o c.args.body.now c.loop-next.body c.args.moves.now c.loop-next.moves) c.in-Some-next.is
          c.loop-next.invariant.0)
          c.in_ok-kind-2.ensures.moves c.in_ok-kind-2.ensures.well_made c.in_ok-push-2.ensures.ok,
      ahead_after c.in-Some.label c.in-Some-next.path c.in_ok-kind-2.field-0.kind c.in_ok-kind-2.field-0.to c.loop-next.body c.go_on.new.body
          c.in_ok-kind-2.ensures.moves ahead.leads,
    )

pub returns-clause-front : goal.returns-clause-front
returns-clause-front c =
    let l = c.in-Some.label in
    let n = c.min-front.result in
    let land = c.in_ok-land.land in
    let before_leap : n ≤ outermost c.args.at = omega (arith, c.min-front.ensures, c.outermost-near.ensures) in
    let before_land : n ≤ outermost land = omega (arith, c.min-front.ensures, c.outermost.ensures) in
    let none = free_front l c.args.body.now c.args.at land n c.requires.well_made (sym c.in-Some.ensures) c.in_ok-land.ensures before_land in
    let joined = subst (λ o. IsUnderway l c.args.at o c.args.body.now c.loop-next.body c.args.moves.now c.loop-next.moves) c.in_default-next.is
    c.loop-next.invariant.0 in
    (before_leap, same_front l n c.args.at c.args.body.now c.loop-next.body c.args.moves.now c.loop-next.moves joined before_leap none)
