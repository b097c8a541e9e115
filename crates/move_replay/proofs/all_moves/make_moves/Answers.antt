use Rattle.std.proofs.Common.{subst}
use Rattle.move_replay.specs.Places.{Finds}
use Rattle.move_replay.proofs.Placing.{finds_moved}
use Rattle.restructure_laws.specs.Lawful.{none}
use Rattle.move_replay.proofs.MovesMade.{got, one_more}
use Rattle.move_replay.proofs.all_moves.make_moves.Goals as goal

pub loop-i-init : goal.loop-i-init
loop-i-init c = (none, c.requires, subst (Finds c.in_ok-places.places) c.as_slice.ensures.value c.in_ok-places.ensures, tt)

pub returns-then-not-branch-clause-stopped : goal.returns-then-not-branch-clause-stopped
returns-then-not-branch-clause-stopped c = record {
  move = c.index-moves-i.result;
  reached = c.loop-i.tops;
  moved = c.loop-i.invariant.0;
  next = got c.args.moves.now c.loop-i.i c.index-moves-i.result c.loop-i-test.true c.index-moves-i.is;
  unlawful = λ w. c.in_ok-make_move.ensures.no c.if-not-branch.true w.after w.moved;
}

pub loop-i-preserved : goal.loop-i-preserved
loop-i-preserved c =
    let m = c.index-moves-i.result in
    let moved = c.in_ok-make_move.ensures.yes c.if-not-branch.false in
    let r = one_more c.args.tops.now c.loop-i.tops c.make_move.new.tops c.args.moves.now c.loop-i.i m
    (got c.args.moves.now c.loop-i.i m c.loop-i-test.true c.index-moves-i.is) (c.loop-i.invariant.0, c.loop-i.invariant.1) moved in (
      r.0,
      r.1,
      finds_moved c.in_ok-places.places m c.loop-i.tops c.make_move.new.tops moved c.loop-i.invariant.2,
      c.in_ok-make_move.ensures.leapless c.if-not-branch.false,
    )
