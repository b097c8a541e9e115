use Rattle.std.proofs.Common.{arith}
use Rattle.break_recovery.proofs.WaysSearched.{keeps_none, keeps_behind}
use Rattle.break_recovery.proofs.Outermost.{goes_before, goes_behind}
use Rattle.break_recovery.proofs.places.behind_removal.Goals as goal

pub returns-then-place-at : goal.returns-then-place-at
returns-then-place-at c = record {
  goes_on = goes_before c.args.place c.args.at c.if-place-at.true;
  way = keeps_none c.args.place c.args.at c.args.place c.if-place-at.true;
}

pub returns : goal.returns
returns c = record {
  goes_on = rw (c.saturating_sub.ensures, c.saturating_sub-2.ensures) (goes_behind c.args.place c.args.at);
  way = rw (c.saturating_sub-2.ensures) (keeps_behind c.args.place c.args.at (omega (arith, c.if-place-at.false)));
}
