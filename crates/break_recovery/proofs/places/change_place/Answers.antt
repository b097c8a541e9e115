use Rattle.std.proofs.Common.{reverse, refl, sym, subst, ◌∙◌, arith}
use Rattle.tidy_loops.proofs.Results.{if_ok_more}
use Rattle.break_recovery.specs.Ways.{IsWayAt}
use Rattle.break_recovery.proofs.NothingBefore.{none_some}
use Rattle.break_recovery.proofs.Outermost.{behind_is, at_place, past_place}
use Rattle.break_recovery.proofs.places.change_place.Goals as goal

pub returns-then-place-len : goal.returns-then-place-len
returns-then-place-len c =
    let xs = c.args.list.now in
    let n = c.args.level in
    let i = c.args.place in
    let v = reverse c.args.way.now in
    record {
      made = if_ok_more c.change_at.result _ _
          (λ it k f h p. k f h (subst (IsWayAt c.args.sure.now f n v) (sym (behind_is i xs)) p) ∙ at_place xs i f n)
          c.change_at.ensures.made;
      kept = c.change_at.ensures.kept;
      way = if_ok_more c.change_at.result _ _
          (λ it k g r f h d l z p. subst (IsWayAt c.change_at.new.sure h n (reverse c.change_at.new.way)) (behind_is i c.change_at.new.list)
          (k g r f h d l z (subst (IsWayAt c.args.sure.now f n v) (sym (behind_is i xs)) p)))
          c.change_at.ensures.way;
    }

pub returns : goal.returns
returns c =
    record {
      made = λ f h p. past_place c.args.list.now c.args.place f c.args.level (omega (arith, c.if-place-len.false, c.len.ensures.value));
      kept = λ e. refl;
      way = λ g e. none_some g e;
    }
