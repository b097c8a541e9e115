use Rattle.std.proofs.Common.{drop, sym, ap, ◌∙◌}
use Rattle.c_tree.specs.Trees.{trees_of}
use Rattle.tidy_loops.specs.Slots.{count_in}
use Rattle.break_recovery.specs.Loops.{change_first}
use Rattle.break_recovery.specs.InARow.{closed}
use Rattle.break_recovery.proofs.HeldLaws.{still_held}
use Rattle.break_recovery.proofs.Walks.{on_ok_more, none_more}
use Rattle.break_recovery.proofs.walk.step.Goals as goal

pub returns-in-Some : goal.returns-in-Some
returns-in-Some c =
    let w = c.args.walk.now in
    let a = trees_of (drop w.at (closed w.at w.next c.args.list.now)) in
    record {
      known = c.change_held.ensures.known;
      less = c.change_held.ensures.less;
      within = c.change_held.ensures.within;
      row = λ n e. c.change_held.ensures.row n
          (sym c.in-Some.is ∙ c.in_ok-change.ensures ∙ ap (λ i. change_first (count_in c.args.counts.now) i a) e);
    }

pub returns-in-None : goal.returns-in-None
returns-in-None c =
    let w = c.args.walk.now in
    let v = c.pass.new.walk in
    record {
      known = on_ok_more c.pass.result _ _ (λ b. still_held c.args.holds.now.known c.args.list.now c.pass.new.list w.next v.next b.0 b.1 c.requires.known)
          c.pass.ensures.behind;
      less = c.pass.ensures.less;
      within = c.pass.ensures.within;
      row = λ n e. on_ok_more c.pass.result _ _
          (none_more n c.args.counts.now c.args.slots.now w.at v.at (trees_of (closed w.at w.next c.args.list.now))
          (trees_of (closed v.at v.next c.pass.new.list)))
          (c.pass.ensures.row n e (sym c.in-None.is ∙ c.in_ok-change.ensures));
    }

pub change_held-requires-clause-found : goal.change_held-requires-clause-found
change_held-requires-clause-found c = (c.args.level, sym c.in_ok-change.ensures ∙ c.in-Some.is)
