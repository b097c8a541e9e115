use Rattle.std.proofs.Common.{subst, sym}
use Rattle.c_tree.specs.Trees.{trees_of}
use Rattle.break_recovery.specs.InARow.{closed}
use Rattle.break_recovery.proofs.Walks.{RowTo, stays, goes_more}
use Rattle.break_recovery.proofs.walk.walk_on.Goals as goal

pub steps-init : goal.steps-init
steps-init c =
    let w = c.args.walk.now in
    let s = c.args.counts.now in
    let a = trees_of (closed w.at w.next c.args.list.now) in (
      c.requires.place,
      (c.requires.within, (c.requires.known, subst (λ gs. RowTo c.args.level s s gs w.at w.at a a) (sym c.new-slots.ensures) (stays c.args.level s w.at a))),
    )

pub steps-preserved : goal.steps-preserved
steps-preserved c =
    let o = c.args.walk.now in
    let w = c.steps.walk in
    let v = c.step.new.walk in (
      c.in_ok-leads_on.ensures.within,
      (
        c.in_ok-leads_on.ensures.less,
        (
          c.in_ok-leads_on.ensures.known,
          goes_more c.args.level c.args.counts.now c.steps.counts c.step.new.counts c.steps.slots c.steps.slots c.step.new.slots o.at w.at v.at
              (trees_of (closed o.at o.next c.args.list.now)) (trees_of (closed w.at w.next c.steps.list)) (trees_of (closed v.at v.next c.step.new.list))
              c.steps.invariant.1.1.1 (c.in_ok-leads_on.ensures.row c.args.level c.in_ok-inside.ensures),
        ),
      ),
    )

pub returns-then-not-leads_on : goal.returns-then-not-leads_on
returns-then-not-leads_on c =
    let o = c.args.walk.now in
    let w = c.steps.walk in
    let v = c.step.new.walk in
    record {
      within = c.in_ok-leads_on.ensures.within;
      row = goes_more c.args.level c.args.counts.now c.steps.counts c.step.new.counts c.steps.slots c.steps.slots c.step.new.slots o.at
          w.at v.at (trees_of (closed o.at o.next c.args.list.now)) (trees_of (closed w.at w.next c.steps.list))
          (trees_of (closed v.at v.next c.step.new.list)) c.steps.invariant.1.1.1
          (c.in_ok-leads_on.ensures.row c.args.level c.in_ok-inside.ensures);
    }

pub returns : goal.returns
returns c = record { within = c.steps.invariant.0; row = c.steps.invariant.1.1.1 }

pub step-requires-clause-within : goal.step-requires-clause-within
step-requires-clause-within c = c.steps.invariant.1.0

pub step-requires-clause-known : goal.step-requires-clause-known
step-requires-clause-known c = c.steps.invariant.1.1.0
