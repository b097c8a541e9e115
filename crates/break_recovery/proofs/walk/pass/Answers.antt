use Rattle.std.proofs.Common.{◌<◌, length, drop, get_or, sym, ap, subst, ◌∙◌, arith}
use Rattle.c_tree.specs.Trees.{trees_of}
use Rattle.break_recovery.specs.InARow.{closed}
use Rattle.break_recovery.proofs.HeldLaws.{same_list}
use Rattle.break_recovery.proofs.Walks.{slice_there, stays, passed}
use Rattle.c_tree.specs.Views.{tree_at}
use Rattle.tidy_loops.specs.Slots.{count_in}
use Rattle.break_recovery.specs.Within.{IsWithin}
use Rattle.break_recovery.proofs.Within.{lists_within}
use Rattle.break_recovery.proofs.WithinAfter.{walk_apart}
use Rattle.break_recovery.proofs.walk.pass.Goals as goal

pub returns-then-walk-len : goal.returns-then-walk-len
returns-then-walk-len c = record {
  behind = (omega arith, same_list c.args.walk.now.next c.args.list.now);
  less = c.requires.within;
  within = c.requires.place;
  row = λ n e k. stays n c.args.counts.now c.args.walk.now.at (trees_of (closed c.args.walk.now.at c.args.walk.now.next c.args.list.now));
}

pub returns-then-not-quiet : goal.returns-then-not-quiet
returns-then-not-quiet c = record {
  behind = (omega arith, same_list c.args.walk.now.next c.args.list.now);
  less = c.requires.within;
  within = c.requires.place;
  row = λ n e k. stays n c.args.counts.now c.args.walk.now.at (trees_of (closed c.args.walk.now.at c.args.walk.now.next c.args.list.now));
}

pub returns : goal.returns
returns c =
    let xs = c.args.list.now in
    let w = c.args.walk.now in
    let x = c.index-as_slice-at.result in
    let h : w.at < length xs = omega (arith, c.requires.place) in
    record {
      behind = c.move_on.ensures.behind;
      less = subst (λ z. IsWithin (count_in c.args.counts.now) (trees_of z)) (sym c.move_on.ensures.same) c.requires.within;
      within = c.move_on.ensures.within;
      row = λ n e k. passed n w.at w.next c.args.counts.now xs (closed c.move_on.new.walk.at c.move_on.new.walk.next c.move_on.new.list) x
          c.move_on.new.walk.at c.requires.place.0 c.requires.place.1
          (slice_there xs w.at x h (c.index-as_slice-at.is ∙ ap (λ z. get_or z w.at x) c.as_slice.ensures.value)) c.args.level e
          c.move_on.ensures.same c.move_on.ensures.place k (c.in_ok-quiet.ensures c.if-not-quiet.false);
    }

pub item_is_quiet-requires : goal.item_is_quiet-requires
item_is_quiet-requires c =
    let xs = c.args.list.now in
    let w = c.args.walk.now in
    let x = c.index-as_slice-at.result in
    let h : w.at < length xs = omega (arith, c.requires.place) in
    lists_within (count_in c.args.counts.now) (tree_at x) (trees_of (drop w.next xs))
    (walk_apart (count_in c.args.counts.now) w.at w.next xs x c.requires.place.0 c.requires.place.1
    (slice_there xs w.at x h (c.index-as_slice-at.is ∙ ap (λ z. get_or z w.at x) c.as_slice.ensures.value)) c.requires.within)
