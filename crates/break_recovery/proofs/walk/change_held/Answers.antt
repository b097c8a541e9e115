use Rattle.std.proofs.Common.{◌<◌, length, get_or, sym, ap, subst, ◌∙◌, arith}
use Rattle.c_tree.specs.Trees.{trees_of}
use Rattle.c_tree.specs.Views.{tree_at}
use Rattle.tidy_loops.specs.Slots.{count_in}
use Rattle.break_recovery.specs.InARow.{closed}
use Rattle.break_recovery.specs.Exits.{HoldsAtMost}
use Rattle.break_recovery.proofs.HeldLaws.{held_left, still_held}
use Rattle.break_recovery.proofs.Walks.{slice_there, stays_more, changed}
use Rattle.break_recovery.proofs.WithinAfter.{within_after, walk_holds, walk_counts}
use Rattle.break_recovery.proofs.walk.change_held.Goals as goal

pub returns-then-not-held : goal.returns-then-not-held
returns-then-not-held c =
    let w = c.args.walk.now in
    record {
      known = c.in_ok-held.ensures.known;
      less = c.requires.within;
      within = c.requires.place;
      row = λ n k. stays_more n c.args.counts.now c.args.slots.now w.at (trees_of (closed w.at w.next c.args.list.now));
    }

pub returns : goal.returns
returns c =
    let xs = c.args.list.now in
    let w = c.args.walk.now in
    let v = c.make.new.walk in
    let x = c.index-as_slice-at.result in
    let h : w.at < length xs = omega (arith, c.requires.place) in
    record {
      known = still_held c.are_held.new.holds.known xs c.make.new.list w.next v.next c.in_ok-make.ensures.behind.0 c.in_ok-make.ensures.behind.1
          c.in_ok-held.ensures.known;
      less = within_after c.args.counts.now c.args.change c.slot_of-slot.result (closed w.at w.next xs) (closed v.at v.next c.make.new.list) w.at
          c.forget.new.counts c.slot_of-slot.ensures c.forget.ensures c.in_ok-make.ensures.made c.requires.within;
      within = c.in_ok-make.ensures.within;
      row = λ n k. changed n w.at w.next c.args.counts.now xs (closed v.at v.next c.make.new.list) x v.at c.requires.place.0 c.requires.place.1
          (slice_there xs w.at x h (c.index-as_slice-at.is ∙ ap (λ z. get_or z w.at x) c.as_slice.ensures.value)) c.forget.new.counts
          c.args.slots.now c.push.new.self c.slot_of-slot.result c.args.change k c.slot_of-slot.ensures
          (held_left c.args.counts.now c.args.change (tree_at x) c.in_ok-turned.turned xs w.next c.in_ok-turned.ensures
          (c.in_ok-held.ensures.held c.if-not-held.false))
          c.in_ok-make.ensures.place c.in_ok-make.ensures.made c.forget.ensures c.in_ok-push.ensures.ok;
    }

pub turned_by-requires : goal.turned_by-requires
turned_by-requires c =
    let xs = c.args.list.now in
    let w = c.args.walk.now in
    let x = c.index-as_slice-at.result in
    let h : w.at < length xs = omega (arith, c.requires.place) in
    let e = slice_there xs w.at x h (c.index-as_slice-at.is ∙ ap (λ z. get_or z w.at x) c.as_slice.ensures.value) in
    subst (λ m. HoldsAtMost c.args.change m (tree_at x)) (sym c.exits_of-exits.ensures)
    (walk_holds (count_in c.args.counts.now) c.requires.found.0 w.at w.next xs x c.args.change c.requires.place.0 c.requires.place.1 e c.requires.within
    c.requires.found.1)

pub are_held-requires-clause-most : goal.are_held-requires-clause-most
are_held-requires-clause-most c =
    let w = c.args.walk.now in
    walk_counts (count_in c.args.counts.now) w.at w.next c.args.list.now c.requires.place.0 c.requires.place.1 c.requires.within

pub make-requires-clause-exits : goal.make-requires-clause-exits
make-requires-clause-exits c = λ x e.
    let xs = c.args.list.now in
    let w = c.args.walk.now in
    subst (λ m. HoldsAtMost c.args.change m (tree_at x)) (sym c.exits_of-exits.ensures)
    (walk_holds (count_in c.args.counts.now) c.requires.found.0 w.at w.next xs x c.args.change c.requires.place.0 c.requires.place.1 e c.requires.within
    c.requires.found.1)
