use Rattle.std.proofs.Common.{◌≤◌, ◌+◌, length, reverse, refl, ap, subst, ◌∙◌, arith}
use Rattle.c_tree.specs.Trees.{trees_of}
use Rattle.tidy_loops.specs.Slots.{counts_of}
use Rattle.break_recovery.specs.Next.{next_at}
use Rattle.break_recovery.specs.Places.{behind, replaced}
use Rattle.break_recovery.specs.Ways.{IsWayAt}
use Rattle.break_recovery.proofs.NothingBefore.{none_some}
use Rattle.break_recovery.proofs.WaysSearched.{no_way}
use Rattle.break_recovery.proofs.Outermost.{some_none, none_found, one_found, more_quiet, all_quiet}
use Rattle.break_recovery.proofs.Ways.{place_in, place_told, pair_is, pair_slot}
use Rattle.break_recovery.proofs.places.change_behind.Goals as goal

pub loop-i-init : goal.loop-i-init
loop-i-init c = (refl, λ f h q p. (q, p))

pub loop-i-preserved : goal.loop-i-preserved
loop-i-preserved c =
    let xs = c.args.list.now in
    let i = c.loop-i.i in
    let n = c.args.level in
    let q = c.loop-i.invariant.0 in (
      c.in_ok-change.ensures.kept c.in-None.is ∙ q,
      λ f h g p.
          let v = c.loop-i.invariant.1 f h g p in (
            more_quiet f n i (trees_of xs)
                (none_found (λ c. replaced i c (trees_of xs)) c.in_ok-change.change (trees_of c.change_place.new.list) (next_at f n (behind i (trees_of xs)))
                (place_told f n i xs c.loop-i.list c.in_ok-change.change (trees_of c.change_place.new.list) q
                (c.in_ok-change.ensures.made f h (place_in c.loop-i.sure f n i xs c.loop-i.list (reverse c.loop-i.way) q v.1))) c.in-None.is) v.0,
            no_way c.change_place.new.sure f n (reverse c.new.result) (behind (i + 1) (trees_of xs)) (ap reverse c.new.ensures),
          ),
    )

pub returns-in-Some : goal.returns-in-Some
returns-in-Some c =
    let xs = c.args.list.now in
    let i = c.loop-i.i in
    let n = c.args.level in
    let q = c.loop-i.invariant.0 in
    let ys = c.change_place.new.list in
    record {
      made = λ f h g p.
          let v = c.loop-i.invariant.1 f h g p in
          one_found f n i (trees_of xs) (trees_of ys) c.in_ok-change.change c.in-Some.slot
          (place_told f n i xs c.loop-i.list c.in_ok-change.change (trees_of ys) q
          (c.in_ok-change.ensures.made f h (place_in c.loop-i.sure f n i xs c.loop-i.list (reverse c.loop-i.way) q v.1))) c.in-Some.is v.0;
      kept = λ e. some_none (c.in-Some.slot, i) e;
      way = λ x e f h d l z p.
          let v = c.loop-i.invariant.1 f d p.0 p.1 in
          let r = pair_is c.in-Some.slot i x e in
          subst (λ j. IsWayAt c.change_place.new.sure h n (reverse c.change_place.new.way) (behind j (trees_of ys))) r
          (c.in_ok-change.ensures.way c.in-Some.slot c.in-Some.is f h d l (ap (counts_of h) (pair_slot c.in-Some.slot i x e) ∙ z)
          (place_in c.loop-i.sure f n i xs c.loop-i.list (reverse c.loop-i.way) q v.1));
    }

pub returns : goal.returns
returns c =
    let xs = c.args.list.now in
    let q = c.loop-i.invariant.0 in
    let l : length xs ≤ c.loop-i.i = omega (arith, c.loop-i-test.false, c.len.ensures.value, ap length q) in
    record {
      made = λ f h g p. all_quiet f c.args.level xs c.loop-i.i l (c.loop-i.invariant.1 f h g p).0;
      kept = λ e. q;
      way = λ x e. none_some x e;
    }
