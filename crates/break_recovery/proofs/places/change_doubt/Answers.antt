use Rattle.std.proofs.Common.{true, reverse, sym, ap, subst, ◌∙◌}
use Rattle.c_tree.specs.Trees.{trees_of}
use Rattle.jump_meaning.specs.Code.{FunctionTree}
use Rattle.tidy_loops.specs.Slots.{Tells, counts_of}
use Rattle.tidy_loops.proofs.Results.{if_ok_more}
use Rattle.break_recovery.specs.Next.{next_at}
use Rattle.break_recovery.specs.Places.{behind, replaced, AreQuiet, AreQuietBut, IsFoundAt}
use Rattle.break_recovery.specs.Ways.{IsWayAt}
use Rattle.break_recovery.proofs.WaysSearched.{no_way}
use Rattle.break_recovery.proofs.Outermost.{some_none, none_found, one_found, before_doubt, doubt_gone}
use Rattle.break_recovery.proofs.Ways.{pair_is, pair_slot}
use Rattle.break_recovery.proofs.places.change_doubt.Goals as goal

pub returns-in-Some : goal.returns-in-Some
returns-in-Some c =
    let a = trees_of c.args.list.now in
    let s = c.args.start in
    let n = c.args.level in
    let u = c.new-inside.result in
    record {
      made = λ f h q. one_found f n s.doubt a (trees_of c.change_place.new.list) c.in_ok-change.change c.in-Some.slot
          (c.in_ok-change.ensures.made f h (no_way true f n (reverse u) (behind s.doubt a) (ap reverse c.new-inside.ensures))) c.in-Some.is
          (before_doubt f n s.doubt s.from a c.requires.place q.0);
      kept = λ e. some_none (c.in-Some.slot, s.doubt) e;
      way = λ x e f h d l z p.
          subst (λ j. IsWayAt c.change_place.new.sure h n (reverse c.change_place.new.way) (behind j (trees_of c.change_place.new.list)))
          (pair_is c.in-Some.slot s.doubt x e)
          (c.in_ok-change.ensures.way c.in-Some.slot c.in-Some.is f h d l (ap (counts_of h) (pair_slot c.in-Some.slot s.doubt x e) ∙ z)
          (no_way true f n (reverse u) (behind s.doubt a) (ap reverse c.new-inside.ensures)));
    }

pub returns-in-None : goal.returns-in-None
returns-in-None c =
    let a = trees_of c.args.list.now in
    let s = c.args.start in
    let n = c.args.level in
    let e = c.in_ok-change.ensures.kept c.in-None.is in
    let u = c.new-inside.result in
    let v = reverse c.args.way.now in
    let r : (f : FunctionTree) → Tells c.args.counts.now f → AreQuietBut f n s.doubt s.from a →
    AreQuiet f n s.from (trees_of c.change_place.new.list) = λ f h q.
    subst (λ xs. AreQuiet f n s.from (trees_of xs)) (sym e)
    (doubt_gone f n s.doubt s.from a
    (none_found (λ c. replaced s.doubt c a) c.in_ok-change.change (trees_of c.change_place.new.list) (next_at f n (behind s.doubt a))
    (c.in_ok-change.ensures.made f h (no_way true f n (reverse u) (behind s.doubt a) (ap reverse c.new-inside.ensures))) c.in-None.is) q) in
    let w : (f : FunctionTree) → IsWayAt c.args.sure.now f n v (behind s.from a) →
    IsWayAt c.args.sure.now f n v (behind s.from (trees_of c.change_place.new.list)) = λ f p.
    subst (λ xs. IsWayAt c.args.sure.now f n v (behind s.from (trees_of xs))) (sym e) p in
    record {
      made = if_ok_more c.change_behind.result _ _
          (λ it k f h q. subst (λ xs. IsFoundAt f n it (trees_of xs) (trees_of c.change_behind.new.list)) e (k f h (r f h q.0) (w f q.1)))
          c.change_behind.ensures.made;
      kept = if_ok_more c.change_behind.result _ _ (λ it k n. k n ∙ e) c.change_behind.ensures.kept;
      way = if_ok_more c.change_behind.result _ _ (λ it k x o f h d l z q. k x o f h d l z (r f d q.0, w f q.1)) c.change_behind.ensures.way;
    }
