use mathlib.Core.Path.{ap₂}
use Rattle.std.proofs.Common.{◌≡◌, suc, ◌+◌, ◌<◌, ◌≤◌, inl, inr, None, length, take, drop, slice_get, slice_set, reverse, refl, sym, ap, subst, ◌∙◌, arith}
use Rattle.c_tree.specs.declared.tree.Item.{If, While, Do, For, Switch, Block}
use Rattle.c_tree.specs.Trees.{trees_of, sections_of, join}
use Rattle.c_tree.proofs.PathLemmas.{set_same}
use Rattle.tidy_loops.proofs.Results.{if_ok_more}
use Rattle.break_recovery.specs.Next.{put, next_list, next_at, next_here, changed_to}
use Rattle.tidy_loops.proofs.Sizes.{items, items_in, of_if, of_while, of_do, of_for, of_switch, of_block, item_within, section_within}
use Rattle.break_recovery.specs.Places.{behind, replaced}
use Rattle.break_recovery.specs.Steady.{AreAlike, AreAlikeOf, AreSectionsAlike, IsAlike}
use Rattle.break_recovery.specs.Ways.{list_there, IsWay, IsWayAt, IsWayOf, IsWayThrough}
use Rattle.c_tree.specs.Views.{tree_at}
use Rattle.jump_meaning.specs.Code.{FunctionTree}
use Rattle.tidy_loops.specs.Slots.{Tells}
use Rattle.c_tree.specs.Paths.{list_of}
use Rattle.break_recovery.proofs.NothingBefore.{none_next, none_some}
use Rattle.break_recovery.proofs.WaysSearched.{no_way, step_in_first, step_in_second, step_in_sections}
use Rattle.break_recovery.proofs.Outermost.{none_found, more_quiet, all_quiet}
use Rattle.break_recovery.proofs.Ways.{way_told, no_way_of_list, list_stepped, premise_at, at_told, list_found, list_way, item_in, nothing_made, second_alone, first_out, second_out, if_in, if_out, while_in, while_out, do_in, do_out, for_in, for_out, switch_out, block_in, block_out, more_quiet_sections, list_there_is, section_way, switch_in}
use Rattle.break_recovery.proofs.Likeness.{if_ok_both, alike_set, sections_alike, said_more, was_asked, item_goes_in, if_is_alike, while_is_alike, do_is_alike, for_is_alike, switch_is_alike, block_is_alike}
use Rattle.break_recovery.proofs.Steps.{section_found, sections_end, an_entry, no_answer, a_slot, an_answer, item_changed, entry_is, here_found, no_here, first_changed, if_changed, while_changed, do_changed, for_changed, switch_changed, block_changed, leaf_stays, section_changed, quiet_go}
use Rattle.c_tree.proofs.Views.{at-If, at-While, at-Do, at-For, at-Switch, at-Block}
use Rattle.tidy_loops.specs.Slots.{count_in}
use Rattle.break_recovery.proofs.Within.{within_apart}
use Rattle.break_recovery.specs.Within.{IsWithin, AreWithin, AreSectionsWithin}
use Rattle.break_recovery.proofs.Within.{in_list, section_in}
use Rattle.break_recovery.proofs.search.+search.Goals as goal

pub change_list-loop-i-init : goal.change_list-loop-i-init
change_list-loop-i-init t c = (refl, λ f h q. q)

pub change_list-change_at-requires : goal.change_list-change_at-requires
change_list-change_at-requires t c =
    let e = ap (λ xs. items (trees_of xs)) c.loop-i.invariant.0 in
    let l : c.loop-i.i < length c.loop-i.list = omega (arith, c.loop-i-test.true, c.len.ensures.value) in
    (omega (arith, e, c.decreases), (l, subst (λ ys. IsWithin (count_in c.args.counts.now) (trees_of ys)) (sym c.loop-i.invariant.0) c.requires))

pub change_list-loop-i-preserved : goal.change_list-loop-i-preserved
change_list-loop-i-preserved t c =
    let xs = c.args.list.now in
    let i = c.loop-i.i in
    let n = c.args.level in
    let q = c.loop-i.invariant.0 in
    let o = no_answer c.in_ok-change.change (sym c.is_some.ensures ∙ c.if-is_some.false) in (
      c.in_ok-change.ensures.kept o ∙ q,
      λ f h p.
          let v = c.loop-i.invariant.1 f h p in
          let k = c.in_ok-change.ensures.made f h (premise_at c.loop-i.sure f n c.in_ok-inside.inside i xs c.loop-i.list (reverse c.loop-i.way)
          c.in_ok-inside.ensures q v.1) in (
            more_quiet f (suc n) i (trees_of xs)
                (none_found (λ c. replaced i c (trees_of xs)) c.in_ok-change.change (trees_of c.change_at.new.list) (next_at f (suc n) (behind i (trees_of xs)))
                (at_told f n c.in_ok-inside.inside i xs c.loop-i.list c.in_ok-change.change (trees_of c.change_at.new.list) c.in_ok-inside.ensures q k) o) v.0,
            no_way c.change_at.new.sure f (suc n) (reverse c.new.result) (trees_of (drop (i + 1) xs)) (ap reverse c.new.ensures),
          ),
    )

pub change_list-returns-then-is_some : goal.change_list-returns-then-is_some
change_list-returns-then-is_some t c =
    let xs = c.args.list.now in
    let i = c.loop-i.i in
    let n = c.args.level in
    let m = c.in_ok-inside.inside in
    let e = c.in_ok-inside.ensures in
    let q = c.loop-i.invariant.0 in
    let ys = c.change_at.new.list in
    let s = c.in_ok-change.change in
    let o = sym c.is_some.ensures ∙ c.if-is_some.true in
    record {
      made = λ f h p.
          let v = c.loop-i.invariant.1 f h
          (list_stepped c.args.sure.now f n c.next_step-i.result (reverse c.args.way.now) (reverse c.next_step-i.new.way) xs c.next_step-i.ensures p) in
          list_found f n i (trees_of xs) (trees_of ys) s o
          (at_told f n m i xs c.loop-i.list s (trees_of ys) e q
          (c.in_ok-change.ensures.made f h (premise_at c.loop-i.sure f n m i xs c.loop-i.list (reverse c.loop-i.way) e q v.1))) v.0;
      kept = an_answer s o;
      alike = said_more s c.change_at.new.sure (λ g. AreAlike c.args.counts.now g (trees_of c.loop-i.list) (trees_of ys))
          (λ g. AreAlike c.args.counts.now g (trees_of xs) (trees_of ys))
          (λ g. subst (λ zs. AreAlike c.args.counts.now g (trees_of zs) (trees_of ys)) q) c.in_ok-change.ensures.alike;
      way = λ g r f h d l z p.
          let v = c.loop-i.invariant.1 f d
          (list_stepped c.args.sure.now f n c.next_step-i.result (reverse c.args.way.now) (reverse c.next_step-i.new.way) xs c.next_step-i.ensures p) in
          let u = premise_at c.loop-i.sure f n m i xs c.loop-i.list (reverse c.loop-i.way) e q v.1 in
          list_way c.change_at.new.sure f h l n m g i xs ys s c.push.new.self c.change_at.new.way e r
          (at_told f n m i xs c.loop-i.list s (trees_of ys) e q (c.in_ok-change.ensures.made f d u)) v.0
          c.in_ok-push.ensures.ok (c.in_ok-change.ensures.way g r f h d l z u);
    }

pub change_list-returns : goal.change_list-returns
change_list-returns t c =
    let xs = c.args.list.now in
    let n = c.args.level in
    let q = c.loop-i.invariant.0 in
    let l : length xs ≤ c.loop-i.i = omega (arith, c.loop-i-test.false, c.len.ensures.value, ap length q) in
    record {
      made = λ f h p. sym (none_next f n (trees_of xs) (all_quiet f (suc n) xs c.loop-i.i l (c.loop-i.invariant.1 f h
          (list_stepped c.args.sure.now f n c.next_step-i.result (reverse c.args.way.now) (reverse c.next_step-i.new.way) xs c.next_step-i.ensures p)).0));
      kept = λ e. q;
      alike = λ g e. none_some g e;
      way = λ g e. none_some g e;
    }

pub change_at-change_asked-requires : goal.change_at-change_asked-requires
change_at-change_asked-requires t c = (omega (arith, c.decreases), (c.requires.place, c.requires.within))

pub change_at-change_within-requires : goal.change_at-change_within-requires
change_at-change_within-requires t c = (omega (arith, c.decreases), (c.requires.place, c.requires.within))

pub change_at-returns-then-was_asked : goal.change_at-returns-then-was_asked
change_at-returns-then-was_asked t c =
    let a = trees_of (drop c.args.at c.args.list.now) in
    let o = c.was_asked.ensures c.if-was_asked.true in
    let u = was_asked c.args.sure.now in
    record {
      made = if_ok_more c.change_within.result _ _
          (λ it k f h p. k f h (u f c.args.level c.args.way.now a o.0 o.1 p) p) c.change_within.ensures.made;
      kept = c.change_within.ensures.kept;
      alike = c.change_within.ensures.alike;
      way = if_ok_more c.change_within.result _ _
          (λ it k g r f h d l z p. k g r f h d l z (u f c.args.level c.args.way.now a o.0 o.1 p, p)) c.change_within.ensures.way;
    }

pub change_asked-returns-then-is_some : goal.change_asked-returns-then-is_some
change_asked-returns-then-is_some t c =
    let xs = c.args.list.now in
    let ys = c.change_here.new.list in
    let at = c.args.at in
    let x = an_entry xs at c.requires.place in
    let s = c.in_ok-here.here in
    let n = sym c.is_some.ensures ∙ c.if-is_some.true in
    record {
      made = λ f h p. here_found xs at x.0 f c.args.level _ c.requires.place x.1 (c.in_ok-here.ensures.made f h) (a_slot s (trees_of ys) n);
      kept = an_answer s n;
      alike = c.in_ok-here.ensures.alike;
      way = λ g r f h d l z p. no_way c.change_here.new.sure h c.args.level (reverse c.new.result) (trees_of (drop at ys)) (ap reverse c.new.ensures);
    }

pub change_asked-change_within-requires : goal.change_asked-change_within-requires
change_asked-change_within-requires t c =
    let q = (c.in_ok-here.ensures.kept (no_answer c.in_ok-here.here (sym c.is_some.ensures ∙ c.if-is_some.false))).0 in
    let e = ap (λ xs. items (trees_of xs)) q in (
      omega (arith, e, c.decreases),
      (omega (arith, c.requires.place, ap length q), subst (λ zs. IsWithin (count_in c.args.counts.now) (trees_of zs)) (sym q) c.requires.within),
    )

pub change_asked-returns : goal.change_asked-returns
change_asked-returns t c =
    let xs = c.args.list.now in
    let ys = c.change_here.new.list in
    let at = c.args.at in
    let n = c.args.level in
    let s = c.in_ok-here.here in
    let way = reverse c.args.way.now in
    let sure = c.change_here.new.sure in
    let o = sym c.is_some.ensures ∙ c.if-is_some.false in
    let q = c.in_ok-here.ensures.kept (no_answer s o) in
    let u : (f : FunctionTree) → Tells c.args.counts.now f → next_here f n (trees_of (drop at ys)) ≡ None = λ f h.
    ap (λ zs. next_here f n (trees_of (drop at zs))) q.0 ∙ no_here xs at f n s (trees_of ys) (c.in_ok-here.ensures.made f h) o in
    let v : (f : FunctionTree) → IsWayAt c.args.sure.now f n way (trees_of (drop at xs)) → IsWayAt sure f n way (trees_of (drop at ys)) = λ f p.
    subst (λ b. IsWayAt b f n way (trees_of (drop at ys))) (sym q.1) (subst (λ zs. IsWayAt c.args.sure.now f n way (trees_of (drop at zs))) (sym q.0) p) in
    let r = trees_of c.change_within.new.list in
    record {
      made = if_ok_more c.change_within.result _ _
          (λ it k f h p. k f h (u f h) (v f p) ∙ ap (λ zs. put (join (trees_of (take at zs))) (next_at f n (trees_of (drop at zs)))) q.0)
          c.change_within.ensures.made;
      kept = if_ok_more c.change_within.result _ _ (λ it k e. k e ∙ q.0) c.change_within.ensures.kept;
      alike = if_ok_more c.change_within.result _ _
          (λ it k. said_more it c.change_within.new.sure (λ g. AreAlike c.args.counts.now g (trees_of ys) r) (λ g. AreAlike c.args.counts.now g (trees_of xs) r)
          (λ g. subst (λ zs. AreAlike c.args.counts.now g (trees_of zs) r) q.0) k)
          c.change_within.ensures.alike;
      way = if_ok_more c.change_within.result _ _ (λ it k g e f h d l z p. k g e f h d l z (u f d, v f p)) c.change_within.ensures.way;
    }

pub change_within-change_item-requires : goal.change_within-change_item-requires
change_within-change_item-requires t c =
    let xs = c.args.list.now in
    let x = c.at_mut.result.now in
    let n = item_within xs c.args.at x c.at_mut.ensures.value in (
      omega (arith, n, c.decreases),
      in_list (count_in c.args.counts.now) xs c.args.at x c.requires.place (entry_is xs c.args.at x c.at_mut.ensures.value) c.requires.within,
    )

pub change_within-returns : goal.change_within-returns
change_within-returns t c =
    let xs = c.args.list.now in
    let at = c.args.at in
    let n = c.args.level in
    let v = reverse c.args.way.now in
    let x = c.at_mut.result.now in
    let y = c.change_item.new.item in
    let w = reverse c.change_item.new.way in
    let sure = c.change_item.new.sure in
    let e = entry_is xs at x c.at_mut.ensures.value in
    let i = item_in c.args.sure.now in
    record {
      made = if_ok_more c.change_item.result _ _
          (λ it k f h o p. item_changed xs at x c.requires.place e f n y it o (k f h (i f n at v xs xs x c.requires.place e refl p)))
          c.change_item.ensures.made;
      kept = if_ok_more c.change_item.result _ _ (λ it k i. ap (slice_set xs at) (k i) ∙ set_same xs at x c.at_mut.ensures.value) c.change_item.ensures.kept;
      alike = if_ok_more c.change_item.result _ _
          (λ it k. said_more it sure (λ g. IsAlike c.args.counts.now g (tree_at x) (tree_at y))
          (λ g. AreAlike c.args.counts.now g (trees_of xs) (trees_of (slice_set xs at y)))
          (λ g. alike_set c.args.counts.now g xs at x y c.requires.place e) k)
          c.change_item.ensures.alike;
      way = if_ok_both c.change_item.result _ _ _
          (λ it a k g r f h d l z p. item_goes_in sure f h g l z n at w xs x y c.requires.place e c.args.counts.now (a g r) d
          (within_apart (count_in c.args.counts.now) (trees_of xs) c.requires.within) p.0
          (k g r f h d l z (i f n at v xs xs x c.requires.place e refl p.1)))
          c.change_item.ensures.alike c.change_item.ensures.way;
    }

pub change_either-change_second-requires : goal.change_either-change_second-requires
change_either-change_second-requires t c = (omega (arith, c.decreases), c.requires.1)

pub change_either-change_list-requires : goal.change_either-change_list-requires
change_either-change_list-requires t c = (omega (arith, c.decreases), c.requires.0)

pub change_either-change_second-requires-2 : goal.change_either-change_second-requires-2
change_either-change_second-requires-2 t c = (omega (arith, c.decreases), c.requires.1)

pub change_either-returns-then-next_step-gt0 : goal.change_either-returns-then-next_step-gt0
change_either-returns-then-next_step-gt0 t c =
    let n = c.args.level in
    let a = trees_of c.args.first.now in
    let b = trees_of c.args.second.now in
    let k = c.next_step.result in
    let v = reverse c.args.way.now in
    let w = reverse c.next_step.new.way in
    let z = c.if-next_step-gt0.true in
    let r = trees_of c.change_second.new.second in
    let u = reverse c.change_second.new.way in
    record {
      made = if_ok_more c.change_second.result _ _
          (λ it m f h p.
          let u = step_in_second c.args.sure.now f n k v w a b z c.next_step.ensures p in
          second_alone f n a b r it u.0 (m f h u.1)) c.change_second.ensures.made;
      kept = if_ok_more c.change_second.result _ _ (λ it m e. (refl, m e)) c.change_second.ensures.kept;
      alike = if_ok_more c.change_second.result _ _
          (λ it m. said_more it c.change_second.new.sure (λ g. AreAlike c.args.counts.now g b r) (λ g. AreAlikeOf c.args.counts.now g a b a r)
          (λ g q. inr (refl, q)) m)
          c.change_second.ensures.alike;
      way = if_ok_more c.change_second.result _ _
          (λ it m g e f h d l y p.
          let i = step_in_second c.args.sure.now f n k v w a b z c.next_step.ensures p in
          second_out c.change_second.new.sure f h l n u a r i.0 (m g e f h d l y i.1)) c.change_second.ensures.way;
    }

pub change_either-returns-then-is_some : goal.change_either-returns-then-is_some
change_either-returns-then-is_some t c =
    let n = c.args.level in
    let a = trees_of c.args.first.now in
    let b = trees_of c.args.second.now in
    let k = c.next_step.result in
    let v = reverse c.args.way.now in
    let w = reverse c.next_step.new.way in
    let s = c.in_ok-change.change in
    let o = sym c.is_some.ensures ∙ c.if-is_some.true in
    let z : k ≡ 0 = omega (arith, c.if-next_step-gt0.false) in
    let r = trees_of c.change_list.new.list in
    let u = c.change_list.new.sure in
    record {
      made = λ f h p. first_changed f n a b r s (c.in_ok-change.ensures.made f h (step_in_first c.args.sure.now f n k v w a b z c.next_step.ensures p)) o;
      kept = an_answer s o;
      alike = said_more s u (λ g. AreAlike c.args.counts.now g a r) (λ g. AreAlikeOf c.args.counts.now g a b r b)
          (λ g q. inl (q, refl)) c.in_ok-change.ensures.alike;
      way = λ g e f h d l y p. first_out u h n c.push.new.self c.change_list.new.way r b c.in_ok-push.ensures.ok
          (c.in_ok-change.ensures.way g e f h d l y (step_in_first c.args.sure.now f n k v w a b z c.next_step.ensures p));
    }

pub change_either-returns : goal.change_either-returns
change_either-returns t c =
    let n = c.args.level in
    let a = trees_of c.args.first.now in
    let b = trees_of c.args.second.now in
    let k = c.next_step.result in
    let v = reverse c.args.way.now in
    let w = reverse c.next_step.new.way in
    let o = no_answer c.in_ok-change.change (sym c.is_some.ensures ∙ c.if-is_some.false) in
    let z : k ≡ 0 = omega (arith, c.if-next_step-gt0.false) in
    let q = c.in_ok-change.ensures.kept o in
    let r = trees_of c.change_second-2.new.second in
    let u = reverse c.change_second-2.new.way in
    let none : (f : FunctionTree) → Tells c.args.counts.now f → IsWayOf c.args.sure.now f n v a b → next_list f n a ≡ None = λ f h p.
    nothing_made c.in_ok-change.change (trees_of c.change_list.new.list) (next_list f n a) o
    (c.in_ok-change.ensures.made f h (step_in_first c.args.sure.now f n k v w a b z c.next_step.ensures p)) in
    record {
      made = if_ok_more c.change_second-2.result _ _
          (λ it m f h p. ap (λ xs. changed_to it (trees_of xs, r)) q
          ∙ second_alone f n a b r it (none f h p) (m f h (no_way_of_list c.change_list.new.sure f n c.new.result b c.new.ensures)))
          c.change_second-2.ensures.made;
      kept = if_ok_more c.change_second-2.result _ _ (λ it m e. (q, m e)) c.change_second-2.ensures.kept;
      alike = if_ok_more c.change_second-2.result _ _
          (λ it m. said_more it c.change_second-2.new.sure (λ g. AreAlike c.args.counts.now g b r)
          (λ g. AreAlikeOf c.args.counts.now g a b (trees_of c.change_list.new.list) r)
          (λ g p. inr (ap trees_of q, p)) m) c.change_second-2.ensures.alike;
      way = if_ok_more c.change_second-2.result _ _
          (λ it m g e f h d l y p. subst (λ xs. IsWayOf c.change_second-2.new.sure h n u (trees_of xs) r) (sym q)
          (second_out c.change_second-2.new.sure f h l n u a r (none f d p)
          (m g e f h d l y (no_way_of_list c.change_list.new.sure f n c.new.result b c.new.ensures)))) c.change_second-2.ensures.way;
    }

pub change_second-change_list-requires : goal.change_second-change_list-requires
change_second-change_list-requires t c = (omega (arith, c.decreases), c.requires)

pub change_second-returns-then-is_some : goal.change_second-returns-then-is_some
change_second-returns-then-is_some t c =
    let o = sym c.is_some.ensures ∙ c.if-is_some.true in
    record {
      made = c.in_ok-change.ensures.made;
      kept = an_answer c.in_ok-change.change o;
      alike = c.in_ok-change.ensures.alike;
      way = λ g r f h d l z p. (
        reverse c.change_list.new.way,
        way_told c.push.new.self c.change_list.new.way 1 c.in_ok-push.ensures.ok,
        c.in_ok-change.ensures.way g r f h d l z p,
      );
    }

pub change_second-returns : goal.change_second-returns
change_second-returns t c =
    let o = no_answer c.in_ok-change.change (sym c.is_some.ensures ∙ c.if-is_some.false) in
    record {
      made = λ f h p. ap (λ s. changed_to s (trees_of c.change_list.new.list)) (sym o) ∙ c.in_ok-change.ensures.made f h p;
      kept = λ e. c.in_ok-change.ensures.kept o;
      alike = λ g e. none_some g e;
      way = λ g e. none_some g e;
    }

pub change_section-change_list-requires : goal.change_section-change_list-requires
change_section-change_list-requires t c = (omega (arith, c.decreases), c.requires)

pub change_sections-loop-i-init : goal.change_sections-loop-i-init
change_sections-loop-i-init t c = (refl, λ f h q. q)

pub change_sections-change_section-requires : goal.change_sections-change_section-requires
change_sections-change_section-requires t c =
    let e = ap (λ cs. items_in (sections_of cs)) c.loop-i.invariant.0 in
    let n = section_within c.loop-i.sections c.loop-i.i c.at_mut.result.now c.at_mut.ensures.value in
    let l : c.loop-i.i < length c.loop-i.sections = omega (arith, c.loop-i-test.true, c.len.ensures.value) in (
      omega (arith, e, n, c.decreases),
      section_in (count_in c.args.counts.now) c.loop-i.sections c.loop-i.i c.at_mut.result.now l
          (entry_is c.loop-i.sections c.loop-i.i c.at_mut.result.now c.at_mut.ensures.value)
          (subst (λ cs. AreSectionsWithin (count_in c.args.counts.now) (sections_of cs)) (sym c.loop-i.invariant.0) c.requires),
    )

pub change_sections-loop-i-preserved : goal.change_sections-loop-i-preserved
change_sections-loop-i-preserved t c =
    let cs = c.args.sections.now in
    let ds = c.loop-i.sections in
    let i = c.loop-i.i in
    let n = c.args.level in
    let q = c.loop-i.invariant.0 in
    let s = c.at_mut.result.now in
    let l : i < length cs = omega (arith, c.loop-i-test.true, c.len.ensures.value, ap length q) in
    let g = ap (λ ys. slice_get ys i) (sym q) ∙ c.at_mut.ensures.value in
    let o = no_answer c.in_ok-change.change (sym c.is_some.ensures ∙ c.if-is_some.false) in (
      ap (slice_set ds i) (c.in_ok-change.ensures.kept o) ∙ set_same ds i s c.at_mut.ensures.value ∙ q,
      λ f h p.
          let v = c.loop-i.invariant.1 f h p in (
            more_quiet_sections f n i cs s l (entry_is cs i s g)
                (nothing_made c.in_ok-change.change (trees_of (list_of c.change_section.new.section)) (next_list f n (trees_of (list_of s))) o
                (c.in_ok-change.ensures.made f h (subst (IsWay c.loop-i.sure f n (reverse c.loop-i.way)) (list_there_is i cs s l (entry_is cs i s g))
                v.1))) v.0,
            no_way_of_list c.change_section.new.sure f n c.new.result (list_there (i + 1) (sections_of cs)) c.new.ensures,
          ),
    )

pub change_sections-returns-then-is_some : goal.change_sections-returns-then-is_some
change_sections-returns-then-is_some t c =
    let cs = c.args.sections.now in
    let i = c.loop-i.i in
    let n = c.args.level in
    let q = c.loop-i.invariant.0 in
    let s = c.at_mut.result.now in
    let l : i < length cs = omega (arith, c.loop-i-test.true, c.len.ensures.value, ap length q) in
    let found = ap (λ ys. slice_get ys i) (sym q) ∙ c.at_mut.ensures.value in
    let o = sym c.is_some.ensures ∙ c.if-is_some.true in
    let r = c.change_section.new.section in
    let k = c.in_ok-change.change in
    let u = c.change_section.new.sure in
    record {
      made = λ f h p.
          let v = c.loop-i.invariant.1 f h
          (step_in_sections c.args.sure.now f n c.next_step-i.result (reverse c.args.way.now) (reverse c.next_step-i.new.way) (sections_of cs)
          c.next_step-i.ensures p) in
          ap (λ ys. changed_to c.in_ok-change.change (sections_of (slice_set ys i r))) q
          ∙ section_found f n cs i s _ l (entry_is cs i s found)
          (section_changed f n cs i s r c.in_ok-change.change l c.in_ok-change.ensures.rest
          (c.in_ok-change.ensures.made f h (subst (IsWay c.loop-i.sure f n (reverse c.loop-i.way)) (list_there_is i cs s l (entry_is cs i s found)) v.1)))
          (a_slot c.in_ok-change.change (sections_of (slice_set cs i r)) o) (quiet_go f n i cs v.0);
      kept = an_answer c.in_ok-change.change o;
      alike = said_more k u (λ g. AreAlike c.args.counts.now g (trees_of (list_of s)) (trees_of (list_of r)))
          (λ g. AreSectionsAlike c.args.counts.now g (sections_of cs) (sections_of (slice_set c.loop-i.sections i r)))
          (λ g p. subst (λ ys. AreSectionsAlike c.args.counts.now g (sections_of cs) (sections_of (slice_set ys i r))) (sym q)
          (sections_alike c.args.counts.now g cs i s r l (entry_is cs i s found) p)) c.in_ok-change.ensures.alike;
      way = λ x e f h d m y p.
          let v = c.loop-i.invariant.1 f d
          (step_in_sections c.args.sure.now f n c.next_step-i.result (reverse c.args.way.now) (reverse c.next_step-i.new.way) (sections_of cs)
          c.next_step-i.ensures p) in
          subst (λ ys. IsWayThrough u h n (reverse c.push.new.self) (sections_of (slice_set ys i r))) (sym q)
          (section_way u f h m n i cs r c.push.new.self c.change_section.new.way l v.0 c.in_ok-push.ensures.ok
          (c.in_ok-change.ensures.way x e f h d m y (subst (IsWay c.loop-i.sure f n (reverse c.loop-i.way))
          (list_there_is i cs s l (entry_is cs i s found)) v.1)));
    }

pub change_sections-returns : goal.change_sections-returns
change_sections-returns t c =
    let cs = c.args.sections.now in
    let n = c.args.level in
    let q = c.loop-i.invariant.0 in
    let l : length cs ≤ c.loop-i.i = omega (arith, c.loop-i-test.false, c.len.ensures.value, ap length q) in
    record {
      made = λ f h p.
          let v = c.loop-i.invariant.1 f h
          (step_in_sections c.args.sure.now f n c.next_step-i.result (reverse c.args.way.now) (reverse c.next_step-i.new.way) (sections_of cs)
          c.next_step-i.ensures p) in
          sections_end f n cs c.loop-i.i l (quiet_go f n c.loop-i.i cs v.0);
      kept = λ e. q;
      alike = λ g e. none_some g e;
      way = λ g e. none_some g e;
    }

pub change_item-change_either-change-requires : goal.change_item-change_either-change-requires
change_item-change_either-change-requires t c = let n = of_if c.args.item.now c.in-If.test c.in-If.a c.in-If.b
    (sym c.replace.ensures.value ∙ c.in-If.is) in (
      omega (arith, n, c.decreases),
      subst (AreWithin (count_in c.args.counts.now)) (ap tree_at (sym c.replace.ensures.value ∙ c.in-If.is) ∙
          at-If c.in-If.test c.in-If.a c.in-If.b) c.requires,
    )

pub change_item-change_list-change-requires : goal.change_item-change_list-change-requires
change_item-change_list-change-requires t c = let n = of_while c.args.item.now c.in-While.test c.in-While.a
    (sym c.replace.ensures.value ∙ c.in-While.is) in (
      omega (arith, n, c.decreases),
      subst (AreWithin (count_in c.args.counts.now)) (ap tree_at (sym c.replace.ensures.value ∙ c.in-While.is) ∙
          at-While c.in-While.test c.in-While.a) c.requires,
    )

pub change_item-change_list-change-requires-in-Do : goal.change_item-change_list-change-requires-in-Do
change_item-change_list-change-requires-in-Do t c = let n = of_do c.args.item.now c.in-Do.test c.in-Do.a (sym c.replace.ensures.value ∙ c.in-Do.is) in (
  omega (arith, n, c.decreases),
  subst (AreWithin (count_in c.args.counts.now)) (ap tree_at (sym c.replace.ensures.value ∙ c.in-Do.is) ∙ at-Do c.in-Do.a c.in-Do.test) c.requires,
)

pub change_item-change_either-change-requires-in-For : goal.change_item-change_either-change-requires-in-For
change_item-change_either-change-requires-in-For t c = let n = of_for c.args.item.now c.in-For.first c.in-For.test c.in-For.third c.in-For.a
    (sym c.replace.ensures.value ∙ c.in-For.is) in (
      omega (arith, n, c.decreases),
      subst (AreWithin (count_in c.args.counts.now)) (ap tree_at (sym c.replace.ensures.value ∙ c.in-For.is) ∙
          at-For c.in-For.first c.in-For.test c.in-For.third c.in-For.a) c.requires,
    )

pub change_item-change_sections-change-requires : goal.change_item-change_sections-change-requires
change_item-change_sections-change-requires t c = let n = of_switch c.args.item.now c.in-Switch.selector c.in-Switch.sections
    (sym c.replace.ensures.value ∙ c.in-Switch.is) in (
      omega (arith, n, c.decreases),
      subst (AreWithin (count_in c.args.counts.now)) (ap tree_at (sym c.replace.ensures.value ∙ c.in-Switch.is) ∙
          at-Switch c.in-Switch.selector c.in-Switch.sections) c.requires,
    )

pub change_item-change_list-change-requires-in-Block : goal.change_item-change_list-change-requires-in-Block
change_item-change_list-change-requires-in-Block t c = let n = of_block c.args.item.now c.in-Block.a (sym c.replace.ensures.value ∙ c.in-Block.is) in (
  omega (arith, n, c.decreases),
  subst (AreWithin (count_in c.args.counts.now)) (ap tree_at (sym c.replace.ensures.value ∙ c.in-Block.is) ∙ at-Block c.in-Block.a) c.requires,
)

pub change_item-returns-in-If : goal.change_item-returns-in-If
change_item-returns-in-If t c =
    let e = sym c.replace.ensures.value ∙ c.in-If.is in
    let n = c.args.level in
    let x = c.args.item.now in
    let v = reverse c.args.way.now in
    let w = reverse c.change_either-change.new.way in
    record {
      made = if_ok_more c.change_either-change.result _ _
          (λ it k f h p. if_changed f n x it c.in-If.test c.in-If.a c.in-If.b c.change_either-change.new.first c.change_either-change.new.second e
          (k f h (if_in c.args.sure.now f n v x c.in-If.test c.in-If.a c.in-If.b e p)))
          c.change_either-change.ensures.made;
      kept = if_ok_more c.change_either-change.result _ _
          (λ it k d. ap₂ (If c.in-If.test) (k d).0 (k d).1 ∙ sym e)
          c.change_either-change.ensures.kept;
      alike = if_ok_more c.change_either-change.result _ _
          (λ it k. said_more it c.change_either-change.new.sure
          (λ g. AreAlikeOf c.args.counts.now g (trees_of c.in-If.a) (trees_of c.in-If.b) (trees_of c.change_either-change.new.first)
          (trees_of c.change_either-change.new.second))
          (λ g. IsAlike c.args.counts.now g (tree_at x) (tree_at (If c.in-If.test c.change_either-change.new.first c.change_either-change.new.second)))
          (λ g. if_is_alike c.args.counts.now g x c.in-If.test c.in-If.a c.in-If.b c.change_either-change.new.first c.change_either-change.new.second e) k)
          c.change_either-change.ensures.alike;
      way = if_ok_more c.change_either-change.result _ _
          (λ it k g r f h d l z p. if_out c.change_either-change.new.sure h n w c.in-If.test c.change_either-change.new.first
          c.change_either-change.new.second (k g r f h d l z (if_in c.args.sure.now f n v x c.in-If.test c.in-If.a c.in-If.b e p)))
          c.change_either-change.ensures.way;
    }

pub change_item-returns-in-While : goal.change_item-returns-in-While
change_item-returns-in-While t c =
    let e = sym c.replace.ensures.value ∙ c.in-While.is in
    let n = c.args.level in
    let x = c.args.item.now in
    let v = reverse c.args.way.now in
    let w = reverse c.change_list-change.new.way in
    record {
      made = if_ok_more c.change_list-change.result _ _
          (λ it k f h p. while_changed f n x it c.in-While.test c.in-While.a c.change_list-change.new.list e
          (k f h (while_in c.args.sure.now f n v x c.in-While.test c.in-While.a e p)))
          c.change_list-change.ensures.made;
      kept = if_ok_more c.change_list-change.result _ _ (λ it k d. ap (While c.in-While.test) (k d) ∙ sym e) c.change_list-change.ensures.kept;
      alike = if_ok_more c.change_list-change.result _ _
          (λ it k. said_more it c.change_list-change.new.sure
          (λ g. AreAlike c.args.counts.now g (trees_of c.in-While.a) (trees_of c.change_list-change.new.list))
          (λ g. IsAlike c.args.counts.now g (tree_at x) (tree_at (While c.in-While.test c.change_list-change.new.list)))
          (λ g. while_is_alike c.args.counts.now g x c.in-While.test c.in-While.a c.change_list-change.new.list e) k)
          c.change_list-change.ensures.alike;
      way = if_ok_more c.change_list-change.result _ _
          (λ it k g r f h d l z p. while_out c.change_list-change.new.sure h n w c.in-While.test c.change_list-change.new.list
          (k g r f h d l z (while_in c.args.sure.now f n v x c.in-While.test c.in-While.a e p)))
          c.change_list-change.ensures.way;
    }

pub change_item-returns-in-Do : goal.change_item-returns-in-Do
change_item-returns-in-Do t c =
    let e = sym c.replace.ensures.value ∙ c.in-Do.is in
    let n = c.args.level in
    let x = c.args.item.now in
    let v = reverse c.args.way.now in
    let w = reverse c.change_list-change-in-Do.new.way in
    record {
      made = if_ok_more c.change_list-change-in-Do.result _ _
          (λ it k f h p. do_changed f n x it c.in-Do.test c.in-Do.a c.change_list-change-in-Do.new.list e
          (k f h (do_in c.args.sure.now f n v x c.in-Do.test c.in-Do.a e p)))
          c.change_list-change-in-Do.ensures.made;
      kept = if_ok_more c.change_list-change-in-Do.result _ _
          (λ it k d. ap (λ a. Do a c.in-Do.test) (k d) ∙ sym e)
          c.change_list-change-in-Do.ensures.kept;
      alike = if_ok_more c.change_list-change-in-Do.result _ _
          (λ it k. said_more it c.change_list-change-in-Do.new.sure
          (λ g. AreAlike c.args.counts.now g (trees_of c.in-Do.a) (trees_of c.change_list-change-in-Do.new.list))
          (λ g. IsAlike c.args.counts.now g (tree_at x) (tree_at (Do c.change_list-change-in-Do.new.list c.in-Do.test)))
          (λ g. do_is_alike c.args.counts.now g x c.in-Do.test c.in-Do.a c.change_list-change-in-Do.new.list e) k)
          c.change_list-change-in-Do.ensures.alike;
      way = if_ok_more c.change_list-change-in-Do.result _ _
          (λ it k g r f h d l z p. do_out c.change_list-change-in-Do.new.sure h n w c.in-Do.test c.change_list-change-in-Do.new.list
          (k g r f h d l z (do_in c.args.sure.now f n v x c.in-Do.test c.in-Do.a e p)))
          c.change_list-change-in-Do.ensures.way;
    }

pub change_item-returns-in-For : goal.change_item-returns-in-For
change_item-returns-in-For t c =
    let e = sym c.replace.ensures.value ∙ c.in-For.is in
    let n = c.args.level in
    let x = c.args.item.now in
    let v = reverse c.args.way.now in
    let w = reverse c.change_either-change-in-For.new.way in
    record {
      made = if_ok_more c.change_either-change-in-For.result _ _
          (λ it k f h p. for_changed f n x it c.in-For.test c.in-For.third c.in-For.first c.in-For.a c.change_either-change-in-For.new.first
          c.change_either-change-in-For.new.second e (k f h (for_in c.args.sure.now f n v x c.in-For.first c.in-For.test c.in-For.third c.in-For.a e p)))
          c.change_either-change-in-For.ensures.made;
      kept = if_ok_more c.change_either-change-in-For.result _ _
          (λ it k d. ap₂ (λ a b. For a c.in-For.test c.in-For.third b) (k d).0 (k d).1 ∙ sym e)
          c.change_either-change-in-For.ensures.kept;
      alike = if_ok_more c.change_either-change-in-For.result _ _
          (λ it k. said_more it c.change_either-change-in-For.new.sure
          (λ g. AreAlikeOf c.args.counts.now g (trees_of c.in-For.first) (trees_of c.in-For.a) (trees_of c.change_either-change-in-For.new.first)
          (trees_of c.change_either-change-in-For.new.second))
          (λ g. IsAlike c.args.counts.now g (tree_at x)
          (tree_at (For c.change_either-change-in-For.new.first c.in-For.test c.in-For.third c.change_either-change-in-For.new.second)))
          (λ g. for_is_alike c.args.counts.now g x c.in-For.first c.in-For.test c.in-For.third c.in-For.a c.change_either-change-in-For.new.first
          c.change_either-change-in-For.new.second e) k)
          c.change_either-change-in-For.ensures.alike;
      way = if_ok_more c.change_either-change-in-For.result _ _
          (λ it k g r f h d l z p. for_out c.change_either-change-in-For.new.sure h n w c.change_either-change-in-For.new.first c.in-For.test
          c.in-For.third c.change_either-change-in-For.new.second
          (k g r f h d l z (for_in c.args.sure.now f n v x c.in-For.first c.in-For.test c.in-For.third c.in-For.a e p)))
          c.change_either-change-in-For.ensures.way;
    }

pub change_item-returns-in-Switch : goal.change_item-returns-in-Switch
change_item-returns-in-Switch t c =
    let e = sym c.replace.ensures.value ∙ c.in-Switch.is in
    let n = c.args.level in
    let x = c.args.item.now in
    let v = reverse c.args.way.now in
    let w = reverse c.change_sections-change.new.way in
    let r = c.change_sections-change.new.sections in
    record {
      made = if_ok_more c.change_sections-change.result _ _
          (λ it k f h p. switch_changed f n x it c.in-Switch.selector c.in-Switch.sections r e
          (k f h (switch_in c.args.sure.now f n v x c.in-Switch.selector c.in-Switch.sections e p)))
          c.change_sections-change.ensures.made;
      kept = if_ok_more c.change_sections-change.result _ _
          (λ it k d. ap (Switch c.in-Switch.selector) (k d) ∙ sym e)
          c.change_sections-change.ensures.kept;
      alike = if_ok_more c.change_sections-change.result _ _
          (λ it k. said_more it c.change_sections-change.new.sure (λ g. AreSectionsAlike c.args.counts.now g (sections_of c.in-Switch.sections) (sections_of r))
          (λ g. IsAlike c.args.counts.now g (tree_at x) (tree_at (Switch c.in-Switch.selector r)))
          (λ g. switch_is_alike c.args.counts.now g x c.in-Switch.selector c.in-Switch.sections r e) k)
          c.change_sections-change.ensures.alike;
      way = if_ok_more c.change_sections-change.result _ _
          (λ it k g u f h d l z p. switch_out c.change_sections-change.new.sure h n w c.in-Switch.selector r
          (k g u f h d l z (switch_in c.args.sure.now f n v x c.in-Switch.selector c.in-Switch.sections e p)))
          c.change_sections-change.ensures.way;
    }

pub change_item-returns-in-Block : goal.change_item-returns-in-Block
change_item-returns-in-Block t c =
    let e = sym c.replace.ensures.value ∙ c.in-Block.is in
    let n = c.args.level in
    let x = c.args.item.now in
    let v = reverse c.args.way.now in
    let w = reverse c.change_list-change-in-Block.new.way in
    record {
      made = if_ok_more c.change_list-change-in-Block.result _ _
          (λ it k f h p. block_changed f n x it c.in-Block.a c.change_list-change-in-Block.new.list e
          (k f h (block_in c.args.sure.now f n v x c.in-Block.a e p)))
          c.change_list-change-in-Block.ensures.made;
      kept = if_ok_more c.change_list-change-in-Block.result _ _ (λ it k d. ap Block (k d) ∙ sym e) c.change_list-change-in-Block.ensures.kept;
      alike = if_ok_more c.change_list-change-in-Block.result _ _
          (λ it k. said_more it c.change_list-change-in-Block.new.sure
          (λ g. AreAlike c.args.counts.now g (trees_of c.in-Block.a) (trees_of c.change_list-change-in-Block.new.list))
          (λ g. IsAlike c.args.counts.now g (tree_at x) (tree_at (Block c.change_list-change-in-Block.new.list)))
          (λ g. block_is_alike c.args.counts.now g x c.in-Block.a c.change_list-change-in-Block.new.list e) k)
          c.change_list-change-in-Block.ensures.alike;
      way = if_ok_more c.change_list-change-in-Block.result _ _
          (λ it k g r f h d l z p. block_out c.change_list-change-in-Block.new.sure h n w c.change_list-change-in-Block.new.list
          (k g r f h d l z (block_in c.args.sure.now f n v x c.in-Block.a e p)))
          c.change_list-change-in-Block.ensures.way;
    }

pub change_item-returns-in_default : goal.change_item-returns-in_default
change_item-returns-in_default t c =
    record {
      made = λ f h p. leaf_stays f c.args.level c.args.item.now c.replace.result (sym c.replace.ensures.value) c.in_default.not-If
          c.in_default.not-While c.in_default.not-Do c.in_default.not-For c.in_default.not-Switch c.in_default.not-Block;
      kept = λ e. c.replace.ensures.value;
      alike = λ g e. none_some g e;
      way = λ g e. none_some g e;
    }
