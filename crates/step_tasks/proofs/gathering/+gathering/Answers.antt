use Rattle.std.proofs.Common.{◌∷◌, ◌+◌, ◌-◌, length, take, drop, Some, None, cond, eqb, ap, sym, ◌∙◌, arith}
use Rattle.std.proofs.lemmas.Result.{on_ok_weaker}
use Rattle.std.proofs.lemmas.List.{drop_all, take_rest}
use Rattle.c_tree.specs.Trees.{tree_of, trees_of, section_tree, sections_of}
use Rattle.c_tree.proofs.TreeLaws.{tree-If, tree-While, tree-Do, tree-For, tree-Switch, tree-Block, tree-Mark, tree-Land, section-parts}
use Rattle.jump_meaning.specs.Search.{ToLabel, is_goal, or_else, seek, seek_in, seek_sections}
use Rattle.jump_meaning.specs.Tasks.{EndsSection, items, end_of, tail_tasks}
use Rattle.step_tasks.specs.declared.work.Work.TheVariants.{Items, Tail}
use Rattle.step_tasks.specs.Tasks.{loop_of}
use Rattle.step_tasks.proofs.LabelLemmas.{nothing_added, added_as, both_added, added_above, all_left, one_less, none_left}
use Rattle.step_tasks.proofs.SearchLemmas.{no_lists, no_mark, from_place, among, past_last, past_sections}
use Rattle.step_tasks.proofs.gathering.+gathering.Goals as goal

pub gather_before-returns : goal.gather_before-returns
gather_before-returns t c =
    on_ok_weaker c.gather.result
    (λ e. added_above c.args.below c.in_ok-level.level c.args.work (λ k l. seek (ToLabel l) (trees_of c.args.list.now) k) c.args.labels.now
    c.put.new.labels c.gather.new.labels c.in_ok-level.ensures e)
    c.gather.ensures

pub gather_in-returns-in_ok-gather-in-If : goal.gather_in-returns-in_ok-gather-in-If
gather_in-returns-in_ok-gather-in-If t c =
    on_ok_weaker c.gather-in-If.result
    (λ e. added_as c.args.below (λ k l. or_else (seek (ToLabel l) (trees_of c.as_slice.result.now) k)
    (seek (ToLabel l) (trees_of c.as_slice-in-If.result.now) k)) (λ k l. seek_in (ToLabel l) (tree_of c.args.item.now) k) c.args.labels.now
    c.gather-in-If.new.labels
    (λ k l. ap (λ xs. or_else (seek (ToLabel l) (trees_of xs) k) (seek (ToLabel l) (trees_of c.as_slice-in-If.result.now) k)) c.as_slice.ensures.value
    ∙ ap (λ xs. or_else (seek (ToLabel l) (trees_of c.in-If.a) k) (seek (ToLabel l) (trees_of xs) k)) c.as_slice-in-If.ensures.value
    ∙ sym (ap (λ x. seek_in (ToLabel l) x k) (ap tree_of c.in-If.is ∙ tree-If c.in-If.field-0 c.in-If.a c.in-If.b)))
    (both_added c.args.below (λ k l. seek (ToLabel l) (trees_of c.as_slice.result.now) k)
    (λ k l. seek (ToLabel l) (trees_of c.as_slice-in-If.result.now) k) c.args.labels.now c.gather.new.labels c.gather-in-If.new.labels
    c.in_ok-gather-in-If.ensures e))
    c.gather-in-If.ensures

pub gather_in-returns-in-While : goal.gather_in-returns-in-While
gather_in-returns-in-While t c =
    on_ok_weaker c.gather_before.result
    (added_as c.args.below (λ k l. seek (ToLabel l) (trees_of c.as_slice-in-While.result.now) (loop_of (tree_of c.args.item.now) ∷ k))
    (λ k l. seek_in (ToLabel l) (tree_of c.args.item.now) k) c.args.labels.now c.gather_before.new.labels
    (λ k l. ap (λ xs. seek (ToLabel l) (trees_of xs) (loop_of (tree_of c.args.item.now) ∷ k)) c.as_slice-in-While.ensures.value
    ∙ ap (λ x. seek (ToLabel l) (trees_of c.in-While.a) (loop_of x ∷ k)) (ap tree_of c.in-While.is ∙ tree-While c.in-While.field-0 c.in-While.a)
    ∙ sym (ap (λ x. seek_in (ToLabel l) x k) (ap tree_of c.in-While.is ∙ tree-While c.in-While.field-0 c.in-While.a))))
    c.gather_before.ensures

pub gather_in-returns-in-Do : goal.gather_in-returns-in-Do
gather_in-returns-in-Do t c =
    on_ok_weaker c.gather_before-in-Do.result
    (added_as c.args.below (λ k l. seek (ToLabel l) (trees_of c.as_slice-in-Do.result.now) (loop_of (tree_of c.args.item.now) ∷ k))
    (λ k l. seek_in (ToLabel l) (tree_of c.args.item.now) k) c.args.labels.now c.gather_before-in-Do.new.labels
    (λ k l. ap (λ xs. seek (ToLabel l) (trees_of xs) (loop_of (tree_of c.args.item.now) ∷ k)) c.as_slice-in-Do.ensures.value
    ∙ ap (λ x. seek (ToLabel l) (trees_of c.in-Do.a) (loop_of x ∷ k)) (ap tree_of c.in-Do.is ∙ tree-Do c.in-Do.a c.in-Do.field-1)
    ∙ sym (ap (λ x. seek_in (ToLabel l) x k) (ap tree_of c.in-Do.is ∙ tree-Do c.in-Do.a c.in-Do.field-1))))
    c.gather_before-in-Do.ensures

pub gather_in-returns-in-For : goal.gather_in-returns-in-For
gather_in-returns-in-For t c =
    on_ok_weaker c.gather_before-in-For.result
    (added_as c.args.below (λ k l. seek (ToLabel l) (trees_of c.as_slice-in-For.result.now) (loop_of (tree_of c.args.item.now) ∷ k))
    (λ k l. seek_in (ToLabel l) (tree_of c.args.item.now) k) c.args.labels.now c.gather_before-in-For.new.labels
    (λ k l. ap (λ xs. seek (ToLabel l) (trees_of xs) (loop_of (tree_of c.args.item.now) ∷ k)) c.as_slice-in-For.ensures.value
    ∙ ap (λ x. seek (ToLabel l) (trees_of c.in-For.a) (loop_of x ∷ k))
    (ap tree_of c.in-For.is ∙ tree-For c.in-For.field-0 c.in-For.field-1 c.in-For.field-2 c.in-For.a)
    ∙ sym (ap (λ x. seek_in (ToLabel l) x k) (ap tree_of c.in-For.is ∙ tree-For c.in-For.field-0 c.in-For.field-1 c.in-For.field-2 c.in-For.a))))
    c.gather_before-in-For.ensures

pub gather_in-returns-in-Switch : goal.gather_in-returns-in-Switch
gather_in-returns-in-Switch t c =
    on_ok_weaker c.gather_sections.result
    (added_as c.args.below (λ k l. seek_sections (ToLabel l) (sections_of c.as_slice-in-Switch.result.now) k)
    (λ k l. seek_in (ToLabel l) (tree_of c.args.item.now) k) c.args.labels.now c.gather_sections.new.labels
    (λ k l. ap (λ xs. seek_sections (ToLabel l) (sections_of xs) k) c.as_slice-in-Switch.ensures.value ∙
    sym (ap (λ x. seek_in (ToLabel l) x k) (ap tree_of c.in-Switch.is ∙ tree-Switch c.in-Switch.field-0 c.in-Switch.sections))))
    c.gather_sections.ensures

pub gather_in-returns-in-Block : goal.gather_in-returns-in-Block
gather_in-returns-in-Block t c =
    on_ok_weaker c.gather-in-Block.result
    (added_as c.args.below (λ k l. seek (ToLabel l) (trees_of c.as_slice-in-Block.result.now) k)
    (λ k l. seek_in (ToLabel l) (tree_of c.args.item.now) k) c.args.labels.now c.gather-in-Block.new.labels
    (λ k l. ap (λ xs. seek (ToLabel l) (trees_of xs) k) c.as_slice-in-Block.ensures.value ∙
    sym (ap (λ x. seek_in (ToLabel l) x k) (ap tree_of c.in-Block.is ∙ tree-Block c.in-Block.a))))
    c.gather-in-Block.ensures

pub gather_in-returns-in_default : goal.gather_in-returns-in_default
gather_in-returns-in_default t c =
    added_as c.args.below (λ k l. None) (λ k l. seek_in (ToLabel l) (tree_of c.args.item.now) k) c.args.labels.now c.args.labels.now
    (λ k l. sym (no_lists c.args.item.now c.in_default.not-If c.in_default.not-While c.in_default.not-Do c.in_default.not-For c.in_default.not-Switch
    c.in_default.not-Block (ToLabel l) k))
    (nothing_added c.args.below c.args.labels.now)

pub gather_inside-returns-then-not-has_lists : goal.gather_inside-returns-then-not-has_lists
gather_inside-returns-then-not-has_lists t c =
    added_as c.args.below (λ k l. None) (λ k l. seek_in (ToLabel l) (tree_of c.args.item.now) (items (trees_of c.args.behind.now) k))
    c.args.labels.now c.args.labels.now
    (λ k l. sym (c.has_lists.ensures c.if-not-has_lists.true (ToLabel l) (items (trees_of c.args.behind.now) k)))
    (nothing_added c.args.below c.args.labels.now)

pub gather_inside-returns : goal.gather_inside-returns
gather_inside-returns t c =
    on_ok_weaker c.gather_in.result
    (λ e. added_above c.args.below c.in_ok-level.level (Items c.args.behind) (λ k l. seek_in (ToLabel l) (tree_of c.args.item.now) k)
    c.args.labels.now c.put.new.labels c.gather_in.new.labels c.in_ok-level.ensures e)
    c.gather_in.ensures

pub gather_item-returns-in-Mark : goal.gather_item-returns-in-Mark
gather_item-returns-in-Mark t c =
    on_ok_weaker c.add_label.result
    (added_as c.args.below (λ k l. cond (eqb l c.in-Mark.label) (Some (items (trees_of c.args.list.now) k)) None)
    (λ k l. cond (is_goal (ToLabel l) (tree_of c.args.item.now)) (Some (items (trees_of c.args.list.now) k))
    (seek_in (ToLabel l) (tree_of c.args.item.now) (items (trees_of c.args.behind.now) k))) c.args.labels.now c.add_label.new.labels
    (λ k l. sym (ap (λ x. cond (is_goal (ToLabel l) x) (Some (items (trees_of c.args.list.now) k))
    (seek_in (ToLabel l) x (items (trees_of c.args.behind.now) k))) (ap tree_of c.in-Mark.is ∙ tree-Mark c.in-Mark.label))))
    c.add_label.ensures

pub gather_item-returns-in-Land : goal.gather_item-returns-in-Land
gather_item-returns-in-Land t c =
    on_ok_weaker c.add_label-in-Land.result
    (added_as c.args.below (λ k l. cond (eqb l c.in-Land.label) (Some (items (trees_of c.args.list.now) k)) None)
    (λ k l. cond (is_goal (ToLabel l) (tree_of c.args.item.now)) (Some (items (trees_of c.args.list.now) k))
    (seek_in (ToLabel l) (tree_of c.args.item.now) (items (trees_of c.args.behind.now) k))) c.args.labels.now c.add_label-in-Land.new.labels
    (λ k l. sym (ap (λ x. cond (is_goal (ToLabel l) x) (Some (items (trees_of c.args.list.now) k))
    (seek_in (ToLabel l) x (items (trees_of c.args.behind.now) k))) (ap tree_of c.in-Land.is ∙ tree-Land c.in-Land.label))))
    c.add_label-in-Land.ensures

pub gather_item-returns-in_default : goal.gather_item-returns-in_default
gather_item-returns-in_default t c =
    on_ok_weaker c.gather_inside.result
    (added_as c.args.below (λ k l. seek_in (ToLabel l) (tree_of c.args.item.now) (items (trees_of c.args.behind.now) k))
    (λ k l. cond (is_goal (ToLabel l) (tree_of c.args.item.now)) (Some (items (trees_of c.args.list.now) k))
    (seek_in (ToLabel l) (tree_of c.args.item.now) (items (trees_of c.args.behind.now) k))) c.args.labels.now c.gather_inside.new.labels
    (λ k l. sym (ap (λ b. cond b (Some (items (trees_of c.args.list.now) k))
    (seek_in (ToLabel l) (tree_of c.args.item.now) (items (trees_of c.args.behind.now) k)))
    (no_mark l c.args.item.now c.in_default.not-Mark c.in_default.not-Land))))
    c.gather_inside.ensures

pub gather_section-returns-then-section : goal.gather_section-returns-then-section
gather_section-returns-then-section t c =
    on_ok_weaker c.gather_before.result
    (added_as c.args.below (λ k l. seek (ToLabel l) (trees_of c.as_slice-list.result.now) (EndsSection ∷ k))
    (λ k l. let s = section_tree c.args.section.now in seek (ToLabel l) s.list (end_of s.ends k)) c.args.labels.now c.gather_before.new.labels
    (λ k l. ap (λ xs. seek (ToLabel l) (trees_of xs) (EndsSection ∷ k)) c.as_slice-list.ensures.value
    ∙ sym (ap (λ s. seek (ToLabel l) s.list (end_of s.ends k)) (section-parts c.args.section.now) ∙
    ap (λ b. seek (ToLabel l) (trees_of c.args.section.now.list) (end_of b k)) c.if-section.true)))
    c.gather_before.ensures

pub gather_section-returns-else-section : goal.gather_section-returns-else-section
gather_section-returns-else-section t c =
    on_ok_weaker c.gather.result
    (added_as c.args.below (λ k l. seek (ToLabel l) (trees_of c.as_slice-list.result.now) k)
    (λ k l. let s = section_tree c.args.section.now in seek (ToLabel l) s.list (end_of s.ends k)) c.args.labels.now c.gather.new.labels
    (λ k l. ap (λ xs. seek (ToLabel l) (trees_of xs) k) c.as_slice-list.ensures.value
    ∙ sym (ap (λ s. seek (ToLabel l) s.list (end_of s.ends k)) (section-parts c.args.section.now) ∙
    ap (λ b. seek (ToLabel l) (trees_of c.args.section.now.list) (end_of b k)) c.if-section.false)))
    c.gather.ensures

pub gather-loop-at-init : goal.gather-loop-at-init
gather-loop-at-init t c = all_left c.args.below (λ k m. seek (ToLabel m) (trees_of c.args.list.now) k) c.args.labels.now

pub gather-loop-at-preserved : goal.gather-loop-at-preserved
gather-loop-at-preserved t c =
    let xs = c.args.list.now in
    let at = c.loop-at.at in
    let x = c.index-list-at.result in
    one_less c.args.below (λ k m. seek (ToLabel m) (trees_of xs) k) (λ k m. seek (ToLabel m) (trees_of (drop at xs)) k)
    (λ k m. cond (is_goal (ToLabel m) (tree_of x)) (Some (items (trees_of (drop at xs)) k))
    (seek_in (ToLabel m) (tree_of x) (items (trees_of (drop (at + 1) xs)) k))) (λ k m. seek (ToLabel m) (trees_of (drop (at + 1) xs)) k)
    c.args.labels.now c.loop-at.labels c.gather_item.new.labels c.loop-at.invariant
    (added_as c.args.below
    (λ k m. cond (is_goal (ToLabel m) (tree_of x)) (Some (items (trees_of (take (length xs - at) (drop at xs))) k))
    (seek_in (ToLabel m) (tree_of x) (items (trees_of (take (length xs - (at + 1)) (drop (at + 1) xs))) k)))
    (λ k m. cond (is_goal (ToLabel m) (tree_of x)) (Some (items (trees_of (drop at xs)) k))
    (seek_in (ToLabel m) (tree_of x) (items (trees_of (drop (at + 1) xs)) k)))
    c.loop-at.labels c.gather_item.new.labels
    (λ k m. ap (λ ys. cond (is_goal (ToLabel m) (tree_of x)) (Some (items (trees_of ys) k))
    (seek_in (ToLabel m) (tree_of x) (items (trees_of (take (length xs - (at + 1)) (drop (at + 1) xs))) k))) (take_rest xs at)
    ∙ ap (λ ys. cond (is_goal (ToLabel m) (tree_of x)) (Some (items (trees_of (drop at xs)) k))
    (seek_in (ToLabel m) (tree_of x) (items (trees_of ys) k))) (take_rest xs (at + 1)))
    c.in_ok-gather_item.ensures)
    (λ k m. from_place (ToLabel m) xs at x k c.loop-at-test.true c.index-list-at.is)

pub gather-returns : goal.gather-returns
gather-returns t c =
    let xs = c.args.list.now in
    none_left c.args.below (λ k m. seek (ToLabel m) (trees_of xs) k) (λ k m. seek (ToLabel m) (trees_of (drop c.loop-at.at xs)) k) c.args.labels.now
    c.loop-at.labels c.loop-at.invariant
    (λ k m. past_last (ToLabel m) (drop c.loop-at.at xs) k (drop_all c.loop-at.at xs (omega (arith, c.loop-at-test.false))))

pub gather_sections-loop-at-init : goal.gather_sections-loop-at-init
gather_sections-loop-at-init t c = all_left c.args.below (λ k m. seek_sections (ToLabel m) (sections_of c.args.sections.now) k) c.args.labels.now

pub gather_sections-loop-at-preserved : goal.gather_sections-loop-at-preserved
gather_sections-loop-at-preserved t c =
    let cs = c.args.sections.now in
    let at = c.loop-at.at in
    let x = c.index-sections-at.result in
    let s = section_tree x in
    one_less c.args.below (λ k m. seek_sections (ToLabel m) (sections_of cs) k) (λ k m. seek_sections (ToLabel m) (sections_of (drop at cs)) k)
    (λ k m. seek (ToLabel m) s.list (end_of s.ends (tail_tasks (sections_of (drop (at + 1) cs)) k)))
    (λ k m. seek_sections (ToLabel m) (sections_of (drop (at + 1) cs)) k)
    c.args.labels.now c.loop-at.labels c.gather_section.new.labels c.loop-at.invariant
    (added_as c.args.below (λ k m. seek (ToLabel m) s.list
    (end_of s.ends (tail_tasks (sections_of (take (length cs - (at + 1)) (drop (at + 1) cs))) k)))
    (λ k m. seek (ToLabel m) s.list (end_of s.ends (tail_tasks (sections_of (drop (at + 1) cs)) k)))
    c.loop-at.labels c.gather_section.new.labels
    (λ k m. ap (λ ys. seek (ToLabel m) s.list (end_of s.ends (tail_tasks (sections_of ys) k))) (take_rest cs (at + 1)))
    (added_above c.args.below c.in_ok-level.level (Tail _) (λ k m. seek (ToLabel m) s.list (end_of s.ends k)) c.loop-at.labels c.put.new.labels
    c.gather_section.new.labels c.in_ok-level.ensures c.in_ok-gather_section.ensures))
    (λ k m. among (ToLabel m) cs at x k c.loop-at-test.true c.index-sections-at.is)

pub gather_sections-returns : goal.gather_sections-returns
gather_sections-returns t c =
    let cs = c.args.sections.now in
    none_left c.args.below (λ k m. seek_sections (ToLabel m) (sections_of cs) k)
    (λ k m. seek_sections (ToLabel m) (sections_of (drop c.loop-at.at cs)) k) c.args.labels.now c.loop-at.labels c.loop-at.invariant
    (λ k m. past_sections (ToLabel m) (drop c.loop-at.at cs) k (drop_all c.loop-at.at cs (omega (arith, c.loop-at-test.false))))
