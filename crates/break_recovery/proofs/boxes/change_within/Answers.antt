use Rattle.std.proofs.Common.{slice_set, reverse, refl, sym, ap, subst, ◌∙◌}
use Rattle.c_tree.specs.Views.{tree_at}
use Rattle.c_tree.proofs.PathLemmas.{set_same}
use Rattle.tidy_loops.proofs.Results.{if_ok_more}
use Rattle.break_recovery.specs.Next.{next_item}
use Rattle.break_recovery.specs.Steady.{IsAlike}
use Rattle.break_recovery.specs.Ways.{IsWayIn}
use Rattle.break_recovery.proofs.Likeness.{if_ok_both, said_more, item_goes_in}
use Rattle.break_recovery.proofs.Ways.{item_in}
use Rattle.break_recovery.proofs.Steps.{item_changed, entry_is}
use Rattle.tidy_loops.specs.Slots.{count_in}
use Rattle.break_recovery.specs.Within.{AreWithin}
use Rattle.break_recovery.proofs.Within.{in_apart}
use Rattle.break_recovery.proofs.boxes.change_within.Goals as goal

pub returns : goal.returns
returns c =
    let xs = c.args.list.now in
    let at = c.args.at in
    let n = c.args.level in
    let v = reverse c.args.way.now in
    let x = c.at_mut.result.now in
    let y = c.change_item.new.item in
    let w = reverse c.change_item.new.way in
    let sure = c.change_item.new.sure in
    let i = item_in c.args.sure.now in
    let e = entry_is xs at x c.at_mut.ensures.value in
    let u = c.get_mut.ensures.value in
    record {
      made = if_ok_more c.change_item.result _ _
          (λ it k f h o p. item_changed xs at x c.requires.place e f n y it o
          (k f h (subst (λ z. IsWayIn c.args.sure.now f n v (tree_at z)) (sym u) (i f n at v xs xs x c.requires.place e refl p)) ∙
          ap (λ z. next_item f n (tree_at z)) u))
          c.change_item.ensures.made;
      kept = if_ok_more c.change_item.result _ _ (λ it k i. ap (slice_set xs at) (k i ∙ u) ∙ set_same xs at x c.at_mut.ensures.value)
          c.change_item.ensures.kept;
      way = if_ok_both c.change_item.result _ _ _
          (λ it a k g r f h d l z p. item_goes_in sure f h g l z n at w xs x y c.requires.place e c.args.counts.now
          (said_more it sure (λ g. IsAlike c.args.counts.now g (tree_at c.get_mut.result.now) (tree_at y))
          (λ g. IsAlike c.args.counts.now g (tree_at x) (tree_at y))
          (λ g. subst (λ z. IsAlike c.args.counts.now g (tree_at z) (tree_at y)) u) a g r) d c.requires.within p.0
          (k g r f h d l z (subst (λ z. IsWayIn c.args.sure.now f n v (tree_at z)) (sym u) (i f n at v xs xs x c.requires.place e refl p.1))))
          c.change_item.ensures.alike c.change_item.ensures.way;
    }

pub change_item-requires : goal.change_item-requires
change_item-requires c =
    let xs = c.args.list.now in
    let x = c.at_mut.result.now in
    let k = count_in c.args.counts.now in
    subst (λ z. AreWithin k (tree_at z)) (sym c.get_mut.ensures.value)
    (in_apart k xs c.args.at x c.requires.place (entry_is xs c.args.at x c.at_mut.ensures.value) c.requires.within)
