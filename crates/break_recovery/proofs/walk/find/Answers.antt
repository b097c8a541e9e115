use Rattle.std.proofs.Common.{◌≡◌, ◌<◌, length, drop, get_or, sym, ap, subst, ◌∙◌, arith}
use Rattle.c_tree.specs.Trees.{trees_of}
use Rattle.c_tree.specs.Views.{tree_at}
use Rattle.tidy_loops.proofs.Results.{if_ok_more}
use Rattle.tidy_loops.specs.Slots.{count_in}
use Rattle.break_recovery.specs.Loops.{change_there}
use Rattle.break_recovery.proofs.Walks.{slice_there, meant_change}
use Rattle.tidy_loops.specs.Remaining.{IsApart}
use Rattle.break_recovery.proofs.WithinAfter.{walk_apart}
use Rattle.break_recovery.proofs.walk.find.Goals as goal

pub returns : goal.returns
returns c =
    let xs = c.args.list.now in
    let at = c.args.walk.at in
    let next = c.args.walk.next in
    let k = count_in c.args.counts.now in
    let x = c.index-items-at.result in
    let e : x ≡ get_or xs at x = c.index-items-at.is ∙ ap (λ z. get_or z at x) c.as_slice-items.ensures.value in
    let h : at < length xs = omega (arith, c.requires.place) in
    if_ok_more c.change_of.result _ _
    (λ it i. i ∙ ap (λ b. change_there k c.args.level (tree_at x) (trees_of b))
    (c.split_at.ensures.back ∙ ap (drop next) c.as_slice-items.ensures.value) ∙
    meant_change at next xs x c.requires.place.0 c.requires.place.1 (slice_there xs at x h e) k c.args.level)
    c.change_of.ensures

pub change_of-requires : goal.change_of-requires
change_of-requires c =
    let xs = c.args.list.now in
    let at = c.args.walk.at in
    let next = c.args.walk.next in
    let k = count_in c.args.counts.now in
    let x = c.index-items-at.result in
    let e : x ≡ get_or xs at x = c.index-items-at.is ∙ ap (λ z. get_or z at x) c.as_slice-items.ensures.value in
    let h : at < length xs = omega (arith, c.requires.place) in
    subst (λ b. IsApart k (tree_at x) (trees_of b)) (sym (c.split_at.ensures.back ∙ ap (drop next) c.as_slice-items.ensures.value))
    (walk_apart k at next xs x c.requires.place.0 c.requires.place.1 (slice_there xs at x h e) c.requires.within)
