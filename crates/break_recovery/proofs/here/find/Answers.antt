use Rattle.std.proofs.Common.{◌≡◌, ◌+◌, drop, get_or, sym, ap, subst, ◌∙◌}
use Rattle.c_tree.specs.Trees.{trees_of}
use Rattle.c_tree.specs.Views.{tree_at}
use Rattle.tidy_loops.proofs.Results.{if_ok_more}
use Rattle.tidy_loops.specs.Slots.{count_in}
use Rattle.break_recovery.specs.Loops.{change_there}
use Rattle.break_recovery.proofs.Loops.{before_rest}
use Rattle.tidy_loops.specs.Remaining.{IsApart}
use Rattle.break_recovery.proofs.Within.{apart_there, within_apart}
use Rattle.break_recovery.proofs.here.find.Goals as goal

pub returns : goal.returns
returns c =
    let xs = c.args.list.now in
    let at = c.args.at in
    let k = count_in c.args.counts.now in
    let x = c.index-items-at.result in
    let e : x ≡ get_or xs at x = c.index-items-at.is ∙ ap (λ z. get_or z at x) c.as_slice-items.ensures.value in
    if_ok_more c.change_of.result _ _
    (λ it h. h ∙ ap (λ b. change_there k c.args.level (tree_at x) (trees_of b))
    (c.split_at.ensures.back ∙ ap (drop (at + 1)) c.as_slice-items.ensures.value) ∙ before_rest k c.args.level xs at x c.requires.place e)
    c.change_of.ensures

pub change_of-requires : goal.change_of-requires
change_of-requires c =
    let xs = c.args.list.now in
    let at = c.args.at in
    let k = count_in c.args.counts.now in
    let x = c.index-items-at.result in
    let e : x ≡ get_or xs at x = c.index-items-at.is ∙ ap (λ z. get_or z at x) c.as_slice-items.ensures.value in
    subst (λ b. IsApart k (tree_at x) (trees_of b)) (sym (c.split_at.ensures.back ∙ ap (drop (at + 1)) c.as_slice-items.ensures.value))
    (apart_there k xs at x c.requires.place e (within_apart k (trees_of xs) c.requires.within))
