use mathlib.Core.Path.{ap₂}
use Rattle.std.proofs.Common.{◌≡◌, ◌+◌, [], ◌∷◌, drop, get_or, sym, ap, subst, ◌∙◌}
use Rattle.std.specs.Option.{option_copied}
use Rattle.c_tree.specs.Trees.{trees_of}
use Rattle.c_tree.specs.Views.{tree_at}
use Rattle.tidy_loops.proofs.Results.{if_ok_more}
use Rattle.tidy_loops.specs.Slots.{count_in}
use Rattle.break_recovery.specs.Loops.{change_there}
use Rattle.break_recovery.proofs.Loops.{before_next, before_none, none_there}
use Rattle.c_tree.proofs.TreeLaws.{trees-none}
use Rattle.tidy_loops.specs.Remaining.{IsApart}
use Rattle.break_recovery.proofs.Within.{apart_there, apart_before, apart_last, first_of}
use Rattle.break_recovery.proofs.boxes.find.Goals as goal

pub returns-in-Some : goal.returns-in-Some
returns-in-Some c =
    let xs = c.args.list.now in
    let at = c.args.at in
    let k = count_in c.args.counts.now in
    let x = c.index-items-at.result in
    let e : x ≡ get_or xs at x = c.index-items-at.is ∙ ap (λ z. get_or z at x) c.as_slice-items.ensures.value in
    if_ok_more c.change_of.result _ _
    (λ it h. h ∙ ap₂ (λ z b. change_there k c.args.level (tree_at z) (trees_of b)) c.get-in-Some.ensures
    (c.from_ref.ensures.value ∙ ap (λ z. z ∷ []) c.get-in-Some-2.ensures)
    ∙ before_next k c.args.level xs at x c.requires.place e c.in-Some.next.now (sym c.get.ensures.value ∙ ap option_copied c.in-Some.is))
    c.change_of.ensures

pub returns-in-None : goal.returns-in-None
returns-in-None c =
    let xs = c.args.list.now in
    let at = c.args.at in
    let k = count_in c.args.counts.now in
    let x = c.index-items-at-in-None.result in
    let e : x ≡ get_or xs at x = c.index-items-at-in-None.is ∙ ap (λ z. get_or z at x) c.as_slice-items.ensures.value in
    if_ok_more c.change_of-in-None.result _ _
    (λ it h. h ∙ ap (λ z. change_there k c.args.level (tree_at z) (trees_of [])) c.get-in-None.ensures
    ∙ before_none k c.args.level xs at x c.requires.place e (none_there xs (at + 1) (sym c.get.ensures.value ∙ ap option_copied c.in-None.is)))
    c.change_of-in-None.ensures

pub change_of-requires : goal.change_of-requires
change_of-requires c =
    let xs = c.args.list.now in
    let at = c.args.at in
    let k = count_in c.args.counts.now in
    let x = c.index-items-at.result in
    let n = c.in-Some.next.now in
    let e : x ≡ get_or xs at x = c.index-items-at.is ∙ ap (λ z. get_or z at x) c.as_slice-items.ensures.value in
    let w = apart_before k (tree_at x) (trees_of (drop (at + 1) xs)) (trees_of (n ∷ []))
    (first_of xs (at + 1) n (sym c.get.ensures.value ∙ ap option_copied c.in-Some.is)) (apart_there k xs at x c.requires.place e c.requires.within) in
    subst (λ z. IsApart k (tree_at z) (trees_of c.from_ref.result.now)) (sym c.get-in-Some.ensures)
    (subst (λ b. IsApart k (tree_at x) (trees_of b)) (sym (c.from_ref.ensures.value ∙ ap (λ z. z ∷ []) c.get-in-Some-2.ensures)) w)

pub change_of-requires-in-None : goal.change_of-requires-in-None
change_of-requires-in-None c =
    let xs = c.args.list.now in
    let at = c.args.at in
    let k = count_in c.args.counts.now in
    let x = c.index-items-at-in-None.result in
    let e : x ≡ get_or xs at x = c.index-items-at-in-None.is ∙ ap (λ z. get_or z at x) c.as_slice-items.ensures.value in
    subst (λ z. IsApart k (tree_at z) (trees_of [])) (sym c.get-in-None.ensures)
    (subst (IsApart k (tree_at x)) (sym trees-none)
    (apart_last k (tree_at x) (trees_of (drop (at + 1) xs)) (apart_there k xs at x c.requires.place e c.requires.within)))
