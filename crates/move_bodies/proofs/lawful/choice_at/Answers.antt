use Rattle.std.proofs.Common.{◌≡◌, ◌+◌, Some, slice_get, refl, sym, ap, ◌∙◌}
use Rattle.std.specs.Option.{option_copied}
use Rattle.c_tree.specs.Paths.{list_at}
use Rattle.c_tree.specs.Trees.{trees_of}
use Rattle.guard_simplify.specs.Choice.{has, barred}
use Rattle.guard_simplify.specs.Own.{own_of}
use Rattle.move_bodies.proofs.Lawfuls.{is_at, is_nowhere, no_list, no_item}
use Rattle.move_bodies.proofs.lawful.choice_at.Goals as goal

pub returns-in_default-clause-none : goal.returns-in_default-clause-none
returns-in_default-clause-none c = no_list c.args.body.now c.args.kind c.args.at.now
    (ap (list_at c.args.body.now) (sym c.as_slice.ensures.value) ∙ sym c.find_list.ensures ∙ ap option_copied c.in_default.is)

pub returns-in_default-item_at-clause-none : goal.returns-in_default-item_at-clause-none
returns-in_default-item_at-clause-none c =
    let l = c.in-Some.list.now in
    let list_is : list_at c.args.body.now c.args.at.now.steps ≡ Some l = ap (list_at c.args.body.now) (sym c.as_slice.ensures.value) ∙ sym c.in-Some.ensures in
    no_item c.args.body.now l c.args.kind c.args.at.now list_is
    (ap (λ z. slice_get z c.args.at.now.item) (sym c.as_slice-items.ensures.value) ∙ sym c.item_at.ensures ∙ ap option_copied c.in_default-item_at.is)

pub returns-in-Some-2-clause-some : goal.returns-in-Some-2-clause-some
returns-in-Some-2-clause-some c =
    let l = c.in-Some.list.now in
    let x = c.in-Some-item_at.item.now in
    let list_is : list_at c.args.body.now c.args.at.now.steps ≡ Some l = ap (list_at c.args.body.now) (sym c.as_slice.ensures.value) ∙ sym c.in-Some.ensures in
    let item_is : slice_get l c.args.at.now.item ≡ Some x = ap (λ z. slice_get z c.args.at.now.item) (sym c.as_slice-items.ensures.value) ∙ sym
    c.in-Some-item_at.ensures in
    let next_is = c.item_at-next.ensures ∙ ap (λ z. slice_get z (c.args.at.now.item + 1)) c.as_slice-items.ensures.value in
    let next = option_copied c.item_at-next.result in
    let same = sym (c.in_ok-barred.ensures c.args.at.now.item x next) ∙
    ap (λ ls. own_of c.args.kind (λ m. has m ls) c.args.at.now.item x next) (sym c.as_slice-2.ensures.value) in
    is_at (λ m. barred m (trees_of c.args.body.now)) c.args.body.now l c.args.kind c.args.at.now x (option_copied c.item_at-next.result)
    c.in-Some-2.choice c.in_ok-steps-in-Some-2.steps
    (λ m. refl) (record { list_is = list_is; item_is = item_is }) next_is (same ∙ sym c.in_ok-choice.ensures ∙ c.in-Some-2.is)
    (c.in_ok-steps-in-Some-2.ensures ∙ c.as_slice-in-Some-2.ensures.value)

pub returns-clause-none : goal.returns-clause-none
returns-clause-none c =
    let l = c.in-Some.list.now in
    let x = c.in-Some-item_at.item.now in
    let list_is : list_at c.args.body.now c.args.at.now.steps ≡ Some l = ap (list_at c.args.body.now) (sym c.as_slice.ensures.value) ∙ sym c.in-Some.ensures in
    let item_is : slice_get l c.args.at.now.item ≡ Some x = ap (λ z. slice_get z c.args.at.now.item) (sym c.as_slice-items.ensures.value) ∙ sym
    c.in-Some-item_at.ensures in
    let next_is = c.item_at-next.ensures ∙ ap (λ z. slice_get z (c.args.at.now.item + 1)) c.as_slice-items.ensures.value in
    let next = option_copied c.item_at-next.result in
    let same = sym (c.in_ok-barred.ensures c.args.at.now.item x next) ∙
    ap (λ ls. own_of c.args.kind (λ m. has m ls) c.args.at.now.item x next) (sym c.as_slice-2.ensures.value) in
    is_nowhere (λ m. barred m (trees_of c.args.body.now)) c.args.body.now l c.args.kind c.args.at.now x (option_copied c.item_at-next.result)
    (λ m. refl) (record { list_is = list_is; item_is = item_is }) next_is (same ∙ sym c.in_ok-choice.ensures ∙ c.in-None.is)
