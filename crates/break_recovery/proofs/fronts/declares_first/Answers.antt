use Rattle.std.proofs.Common.{ℕ, ◌≡◌, ◌-◌, ◌⊎◌, true, false, get_or, length, refl, ap, subst, ◌∙◌}
use Rattle.c_tree.specs.Views.{tree_at}
use Rattle.tidy_laws.specs.Changes.{is_declaration}
use Rattle.break_recovery.specs.Fronts.{holds_none}
use Rattle.break_recovery.proofs.FrontLaws.{front_from_end, front_goes}
use Rattle.break_recovery.proofs.fronts.declares_first.Goals as goal

pub items-init : goal.items-init
items-init c = front_from_end c.args.list.now _ (ap length c.as_slice-items.ensures.value)

pub items-preserved : goal.items-preserved
items-preserved c =
    let xs = c.args.list.now in
    let x = c.index-items-at.result in
    let y = c.get-item.result.now in
    let e : y ≡ x = c.get-item.ensures in
    front_goes xs c.items.left _ x c.items.none c.none_with-still.result refl c.items-test.true
    (c.index-items-at.is ∙ ap (λ z. get_or z (c.items.left - 1) x) c.as_slice-items.ensures.value)
    (subst (λ z. (holds_none (tree_at z) ≡ true) ⊎ (c.items.none ≡ true)) e (c.may_stand.ensures c.if-not-may_stand.false))
    (subst (λ z. c.none_with-still.result ≡ true → (c.items.none ≡ true) × ((g : ℕ) → is_declaration g (tree_at z) ≡ false)) e c.none_with-still.ensures)
    c.items.invariant
