use Rattle.std.proofs.Common.{◌-◌, ◌<◌, subst, sym, arith, ◌∙◌}
use Rattle.std.proofs.lemmas.Bool.{ltb-true}
use Rattle.c_tree.specs.Views.{tree_at}
use Rattle.tidy_slots.specs.Counts.{item_count}
use Rattle.tidy_loops.specs.Exits.{exits_of}
use Rattle.break_recovery.proofs.HeldLaws.{counted_behind, item_there}
use Rattle.break_recovery.proofs.held.place_behind.Goals as goal

pub names_otherwise-requires : goal.names_otherwise-requires
names_otherwise-requires c =
    let i = c.items.left - 1 in
    let m = counted_behind c.args.slot c.args.items.now c.args.place i c.index-items-at.result (omega (arith, c.if-at-place.true))
    (omega (arith, c.items.invariant, c.items-test.true)) c.index-items-at.is in
    omega (arith, m, c.requires)

pub returns-then-names_otherwise : goal.returns-then-names_otherwise
returns-then-names_otherwise c =
    let g = c.args.slot in
    let x = c.index-items-at.result in (
      c.if-at-place.true,
      (
        omega (arith, c.items.invariant, c.items-test.true),
        λ y e. subst (λ z. exits_of g (tree_at z) < item_count g (tree_at z)) (item_there c.args.items.now (c.items.left - 1) y x e c.index-items-at.is)
            (ltb-true (exits_of g (tree_at x)) (item_count g (tree_at x)) (sym c.names_otherwise.ensures ∙ c.if-names_otherwise.true)),
      ),
    )

pub items-preserved : goal.items-preserved
items-preserved c = omega (arith, c.items.invariant)
