use Rattle.std.proofs.Common.{◌≤◌, eqb, sym, subst}
use Rattle.c_tree.specs.Trees.{trees_of}
use Rattle.move_order_laws.specs.Nesting.{nesting}
use Rattle.move_order_laws.proofs.Depth.{depth_laws}
use Rattle.move_bodies.proofs.ChoiceApplied.{has_label}
use Rattle.move_bodies.proofs.Levels.{edited_applied, edited_simpler}
use Rattle.move_bodies.proofs.one_choice.apply.Goals as goal

pub unreachable-requires : goal.unreachable-requires
unreachable-requires c = has_label c.args.choice.now c.args.body.now c.requires c.in-Z5.is c.in-None.is

pub returns-in-Some-clause-levels : goal.returns-in-Some-clause-levels
returns-in-Some-clause-levels c =
    subst (λ a. nesting a ≤ nesting (trees_of c.args.body.now)) (sym c.drop_guard.ensures) (depth_laws.dropped (eqb c.in-Some.label) (trees_of c.args.body.now))

pub returns-in_default : goal.returns-in_default
returns-in_default c =
    let ok = c.edit_at.ensures.ok in
    let other = c.in_default.not-Z5 in
    record {
      ok = edited_applied c.args.choice.now c.args.body.now c.edit_at.new.body other c.edit_at.result ok;
      levels = edited_simpler c.args.choice.now c.args.body.now c.edit_at.new.body other c.edit_at.result c.requires ok c.edit_at.ensures.err;
      err = c.edit_at.ensures.err;
    }
