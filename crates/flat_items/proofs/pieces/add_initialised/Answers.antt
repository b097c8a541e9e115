use Rattle.std.proofs.Common.{ap, ◌∙◌, arith}
use Rattle.std.proofs.lemmas.Result.{on_ok_weaker}
use Rattle.c_tree.specs.Trees.{trees_of, expression_trees, join}
use Rattle.flat_items.proofs.pieces.add_initialised.Goals as goal
use Rattle.jump_meaning.specs.World.{no_slot}
use Rattle.flat_laws.specs.FlatForm.{assigned}
use Rattle.c_tree.specs.declared.tree.Slot.{Slot}
use Rattle.flat_items.proofs.Joining.{entry_is}

pub returns-in-Some : goal.returns-in-Some
returns-in-Some c =
    let e = c.in-Some.ensures.lookup.3.1 no_slot ∙ entry_is c.args.slots.now c.args.slot in
    on_ok_weaker c.add_assigned.result (λ h. h ∙ ap (λ (s : Slot). join (trees_of c.args.out.now)
    (assigned s.kind c.args.slot s.cells (expression_trees c.args.given))) e) c.add_assigned.ensures

pub returns-in-None : goal.returns-in-None
returns-in-None c =
    let e = c.in-None.ensures.lookup.4 (omega arith) no_slot ∙ entry_is c.args.slots.now c.args.slot in
    on_ok_weaker c.add_assigned-in-None.result
    (λ h. h ∙ ap (λ (s : Slot). join (trees_of c.args.out.now) (assigned s.kind c.args.slot s.cells (expression_trees c.args.given))) e)
    c.add_assigned-in-None.ensures
