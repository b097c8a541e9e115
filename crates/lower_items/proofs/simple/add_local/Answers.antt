use Rattle.std.proofs.Common.{option_map, sym, ap, ◌∙◌}
use Rattle.std.proofs.lemmas.Result.{on_ok_weaker}
use Rattle.c_tree.specs.Trees.{trees_of, expression_trees, join}
use Rattle.c_tree.proofs.TreeLaws.{join-nil}
use Rattle.flat_items.specs.Pieces.{initialised_of}
use Rattle.lower_items.specs.Forms.{local_form}
use Rattle.lower_items.specs.Plans.{layout_of}
use Rattle.lower_items.proofs.simple.add_local.Goals as goal

pub returns-in-Some : goal.returns-in-Some
returns-in-Some c =
    let x = c.args.slot in
    let out = trees_of c.args.out.now in
    let es = expression_trees c.in-Some.given in
    on_ok_weaker c.add_initialised.result (λ f. f ∙ ap (λ z. join out (initialised_of z x es)) c.as_slice.ensures.value
    ∙ sym (ap (λ z. join out (local_form (layout_of c.args.plan.now) x (option_map expression_trees z))) c.in-Some.is)) c.add_initialised.ensures

pub returns-in-None : goal.returns-in-None
returns-in-None c =
    let out = trees_of c.args.out.now in
    sym (ap (λ z. join out (local_form (layout_of c.args.plan.now) c.args.slot (option_map expression_trees z))) c.in-None.is ∙ join-nil out)
