use Rattle.std.proofs.Common.{option_map, sym, ap, ◌∙◌}
use Rattle.c_tree.specs.Trees.{trees_of, expression_trees, join}
use Rattle.c_tree.proofs.TreeLaws.{join-nil}
use Rattle.flat_items.proofs.walk.write_local.Goals as goal
use Rattle.flat_items.specs.Plans.{plan_of}
use Rattle.flat_items.specs.Forms.{local_form}

pub returns-in-None-clause-items : goal.returns-in-None-clause-items
returns-in-None-clause-items c = sym (ap (λ z. join (trees_of c.args.out.now)
    (local_form (plan_of c.args.plan.now) c.args.slot (option_map expression_trees z))) c.in-None.is ∙ join-nil (trees_of c.args.out.now))
