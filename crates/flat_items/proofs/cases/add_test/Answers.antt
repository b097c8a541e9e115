use Rattle.std.proofs.Common.{sym, ap, ◌∙◌}
use Rattle.c_tree.specs.Trees.{trees_of, join}
use Rattle.c_tree.proofs.TreeLaws.{join-nil}
use Rattle.flat_items.proofs.cases.add_test.Goals as goal
use Rattle.flat_items.specs.Plans.{number_label}
use Rattle.flat_items.specs.Pieces.{number_test}

pub returns-in-None : goal.returns-in-None
returns-in-None c = sym (ap (λ z. join (trees_of c.args.out.now)
    (number_test c.args.cases.now.kind c.args.variable (number_label c.args.plan.now c.args.cases.now) z)) c.in-None.is ∙ join-nil (trees_of c.args.out.now))
