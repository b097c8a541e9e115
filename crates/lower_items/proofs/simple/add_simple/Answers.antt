use Rattle.std.proofs.Common.{sym, ap, ◌∙◌}
use Rattle.std.proofs.lemmas.Result.{on_ok_weaker}
use Rattle.c_tree.specs.Trees.{trees_of, join}
use Rattle.flat_items.specs.Plans.{aim_of}
use Rattle.lower_items.specs.Plans.{layout_of, arrivals_of}
use Rattle.lower_items.proofs.Arms.{same_item}
use Rattle.lower_items.proofs.simple.add_simple.Goals as goal

pub returns-in_default : goal.returns-in_default
returns-in_default c =
    let same =
    same_item (layout_of c.args.plan.now) (aim_of c.args.scope.breaks) (aim_of c.args.scope.continues) (arrivals_of c.args.cases.now) c.args.item
    c.in_default.not-Local c.in_default.not-Break c.in_default.not-Continue c.in_default.not-Goto c.in_default.not-Mark c.in_default.not-Arrival in
    on_ok_weaker c.add.result (λ f. f ∙ ap (join (trees_of c.args.out.now)) (sym same)) c.add.ensures
