use Rattle.std.proofs.Common.{ap, ◌∙◌}
use Rattle.std.proofs.lemmas.Result.{on_ok_weaker}
use Rattle.c_tree.specs.Trees.{trees_of}
use Rattle.c_tree.proofs.Views.{trees-push}
use Rattle.flat_items.proofs.pieces.add.Goals as goal

pub returns : goal.returns
returns c = on_ok_weaker c.push.result (λ h. ap trees_of h ∙ trees-push c.args.out.now c.args.item) c.push.ensures.ok
