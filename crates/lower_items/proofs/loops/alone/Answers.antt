use Rattle.std.proofs.Common.{ap, ◌∙◌}
use Rattle.c_tree.specs.Changed.{one}
use Rattle.c_tree.specs.Trees.{trees_of, join}
use Rattle.c_tree.proofs.TreeLaws.{trees-none}
use Rattle.c_tree.specs.Views.{tree_at}
use Rattle.lower_items.proofs.loops.alone.Goals as goal

pub returns : goal.returns
returns c =
    let x = one (tree_at c.args.item) in
    c.in_ok-add.ensures ∙ ap (λ z. join (trees_of z) x) c.new-out.ensures ∙ ap (λ z. join z x) trees-none
