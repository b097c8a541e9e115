use Rattle.std.proofs.Common.{◌++◌, ◌∷◌, [], ap, ◌∙◌}
use Rattle.c_tree.specs.Changed.{one}
use Rattle.c_tree.specs.TestTrees.{test_tree}
use Rattle.c_tree.specs.Trees as Plain
use Rattle.c_tree.specs.Trees.{Then, trees_of}
use Rattle.c_tree.specs.declared.tree.Item as I
use Rattle.c_tree.proofs.TreeLaws.{trees-none}
use Rattle.c_tree.proofs.Views.{at-If, at-Goto, trees-first}
use Rattle.flat_items.proofs.values.jump.Goals as goal

pub returns-in-Ok : goal.returns-in-Ok
returns-in-Ok c =
    let l = c.args.label in
    let t = test_tree c.args.test in
    let gotos = ap trees_of (c.in-Ok.ensures.ok ∙ ap (λ z. z ++ I.Goto l ∷ []) c.new-gotos.ensures) ∙ trees-first (I.Goto l) [] ∙
    ap (λ x. Then x (trees_of [])) (at-Goto l) ∙ ap (Then (Plain.Goto l)) trees-none in
    at-If _ _ _ ∙ ap (λ a. Plain.If t a (trees_of c.new.result)) gotos ∙ ap (Plain.If t (one (Plain.Goto l))) (ap trees_of c.new.ensures ∙ trees-none)
