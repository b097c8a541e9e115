use Rattle.std.proofs.Common.{sym, ap, ◌∙◌}
use Rattle.c_tree.specs.TestTrees.{test_tree}
use Rattle.c_tree.specs.Trees.{trees_of}
use Rattle.c_tree.specs.Views.{tree_at}
use Rattle.c_tree.proofs.Views.{at-If}
use Rattle.tidy_laws.specs.Tails.{is_check}
use Rattle.tidy_laws.specs.Changes.{checks}
use Rattle.tidy_loops.proofs.FormLaws.{test_same, check_if}
use Rattle.tidy_loops.proofs.forms.is_check.Goals as goal

pub returns-in-If : goal.returns-in-If
returns-in-If c =
    let g = c.args.slot in
    let t = c.in-If.test in
    let a = c.in-If.field-1 in
    let b = c.in-If.other in
    c.checks.ensures ∙ ap (λ z. checks g z (trees_of b)) (sym (test_same t)) ∙ sym (check_if g (test_tree t) (trees_of a) (trees_of b)) ∙
    ap (is_check g) (sym (at-If t a b)) ∙ sym (ap (λ y. is_check g (tree_at y)) c.in-If.is)
