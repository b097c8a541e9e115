use Rattle.std.proofs.Common.{◌≡◌, Some, None, is_some, sym, ap, ◌∙◌}
use Rattle.c_tree.specs.ExpressionTrees.{expression_tree}
use Rattle.c_tree.specs.Views.{tree_at}
use Rattle.c_tree.proofs.Views.{at-Evaluate}
use Rattle.tidy_laws.specs.Changes.{set_value, set_or}
use Rattle.tidy_slots.specs.Counts.{one_if}
use Rattle.tidy_loops.specs.Exits.{jump_of, left_at}
use Rattle.tidy_loops.specs.Rewritten.{sets_of}
use Rattle.tidy_loops.proofs.FormLaws.{expression_same}
use Rattle.tidy_loops.proofs.tails.left_by.Goals as goal

pub returns-in_ok-leaving-in-Some-clause-made : goal.returns-in_ok-leaving-in-Some-clause-made
returns-in_ok-leaving-in-Some-clause-made c =
    let l = jump_of c.args.exit in
    let x = expression_tree c.in-Evaluate.e in
    let e : Some (expression_tree c.in-Some.value.now) ≡ set_value c.args.slot x =
    c.in-Some.ensures ∙ ap (set_value c.args.slot) (sym (expression_same c.in-Evaluate.e)) in
    c.in_ok-leaving-in-Some.ensures ∙ ap (set_or l x) e ∙ sym (ap (left_at c.args.slot l) (ap tree_at c.in-Evaluate.is ∙ at-Evaluate c.in-Evaluate.e))

pub returns-in_ok-leaving-in-Some-clause-told : goal.returns-in_ok-leaving-in-Some-clause-told
returns-in_ok-leaving-in-Some-clause-told c =
    let x = expression_tree c.in-Evaluate.e in
    let e : Some (expression_tree c.in-Some.value.now) ≡ set_value c.args.slot x =
    c.in-Some.ensures ∙ ap (set_value c.args.slot) (sym (expression_same c.in-Evaluate.e)) in
    ap (λ o. one_if (is_some o)) e ∙ sym (ap (sets_of c.args.slot) (ap tree_at c.in-Evaluate.is ∙ at-Evaluate c.in-Evaluate.e))

pub returns-in-None-clause-made : goal.returns-in-None-clause-made
returns-in-None-clause-made c =
    let l = jump_of c.args.exit in
    let x = expression_tree c.in-Evaluate.e in
    let e : None ≡ set_value c.args.slot x = c.in-None.ensures ∙ ap (set_value c.args.slot) (sym (expression_same c.in-Evaluate.e)) in
    let i = ap tree_at c.in-Evaluate.is ∙ at-Evaluate c.in-Evaluate.e in
    i ∙ ap (set_or l x) e ∙ sym (ap (left_at c.args.slot l) i)

pub returns-in-None-clause-told : goal.returns-in-None-clause-told
returns-in-None-clause-told c =
    let x = expression_tree c.in-Evaluate.e in
    let e : None ≡ set_value c.args.slot x = c.in-None.ensures ∙ ap (set_value c.args.slot) (sym (expression_same c.in-Evaluate.e)) in
    ap (λ o. one_if (is_some o)) e ∙ sym (ap (sets_of c.args.slot) (ap tree_at c.in-Evaluate.is ∙ at-Evaluate c.in-Evaluate.e))
