use Rattle.std.proofs.Common.{drop, ◌+◌, [], Some, sym, ap, ◌∙◌}
use Rattle.c_tree.specs.Changed.{one}
use Rattle.c_tree.specs.ExpressionTrees.{expression_tree}
use Rattle.c_tree.specs.Trees as Plain
use Rattle.c_tree.specs.Trees.{trees_of, expression_trees, join}
use Rattle.c_tree.proofs.TreeLaws.{join-nil}
use Rattle.flat_laws.specs.Pieces.{case_marks}
use Rattle.lower_items.proofs.cases.add_case_marks.Goals as goal
use Rattle.flat_items.proofs.Joining.{one_more}
use Rattle.lower_items.specs.Plans.{case_names}
use Rattle.flat_items.proofs.Tests.{marks_more, marks_end}

pub loop-i-preserved : goal.loop-i-preserved
loop-i-preserved c =
    let names = case_names c.args.cases.now in
    let e = c.index-given-i.result in
    let out = trees_of c.loop-i.out in
    one_more out (trees_of c.add_label.new.out) (Plain.Mark (names (Some (expression_tree e))))
    (case_marks names (expression_trees (drop (c.loop-i.i + 1) c.args.given.now)) c.args.default)
    (c.in_ok-add_label.ensures ∙ ap (λ l. join out (one (Plain.Mark l))) c.in_ok-label.ensures)
    ∙ ap (join out) (sym (marks_more names c.args.given.now c.args.default c.loop-i.i e c.loop-i-test.true c.index-given-i.is)) ∙ c.loop-i.invariant

pub returns-else-default : goal.returns-else-default
returns-else-default c =
    let names = case_names c.args.cases.now in
    sym (join-nil (trees_of c.loop-i.out)) ∙ ap (join (trees_of c.loop-i.out))
    (sym (marks_end names c.args.given.now c.args.default c.loop-i.i c.loop-i-test.false ∙ ap (case_marks names []) c.if-default.false)) ∙
    c.loop-i.invariant
