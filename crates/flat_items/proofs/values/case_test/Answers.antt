use Rattle.std.proofs.Common.{Some, ap, ◌∙◌}
use Rattle.std.proofs.lemmas.Result.{IfOk-weaker}
use Rattle.std.proofs.lemmas.Int.{to_z-of_z}
use mir.Syntax.{w128}
use Rattle.c_types.specs.declared.kinds.IntKind.TheVariants.{Int}
use Rattle.c_tree.specs.declared.tree.BinaryOp.TheVariants.{Equal}
use Rattle.c_tree.specs.declared.tree.Home.TheVariants as H
use Rattle.c_tree.specs.ExpressionTrees as PE
use Rattle.c_tree.specs.ExpressionTrees.{Typed, expression_tree}
use Rattle.c_tree.specs.Numerals.{constant}
use Rattle.c_tree.specs.TestTrees as PT
use Rattle.c_tree.specs.Changed.{one}
use Rattle.c_tree.specs.Trees as Plain
use Rattle.c_tree.proofs.ExpressionLaws.{test-Source}
use Rattle.flat_items.proofs.Spelling.{typed-Binary, typed-Read}
use Rattle.flat_items.proofs.values.case_test.Goals as goal

pub returns : goal.returns
returns c =
    let k = c.args.kind in
    let test = typed-Binary Int Equal c.in_ok-read.read c.in_ok-number.number (Typed (Some k) (PE.Read (PE.Var (H.Slot c.args.variable))))
    (constant k c.args.n) (ap expression_tree c.in_ok-read.ensures ∙ typed-Read k c.args.variable)
    (c.in_ok-number.ensures ∙ ap (constant k) (to_z-of_z w128 c.args.n c.ranges.n)) in
    IfOk-weaker c.jump.result _ _ (λ it f. f ∙ ap (λ t. Plain.If t (one (Plain.Goto c.args.label)) Plain.Nil) (test-Source _ ∙ ap PT.Source test))
    c.jump.ensures
