use Rattle.std.proofs.Common.{pos, Some, ap, ◌∙◌}
use Rattle.std.proofs.lemmas.Result.{IfOk-weaker}
use Rattle.c_tree.specs.declared.tree.UnaryOp.TheVariants.{Minus}
use Rattle.c_tree.specs.declared.tree.BinaryOp.TheVariants.{Arith}
use Rattle.c_types.specs.declared.kinds.ArithOp.TheVariants.{Sub}
use Rattle.c_types.specs.Numbers.{greatest}
use Rattle.c_tree.specs.ExpressionTrees.{Typed, expression_tree}
use Rattle.c_tree.specs.ExpressionTrees as PE
use Rattle.c_tree.specs.Numerals.{number}
use mir.Syntax.{w128}
use mir.Val.{to_z, of_z}
use Rattle.flat_items.proofs.Spelling.{typed-Binary, greatest_fits}
use Rattle.flat_items.proofs.values.least_constant.Goals as goal

pub returns : goal.returns
returns c =
    let k = c.args.kind in
    IfOk-weaker c.new.result _ _ (λ it h. ap expression_tree h ∙ typed-Binary k (Arith Sub) c.in_ok-greatest.greatest c.in_ok-one.one
    (Typed (Some k) (PE.Unary Minus (number k (greatest k)))) (number k (pos 1))
    (c.in_ok-greatest.ensures ∙ ap (λ z. Typed (Some k) (PE.Unary Minus (number k (to_z w128 (of_z w128 z))))) c.greatest.ensures ∙
    ap (λ z. Typed (Some k) (PE.Unary Minus (number k z))) (greatest_fits k)) c.in_ok-one.ensures) c.new.ensures
