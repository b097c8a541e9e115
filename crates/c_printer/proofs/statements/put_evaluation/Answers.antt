use Rattle.std.proofs.Common.{ap}
use Rattle.c_tree.specs.TextExpressions.{expression_text}
use Rattle.c_printer.proofs.Nodes.{then, reads}
use Rattle.c_printer.proofs.statements.put_evaluation.Goals as goal

pub returns : goal.returns
returns g c =
    then _ _ _ _ _
    (reads _ _ _ _ (ap (λ s. expression_text s c.args.e.now 1) c.as_slice.ensures.value) c.put_expression.ensures)
    c.put_end.ensures
