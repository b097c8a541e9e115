use Rattle.c_printer.proofs.Nodes.{reads}
use Rattle.c_printer.proofs.ItemTexts.{evaluate_head, other_head}
use Rattle.c_printer.proofs.items.put_head.Goals as goal

pub returns-in-Evaluate : goal.returns-in-Evaluate
returns-in-Evaluate g c =
    reads _ _ _ _ (evaluate_head c.args.function.now c.args.item.now _ _ c.in-Evaluate.is c.as_slice.ensures.value) c.put_expression.ensures

pub returns-in_default : goal.returns-in_default
returns-in_default g c =
    reads _ _ _ _ (other_head c.args.function.now c.args.item.now c.in_default.not-Evaluate c.in_default.not-Local) (λ start whole rest h. h)
