use Rattle.c_printer.proofs.Nodes.{reads}
use Rattle.c_printer.proofs.ItemTexts.{other_further}
use Rattle.c_printer.proofs.items.put_next.Goals as goal

pub returns-in_default : goal.returns-in_default
returns-in_default g c =
    reads _ _ _ _ (other_further c.args.function.now c.args.item.now c.in_default.not-Local) (λ start whole rest h. h)
