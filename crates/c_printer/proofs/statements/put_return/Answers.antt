use Rattle.std.proofs.Common.{ap}
use Rattle.c_tree.specs.TextItems.{part_text}
use Rattle.c_printer.proofs.Nodes.{then, reads}
use Rattle.c_printer.proofs.statements.put_return.Goals as goal

pub returns : goal.returns
returns g c =
    then _ _ _ _ _ c.put_word.ensures
    (then _ _ _ _ _
    (reads _ _ _ _ (ap (λ s. part_text s c.args.value.now) c.as_slice.ensures.value) c.put_value.ensures)
    c.put_end.ensures)
