use Rattle.std.proofs.Common.{codes, ap}
use Rattle.c_tree.specs.TextPieces.{◌⨾◌, punctuator}
use Rattle.c_tree.specs.TextItems.{part_text}
use Rattle.c_printer.proofs.Nodes.{then, reads}
use Rattle.c_printer.proofs.items.put_brackets.Goals as goal

pub returns : goal.returns
returns g c =
    then _ _ _ _ _ c.put_punctuator.ensures
    (then _ _ _ _ _ c.put_first.ensures
    (then _ _ _ _ _
    (reads _ _ _ _ (ap (λ s. punctuator (codes ";") ⨾ part_text s c.args.test.now ⨾ punctuator (codes ";") ⨾ part_text s c.args.step.now)
    c.as_slice.ensures.value) c.put_parts.ensures)
    c.put_punctuator-2.ensures))
