use Rattle.std.proofs.Common.{ap}
use Rattle.c_tree.specs.TextItems.{selector_text}
use Rattle.c_printer.proofs.Nodes.{then, reads}
use Rattle.c_printer.proofs.statements.put_switch.Goals as goal

pub returns : goal.returns
returns g c =
    then _ _ _ _ _ c.put_keyword.ensures
    (then _ _ _ _ _
    (reads _ _ _ _ (ap (λ s. selector_text s c.args.selector.now) c.as_slice.ensures.value) c.put_selector.ensures)
    (then _ _ _ _ _ c.put_space.ensures
    (then _ _ _ _ _ c.put_punctuator.ensures
    c.put_newline.ensures)))
