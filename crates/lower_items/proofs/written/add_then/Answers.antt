use Rattle.std.proofs.lemmas.Result.{on_ok_weaker}
use Rattle.c_tree.specs.Trees as Plain
use Rattle.lower_items.specs.Pieces.{pieces_of, written}
use Rattle.lower_items.proofs.Hanging.{behind}
use Rattle.lower_items.proofs.Shapes.{then_joined}
use Rattle.lower_items.proofs.written.add_then.Goals as goal

pub returns : goal.returns
returns c =
    let n = c.args.labels in
    on_ok_weaker c.add_label.result (λ f. then_joined (written c.args.out.now) (written c.args.then) (Plain.Goto n.behind) (Plain.Mark n.list)
    (Plain.Mark n.behind) _ _ _
    c.in_ok-start_then.ensures c.in_ok-add_written.ensures (behind (pieces_of c.add_written.new.out.pieces) _ _ _ f)) c.add_label.ensures
