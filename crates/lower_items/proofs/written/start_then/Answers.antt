use Rattle.std.proofs.Common.{◌∙◌}
use Rattle.std.proofs.lemmas.Result.{on_ok_weaker}
use Rattle.c_tree.specs.Changed.{one}
use Rattle.c_tree.specs.Trees as Plain
use Rattle.c_tree.specs.Trees.{trees_of}
use Rattle.flat_items.proofs.Joining.{one_more}
use Rattle.lower_items.specs.Pieces.{pieces_of}
use Rattle.lower_items.proofs.Hanging.{behind}
use Rattle.lower_items.proofs.written.start_then.Goals as goal

pub returns : goal.returns
returns c =
    let out = c.args.out.now in
    let n = c.args.labels in
    on_ok_weaker c.add_label.result (λ f. behind (pieces_of out.pieces) _ _ _ (f
    ∙ one_more (trees_of out.last) _ (Plain.Goto n.behind) (one (Plain.Mark n.list)) c.in_ok-add_goto.ensures)) c.add_label.ensures
