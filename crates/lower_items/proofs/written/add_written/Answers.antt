use Rattle.std.proofs.Common.{sym, ap, ◌∙◌}
use Rattle.std.proofs.lemmas.Result.{on_ok_weaker}
use Rattle.c_tree.specs.Trees.{trees_of, join}
use Rattle.lower_items.specs.Pieces.{pieces_of, written}
use Rattle.lower_items.proofs.Hanging.{behind}
use Rattle.lower_items.proofs.written.add_written.Goals as goal

pub returns-then-is_short : goal.returns-then-is_short
returns-then-is_short c =
    let out = c.args.out.now in
    on_ok_weaker c.add_all.result (λ f. behind (pieces_of out.pieces) _ _ _ f
    ∙ sym (ap (λ z. join (written out) (join (pieces_of z) (trees_of c.args.more.last))) (c.is_short.ensures c.if-is_short.true))) c.add_all.ensures
