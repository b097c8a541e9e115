use Rattle.std.proofs.Common.{ap, ◌∙◌}
use Rattle.std.proofs.lemmas.Result.{on_ok_weaker}
use Rattle.c_tree.specs.Trees.{trees_of, join}
use Rattle.lower_items.specs.Pieces.{pieces_of}
use Rattle.lower_items.proofs.Hanging.{hung}
use Rattle.lower_items.proofs.written.hang.Goals as goal

pub returns : goal.returns
returns c =
    let out = c.args.out.now in
    let more = c.args.more in
    let front = c.replace-front.result in
    let all = join (pieces_of more.pieces) (trees_of more.last) in
    on_ok_weaker c.add_pieces.result (λ f. ap (λ z. join (pieces_of c.add_pieces.new.out) (trees_of z)) c.replace-front.ensures.after
    ∙ hung out.pieces c.push.new.self front (pieces_of more.pieces) (trees_of more.last) c.add_pieces.new.out c.in_ok-push.ensures.ok f
    ∙ ap (λ z. join (join (pieces_of out.pieces) (trees_of z)) all) c.replace-front.ensures.value) c.add_pieces.ensures
