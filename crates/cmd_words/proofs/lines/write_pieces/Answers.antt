use Rattle.std.proofs.Common.{List, ℕ, [], drop, take, get_or, false, subst, sym, ◌+◌, ◌++◌}
use Rattle.std.specs.Borrow.{Bor}
use Rattle.std.specs.List.{flat_map}
use Rattle.cmd_words.specs.Lines.{Broke}
use Rattle.cmd_words.proofs.Told.{writes_then, broke_before, parted}
use Rattle.cmd_words.proofs.lines.write_pieces.Goals as goal

pub returns-then-not-put : goal.returns-then-not-put
returns-then-not-put g c =
    let text : Bor (List ℕ) → List ℕ = λ piece. piece.now in
    let none : Bor (List ℕ) = record { ref_ptr = (0, 0); now = [] } in
    let i = c.loop-piece.piece-index in
    let this = (get_or c.args.pieces.now i none).now in
    let before = flat_map text (take i c.args.pieces.now) in
    let after = flat_map text (drop (i + 1) c.args.pieces.now) in
    subst (Broke _ _ _ _) (sym (parted text c.args.pieces.now i none c.loop-piece-test.true))
    (writes_then _ (g.E.Sink.written c.loop-piece.err) _ _ (g.E.Sink.faults c.loop-piece.err) _ before (this ++ after) false c.loop-piece.invariant
    (broke_before _ _ _ _ this after false (λ _. false) c.if-not-put.ensures))
