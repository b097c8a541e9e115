use Rattle.std.proofs.Common.{arith, rules}
use Rattle.cmd_files.proofs.PieceLemmas.{more-piece, front-piece}
use Rattle.cmd_files.proofs.pieces.write_pieces.Goals as goal

pub returns-in_err-write_piece-clause-err : goal.returns-in_err-write_piece-clause-err
returns-in_err-write_piece-clause-err g c =
    search (rules, front-piece _ _ _ c.args.bytes.now c.loop-at.at c.min-count.result c.loop-at.invariant.written c.in_err-write_piece.ensures.err)

pub loop-at-preserved : goal.loop-at-preserved
loop-at-preserved g c = record {
  within = let least = c.min-count.ensures in omega arith;
  written = more-piece _ _ _ c.args.bytes.now c.loop-at.at c.min-count.result c.loop-at.invariant.written c.in_ok-write_piece.ensures.ok;
  grows = omega (arith, c.in_ok-write_piece.ensures.grows);
}
