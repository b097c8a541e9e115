use Rattle.std.proofs.Common.{length, ◌-◌, ◌≡◌, ◌≤◌, take}
use Rattle.rg_ports.specs.Written.{more}
use Rattle.cmd_files.proofs.pieces.write_pieces.Given as goal

-- the bytes before `at` were written
abbrev pub invariant-loop-at : goal.invariant-loop-at
invariant-loop-at g l = record {
  within : l.at ≤ length l.bytes;
  written : g.O.PieceSink.piece_written l.out ≡ more (g.O.PieceSink.piece_written l.fn.out) (take l.at l.bytes);
  grows : g.O.PieceSink.piece_faults l.fn.out ≤ g.O.PieceSink.piece_faults l.out;
}

abbrev pub decreases-loop-at : goal.decreases-loop-at
decreases-loop-at g l = length l.bytes - l.at
