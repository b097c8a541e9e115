use Rattle.std.proofs.Common.{◌≡◌, ◌+◌, drop}
use Rattle.move_replay.specs.Lines.{line_start}
use Rattle.move_replay.proofs.lines.line_start.Given as goal

abbrev pub invariant-loop-i : goal.invariant-loop-i
invariant-loop-i l = line_start l.number l.text ≡ l.i + line_start l.left (drop l.i l.text)
