use Rattle.std.proofs.Common.{◌≡◌, ◌-◌, drop, length}
use Rattle.c_lexer.proofs.Tails.{tail_of}
use Rattle.c_lexer.proofs.line.broken_at.Given as goal

-- the bytes that were passed, from the end on, are known
abbrev pub invariant-loop-passed : goal.invariant-loop-passed
invariant-loop-passed l = l.tail ≡ tail_of (length l.line - l.passed) (drop (length l.line - l.passed) l.line)
