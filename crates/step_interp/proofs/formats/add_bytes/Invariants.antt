use Rattle.std.proofs.Common.{◌≡◌, ◌++◌, drop}
use Rattle.step_interp.proofs.formats.add_bytes.Given as goal

abbrev pub invariant-loop-byte : goal.invariant-loop-byte
invariant-loop-byte l = l.text ++ drop l.byte-index l.bytes ≡ l.initial.text ++ l.bytes
