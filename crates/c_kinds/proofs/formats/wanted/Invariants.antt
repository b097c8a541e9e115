use Rattle.std.proofs.Common.{◌≡◌, drop}
use Rattle.c_kinds.specs.Formats.{wanted, wanted_from}
use Rattle.c_kinds.proofs.formats.wanted.Given as goal

abbrev pub invariant-loop-byte : goal.invariant-loop-byte
invariant-loop-byte l = wanted_from l.out l.format (drop l.byte-index l.bytes) ≡ wanted l.bytes
