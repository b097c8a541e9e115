use Rattle.std.proofs.Common.{◌≡◌, ◌++◌, drop}
use Rattle.c_grammar.specs.DecodingSteps.{decoded_from}
use Rattle.c_grammar.specs.declared.decoding.Decoding.TheVariants.{Plain}
use Rattle.c_grammar.proofs.decode.add_elements.Given as goal

abbrev pub invariant-loop-byte : goal.invariant-loop-byte
invariant-loop-byte l = l.out ++ decoded_from l.pending (drop l.byte-index l.bytes) ≡ l.initial.out ++ decoded_from Plain l.bytes
