use Rattle.std.proofs.Common.{ℕ, List, ◌≡◌, ◌++◌, drop}
use Rattle.jump_meaning.specs.Known as Known
use Rattle.step_memory.specs.Values.{values_of}
use Rattle.step_interp.specs.Readings.{reading_of}
use Rattle.step_interp.proofs.formats.printed_text.Given as goal

abbrev pub invariant-loop-byte : goal.invariant-loop-byte
invariant-loop-byte l = (ns : List (List ℕ)) → l.text ++ Known.printed (reading_of l.reading) (drop l.byte-index l.format)
    (values_of ns l.arguments) ≡ Known.printed Known.InText l.format (values_of ns l.initial.arguments)
