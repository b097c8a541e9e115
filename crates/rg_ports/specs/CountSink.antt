-- What a sink that counts tells.
use Rattle.std.specs.Prelude.{ℕ}
use Rattle.rg_ports.specs.declared.count_sink.CountSink.{CountSink}

-- how many bytes were written, up to the last number of 64 bits
abbrev pub count_of : CountSink → ℕ
count_of sink = sink.count
