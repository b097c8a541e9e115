-- What `run FILE` and `run FILE --steps N` do.
use Rattle.std.specs.Prelude.{ℕ, List, Option}
use Rattle.c_text.specs.Reading.{IsProgramOf, IsRefusedFor}
use Rattle.rg_ports.specs.Files.{Files}
use Rattle.rg_ports.specs.declared.reads.ReadCounts.{ReadCounts}
use Rattle.rg_ports.specs.Written.{Written}
use Rattle.cmd_words.specs.declared.status.Status.{Status}
use Rattle.regoto.specs.Ran.{Runs, CompletesRun}

-- Each status, with what it says of the program that the text has, of its run from `main`, of the source and the sink, and of
-- the counts of failed reads and writes, before and after, and of the line that was said; `untouched` says that nothing was
-- done to the source and the sink.
abbrev pub RunsText : (List ℕ → Type 0) → List ℕ → ℕ → Option Files → ReadCounts → ReadCounts
    → Type 0 → Option (List ℕ) → Option (List ℕ) → ℕ → ℕ → Written → Written → ℕ → ℕ → Status → Type 0
RunsText said from steps before reads reads' untouched rest left inputs inputs' out out' faults faults' result =
    Runs said IsProgramOf IsRefusedFor from steps before reads reads' untouched rest left inputs inputs' out out' faults faults' result

-- Where the shelf holds a text of at most 67,108,864 bytes whose program has a `main` with a body and calls no function
-- without one, the source tells its bytes, and no read or write fails, the status is the one that the run shows, or memory is
-- refused.
abbrev pub CompletesText : List ℕ → ℕ → Option Files → ReadCounts → ReadCounts → Option (List ℕ) → ℕ → ℕ → ℕ → ℕ → Status → Type 0
CompletesText from steps before reads reads' rest inputs inputs' faults faults' result =
    CompletesRun IsProgramOf from steps before reads reads' rest inputs inputs' faults faults' result
