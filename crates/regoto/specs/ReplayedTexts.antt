-- What `replay FROM REPORT TO` does.
use Rattle.std.specs.Prelude.{ℕ, List, Option}
use Rattle.c_text.specs.Reading.{IsProgramOf, IsRefusedFor}
use Rattle.rg_ports.specs.Files.{Files}
use Rattle.rg_ports.specs.declared.reads.ReadCounts.{ReadCounts}
use Rattle.cmd_words.specs.declared.status.Status.{Status}
use Rattle.move_replay.specs.Replay.{IsRefusal}
use Rattle.regoto.specs.Replays.{Replays, CompletesReplay}
use Rattle.regoto.specs.Reports.{IsAccepted, IsReplayedTo}

-- Each status, with what it says of the program that the text has, of what the report makes of it, of the files before and
-- after, of the counts of failed reads and writes before and after, and of the line that was said.
abbrev pub ReplaysText : (List ℕ → Type 0) → List ℕ → List ℕ → List ℕ → Option Files → Option Files → ReadCounts → ReadCounts → ℕ → ℕ → Status → Type 0
ReplaysText said from report to before after reads reads' writes writes' status =
    Replays said IsProgramOf IsRefusedFor IsReplayedTo IsRefusal from report to before after reads reads' writes writes' status

-- Where the shelf holds a text of the subset of at most 1,048,576 bytes and a report of at most 67,108,864 bytes that is
-- accepted with its program, and no read or write fails, the job is done or memory is refused.
abbrev pub CompletesText : List ℕ → List ℕ → Option Files → ReadCounts → ReadCounts → ℕ → ℕ → Status → Type 0
CompletesText from report before reads reads' writes writes' result =
    CompletesReplay IsProgramOf IsAccepted from report before reads reads' writes writes' result
