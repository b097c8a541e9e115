-- What `restructure FROM TO`, `restructure FROM TO --report REPORT`, `show FROM` and `moves FROM` do.
use Rattle.std.specs.Prelude.{◌≡◌, ℕ, List, Option}
use Rattle.c_text.specs.Reading.{IsInSubset, IsRefusedFor}
use Rattle.move_driver.specs.Text.{Output, IsTextRestructured, IsOnlyOutput}
use Rattle.move_driver.specs.Settled.{IsTextSettled}
use Rattle.rg_ports.specs.Files.{Files}
use Rattle.rg_ports.specs.declared.reads.ReadCounts.{ReadCounts}
use Rattle.rg_ports.specs.Written.{Written}
use Rattle.cmd_words.specs.declared.lines.Summary.TheVariants as summary
use Rattle.cmd_words.specs.declared.status.Status.{Status}
use Rattle.cmd_files.specs.declared.translator.Translation.{Translation}
use Rattle.cmd_files.specs.declared.translator.Part.{Part}
use Rattle.cmd_files.specs.Translated.{Completes as CompletesWhere}
use Rattle.cmd_files.specs.Written.{Writes}
use Rattle.cmd_files.specs.Shown.{Shows}
use Rattle.regoto.specs.ReportLaws.{GivesTheSame}

-- what is written of a restructured text, and told of it
abbrev pub translation_of : Output → Translation
translation_of output = record {
  text = output.text;
  report = output.report;
  summary = summary.Restructured output.counts.jumps output.counts.moves output.counts.guards;
}

-- the restructured text, the report of its moves, and their counts
pub record IsRestructuredTo (text : List ℕ) (made : Translation) : Type 0 where
  pub output : Output
  pub restructured : IsTextRestructured text output
  -- nothing else is what the text is restructured to
  pub only : IsOnlyOutput text output
  -- and what is written is restructured to itself
  pub settled : IsTextSettled output.text
  -- the report, replayed on the text, gives the same
  pub replayed : GivesTheSame text output
  pub told : made ≡ translation_of output

-- Each status, with what it says of the files before and after, of the counts of failed reads and writes
-- before and after, and of the line that was said.
abbrev pub Restructures : (List ℕ → Type 0) → List ℕ → List ℕ → Option (List ℕ) → Option Files → Option Files → ReadCounts → ReadCounts → ℕ → ℕ →
    Status → Type 0
Restructures said from to report before after reads reads' writes writes' status =
    Writes said IsRestructuredTo IsRefusedFor from to report before after reads reads' writes writes' status

-- Each status of the commands that write the text or the report to `out`, with what is told of the bytes written to `out` and
-- `err` and of the counts of failed writes there, before and after; `untouched` says that nothing was done to `out`.
abbrev pub ShowsRestructured : List ℕ → Part → Option Files → ReadCounts → ReadCounts → Type 0 → Written → Written → ℕ → ℕ → Written → Written → ℕ →
    ℕ → Status → Type 0
ShowsRestructured from part before reads reads' untouched out out' faults faults' err err' told told' status =
    Shows IsRestructuredTo IsRefusedFor from part before reads reads' untouched out out' faults faults' err err' told told' status

-- Where the shelf holds a text of the subset that has at most 1,048,576 bytes, and no read or write fails,
-- the job is done or memory is refused.
abbrev pub Completes : List ℕ → Option Files → ReadCounts → ReadCounts → ℕ → ℕ → Status → Type 0
Completes from before reads reads' writes writes' result = CompletesWhere IsInSubset from before reads reads' writes writes' result
