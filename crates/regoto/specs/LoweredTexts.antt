-- What `lower FROM TO` does.
use Rattle.std.specs.Prelude.{◌≡◌, ℕ, [], List, Option, None}
use Rattle.c_text.specs.Reading.{IsInSubset, IsRefusedFor}
use Rattle.rg_ports.specs.Files.{Files}
use Rattle.rg_ports.specs.declared.reads.ReadCounts.{ReadCounts}
use Rattle.cmd_words.specs.declared.lines.Summary.TheVariants as summary
use Rattle.cmd_words.specs.declared.status.Status.{Status}
use Rattle.cmd_files.specs.declared.translator.Translation.{Translation}
use Rattle.cmd_files.specs.Translated.{Completes}
use Rattle.cmd_files.specs.Written.{Writes}
use Rattle.regoto.specs.declared.lowered_text.Lowered.{Lowered}
use Rattle.regoto.specs.Lowered.{IsTextLowered, IsOnlyText}

-- what is written of a lowered text, and told of it
abbrev pub translation_of : Lowered → Translation
translation_of lowered = record { text = lowered.text; report = []; summary = summary.Lowered lowered.gotos }

-- the lowered text, and how many gotos it has
pub record IsLoweredTo (text : List ℕ) (made : Translation) : Type 0 where
  pub output : Lowered
  pub lowered : IsTextLowered text output
  -- nothing else is what the text is lowered to
  pub only : IsOnlyText text output
  pub told : made ≡ translation_of output

-- Each status, with what it says of the files before and after, of the counts of failed reads and writes before and after,
-- and of the line that was said.
abbrev pub LowersText : (List ℕ → Type 0) → List ℕ → List ℕ → Option Files → Option Files → ReadCounts → ReadCounts → ℕ → ℕ → Status → Type 0
LowersText said from to before after reads reads' writes writes' status =
    Writes said IsLoweredTo IsRefusedFor from to None before after reads reads' writes writes' status

-- Where the shelf holds a text of the subset that has at most 1,048,576 bytes, and no read or write fails, the job is done
-- or memory is refused.
abbrev pub CompletesText : List ℕ → Option Files → ReadCounts → ReadCounts → ℕ → ℕ → Status → Type 0
CompletesText from before reads reads' writes writes' result = Completes IsInSubset from before reads reads' writes writes' result
