-- What `tidy FROM TO` does.
use Rattle.std.specs.Prelude.{◌≡◌, ℕ, [], List, Option, None}
use Rattle.rg_ports.specs.Files.{Files}
use Rattle.rg_ports.specs.declared.reads.ReadCounts.{ReadCounts}
use Rattle.cmd_words.specs.declared.lines.Summary.TheVariants as summary
use Rattle.cmd_words.specs.declared.status.Status.{Status}
use Rattle.cmd_files.specs.declared.translator.Translation.{Translation}
use Rattle.cmd_files.specs.Translated.{Completes}
use Rattle.cmd_files.specs.Written.{Writes}
use Rattle.regoto.specs.declared.tidied_text.Tidied.{Tidied}
use Rattle.tidy_refusal.specs.TextJumps.{IsRefusedForJumps, IsWithoutJumps}
use Rattle.regoto.specs.Tidied.{IsTextTidied, IsOnlyText}

-- what is written of a tidied text, and told of it
abbrev pub translation_of : Tidied → Translation
translation_of tidied = record { text = tidied.text; report = []; summary = summary.Tidied tidied.changes }

-- the tidied text, and how many changes were made
pub record IsTidiedTo (text : List ℕ) (made : Translation) : Type 0 where
  pub output : Tidied
  pub tidied : IsTextTidied text output
  -- nothing else is what the text is tidied to
  pub only : IsOnlyText text output
  pub told : made ≡ translation_of output

-- Each status, with what it says of the files before and after, of the counts of failed reads and writes before and after,
-- and of the line that was said.
abbrev pub TidiesText : (List ℕ → Type 0) → List ℕ → List ℕ → Option Files → Option Files → ReadCounts → ReadCounts → ℕ → ℕ → Status → Type 0
TidiesText said from to before after reads reads' writes writes' status =
    Writes said IsTidiedTo IsRefusedForJumps from to None before after reads reads' writes writes' status

-- Where the shelf holds a text of the subset that has no jump and at most 1,048,576 bytes, and no read or write fails, the
-- job is done or memory is refused.
abbrev pub CompletesText : List ℕ → Option Files → ReadCounts → ReadCounts → ℕ → ℕ → Status → Type 0
CompletesText from before reads reads' writes writes' result = Completes IsWithoutJumps from before reads reads' writes writes' result
