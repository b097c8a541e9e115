-- What a report makes of the program of a text.
use Rattle.std.specs.Prelude.{◌≡◌, ℕ, true, List}
use Rattle.c_tree.specs.declared.tree.Program.{Program}
use Rattle.c_tree.specs.InRange.{IsProgramInRange}
use Rattle.c_tree.specs.Jumps.{is_plain_program}
use Rattle.c_tree.specs.Text.{text_of}
use Rattle.plain_laws.specs.Laws.{BehavesAsStructured}
use Rattle.c_text.specs.Reading.{IsProgramOf}
use Rattle.move_driver.specs.declared.counts.Counts.{Counts}
use Rattle.cmd_words.specs.declared.lines.Summary.TheVariants as summary
use Rattle.cmd_files.specs.declared.translator.Translation.{Translation}
use Rattle.move_replay.specs.Replay.{IsReplay}

-- it is the text of lawful moves that leave no jump, and what they lead to is within the limits of a text
abbrev pub IsAccepted : Program → List ℕ → Type 0
IsAccepted p report = (q : Program) × (counts : Counts) × IsReplay p report q counts

-- The report is the text of lawful moves; what is written is the text of the plain form of what they lead to, and what is told
-- is how many they are, and how many guards are declared. From every entry, on every input and all answers, that plain form
-- ends, traps or runs on as the program does; and its text reads as it.
pub record IsReplayedTo (p : Program) (report : List ℕ) (made : Translation) : Type 0 where
  pub result : Program
  pub counts : Counts
  pub replayed : IsReplay p report result counts
  pub text : made.text ≡ text_of result
  pub told : made.summary ≡ summary.Replayed counts.moves counts.guards
  pub plain : is_plain_program result ≡ true
  pub ranged : IsProgramInRange result
  pub behaves : BehavesAsStructured p result
  pub reads_back : IsProgramOf made.text result
