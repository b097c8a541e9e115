-- The table of the commands: which work each is, and on what.
use Rattle.std.specs.Prelude.{◌≡◌, ℕ, List, Option, None, Some}
use Rattle.rg_ports.specs.Files.{Files}
use Rattle.rg_ports.specs.declared.reads.ReadCounts.{ReadCounts}
use Rattle.rg_ports.specs.Written.{Written}
use Rattle.cmd_words.specs.declared.status.Status.{Status}
use Rattle.cmd_words.specs.declared.status.Status.TheVariants as status
use Rattle.cmd_words.specs.Command.{Command, Restructure, Run, Demo, Help, Show, Moves, Replay, Tidy, Lower}
use Rattle.cmd_words.specs.Help.{Helps}
use Rattle.cmd_words.specs.Lines.{Tells, usage_line}
use Rattle.cmd_files.specs.declared.translator.Part.TheVariants as part
use Rattle.cmd_files.specs.Written.{Wanted}
use Rattle.command_table.specs.Effects.{Effects}

-- what the ports tell
pub record Ports : Type 0 where
  pub held : Option Files
  pub reads : ReadCounts
  -- how many writes to the shelf have failed
  pub writes : ℕ
  -- and how many were refused memory
  pub wants : ℕ
  -- what is left of the input, and how many of its reads have failed
  pub rest : Option (List ℕ)
  pub inputs : ℕ
  pub out : Written
  pub faults : ℕ
  pub err : Written
  pub told : ℕ

-- that nothing was done to a port
pub record Untouched : Type 1 where
  pub shelf : Type 0
  pub input : Type 0
  pub out : Type 0

-- the line was told
abbrev pub says : Ports → Ports → List ℕ → Type 0
says old new line = Tells old.err new.err old.told new.told line

-- no file changed, and no write to the shelf failed
abbrev pub KeepsFiles : Ports → Ports → Type 0
KeepsFiles old new = (new.held ≡ old.held) × (new.writes ≡ old.writes)

-- what each command does, by what the works do
abbrev pub Does : Effects → Command → Untouched → Ports → Ports → Status → Type 0
Does works (Restructure from to report) untouched old new ended =
    untouched.out
    × works.restructures (says old new) from to report old.held new.held old.reads new.reads old.writes new.writes ended
    × works.completes from old.held old.reads new.reads old.writes new.writes ended
    × (ended ≡ status.Memory → Wanted old.held new.held old.wants new.wants)
Does works (Run from steps) untouched old new ended =
    KeepsFiles old new
    × works.runs (says old new) from steps old.held old.reads new.reads (untouched.input × untouched.out) old.rest new.rest old.inputs new.inputs
    old.out new.out old.faults new.faults ended
    × works.completes_run from steps old.held old.reads new.reads old.rest old.inputs new.inputs old.faults new.faults ended
Does works (Demo count) untouched old new ended =
    untouched.shelf
    × works.demonstrates count untouched.out old.out new.out old.faults new.faults old.err new.err old.told new.told ended
    × works.completes_demo count old.faults new.faults ended
Does works Help untouched old new ended =
    untouched.shelf × Helps old.out new.out old.faults new.faults old.err new.err old.told new.told ended
Does works (Show from) untouched old new ended =
    KeepsFiles old new
    × works.shows from part.Text old.held old.reads new.reads untouched.out old.out new.out old.faults new.faults old.err new.err old.told new.told ended
    × works.completes from old.held old.reads new.reads old.faults new.faults ended
Does works (Moves from) untouched old new ended =
    KeepsFiles old new
    × works.shows from part.Report old.held old.reads new.reads untouched.out old.out new.out old.faults new.faults old.err new.err old.told new.told ended
    × works.completes from old.held old.reads new.reads old.faults new.faults ended
Does works (Replay from report to) untouched old new ended =
    untouched.out
    × works.replays (says old new) from report to old.held new.held old.reads new.reads old.writes new.writes ended
    × works.completes_replay from report old.held old.reads new.reads old.writes new.writes ended
Does works (Tidy from to) untouched old new ended =
    untouched.out
    × works.tidies (says old new) from to old.held new.held old.reads new.reads old.writes new.writes ended
    × works.completes_tidy from old.held old.reads new.reads old.writes new.writes ended
Does works (Lower from to) untouched old new ended =
    untouched.out
    × works.lowers (says old new) from to old.held new.held old.reads new.reads old.writes new.writes ended
    × works.completes_lower from old.held old.reads new.reads old.writes new.writes ended

-- what the words are answered with, where those that fit no form leave each port but `err` as it was
abbrev pub Answers : Effects → Option Command → Untouched → Ports → Ports → Status → Type 0
Answers works None untouched old new ended = untouched.shelf × untouched.out × says old new usage_line
Answers works (Some command) untouched old new ended = Does works command untouched old new ended
