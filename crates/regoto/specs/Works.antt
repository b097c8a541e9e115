-- What the commands do with texts.
use Rattle.std.specs.Prelude.{ℕ, List, Option}
use Rattle.command_table.specs.Effects.{Effects}
use Rattle.regoto.specs.Demos.{ShowsDemo, CompletesDemo}
use Rattle.regoto.specs.RunTexts.{RunsText, CompletesText}
use Rattle.regoto.specs.ReplayedTexts.{ReplaysText, CompletesText as CompletesReplay}
use Rattle.regoto.specs.TidiedTexts.{TidiesText, CompletesText as CompletesTidy}
use Rattle.regoto.specs.LoweredTexts.{LowersText, CompletesText as CompletesLower}
use Rattle.regoto.specs.Restructure.{Restructures, ShowsRestructured, Completes}

abbrev pub text_effects : Effects
text_effects = record {
  restructures = Restructures;
  shows = ShowsRestructured;
  completes = Completes;
  runs = RunsText;
  completes_run = CompletesText;
  replays = ReplaysText;
  completes_replay = CompletesReplay;
  tidies = TidiesText;
  completes_tidy = CompletesTidy;
  lowers = LowersText;
  completes_lower = CompletesLower;
  demonstrates = ShowsDemo;
  completes_demo = CompletesDemo;
}
