-- The words of a command.
use Rattle.std.specs.Prelude.{ℕ, Bool, false, ◌&&◌, not, ◌==◌, nat_le, List, [], ◌∷◌, Option, Some, None, option_map, codes, if◌then◌else◌}
use Rattle.std.specs.Str.{bytes_eq}
use Rattle.cmd_words.specs.Numbers.{number_of}
use Rattle.cmd_words.specs.declared.words.Job.{Job}
use Rattle.cmd_words.specs.declared.words.Job.TheVariants as job

pub data Command : Type 0 where
  -- the file that is read, the one that is written, and that of the report where one is asked for
  Restructure : List ℕ → List ℕ → Option (List ℕ) → Command
  -- the file that is run, and the most steps
  Run : List ℕ → ℕ → Command
  -- the number of functions
  Demo : ℕ → Command
  Help : Command
  -- the file that is read
  Show : List ℕ → Command
  Moves : List ℕ → Command
  -- the file that is read, that of the report, and the one that is written
  Replay : List ℕ → List ℕ → List ℕ → Command
  -- the file that is read, and the one that is written
  Tidy : List ℕ → List ℕ → Command
  Lower : List ℕ → List ℕ → Command

-- a word that names a file: it isn't empty and doesn't begin with '-'
abbrev pub names_file : List ℕ → Bool
names_file [] = false
names_file (b ∷ bs) = not (b == 45)

-- the report is not written over the text
abbrev pub asks_for_report : List ℕ → List ℕ → List ℕ → List ℕ → List ℕ → Bool
asks_for_report word from to flag report =
    bytes_eq word (codes "restructure") &&
    (names_file from && (names_file to && (bytes_eq flag (codes "--report") && (names_file report && not (bytes_eq to report)))))

-- what is done with a file that is read and one that is written
abbrev pub pair_of : List ℕ → List ℕ → List ℕ → Option Command
pair_of word from to =
    if bytes_eq word (codes "restructure") then Some (Restructure from to None)
    else (if bytes_eq word (codes "tidy") then Some (Tidy from to)
    else (if bytes_eq word (codes "lower") then Some (Lower from to) else None))

abbrev pub run_of : List ℕ → List ℕ → List ℕ → Option Command
run_of from flag steps = if names_file from && bytes_eq flag (codes "--steps") then option_map (λ n. Run from n) (number_of steps) else None

abbrev pub replay_of : List ℕ → List ℕ → List ℕ → List ℕ → Option Command
replay_of word from report to =
    if bytes_eq word (codes "replay") && (names_file from && (names_file report && names_file to)) then Some (Replay from report to) else None

-- from 1 to 2,000 functions
abbrev pub demo_of : Option ℕ → Option Command
demo_of None = None
demo_of (Some n) = if nat_le 1 n && nat_le n 2000 then Some (Demo n) else None

-- what the words ask for, each the list of its bytes
abbrev pub command_of : List (List ℕ) → Option Command
command_of (word ∷ []) = if bytes_eq word (codes "help") then Some Help else None
command_of (word ∷ from ∷ []) =
    if bytes_eq word (codes "show") && names_file from then Some (Show from)
    else (if bytes_eq word (codes "moves") && names_file from then Some (Moves from)
    else (if bytes_eq word (codes "run") && names_file from then Some (Run from 10000000)
    else (if bytes_eq word (codes "demo") then demo_of (number_of from) else None)))
command_of (word ∷ from ∷ to ∷ []) = if names_file from && names_file to then pair_of word from to else None
command_of (word ∷ first ∷ second ∷ third ∷ []) = if bytes_eq word (codes "run") then run_of first second third else replay_of word first second third
command_of (word ∷ from ∷ to ∷ flag ∷ report ∷ []) = if asks_for_report word from to flag report then Some (Restructure from to (Some report)) else None
command_of _ = None

-- a job without where its words lie
abbrev pub seen : Job → Command
seen (job.Restructure from to report) = Restructure from.now to.now (option_map (λ name. name.now) report)
seen (job.Run from steps) = Run from.now steps
seen (job.Demo count) = Demo count
seen job.Help = Help
seen (job.Show from) = Show from.now
seen (job.Moves from) = Moves from.now
seen (job.Replay from report to) = Replay from.now report.now to.now
seen (job.Tidy from to) = Tidy from.now to.now
seen (job.Lower from to) = Lower from.now to.now
