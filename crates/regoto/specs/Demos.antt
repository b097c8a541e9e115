-- What `demo N` does.
use Rattle.std.specs.Prelude.{ℕ, ◌≡◌, ◌⊎◌, List, codes}
use Rattle.c_types.specs.declared.refusal.ReadStop.{ReadStop}
use Rattle.c_types.specs.declared.refusal.ReadStop.TheVariants as read_stop
use Rattle.c_types.specs.declared.trap.Trap.{Trap}
use Rattle.c_tree.specs.declared.tree.Program.{Program}
use Rattle.demo_gen.specs.DemoText.{demo_text}
use Rattle.jump_meaning.specs.Behaviour.{Shown, Ended, Trapped, More}
use Rattle.jump_meaning.specs.Values.{Event}
use Rattle.rg_ports.specs.Count.{Rose}
use Rattle.rg_ports.specs.Written.{Written}
use Rattle.cmd_words.specs.declared.demo_lines.Demonstration.{Demonstration}
use Rattle.cmd_words.specs.declared.status.Status.{Status}
use Rattle.cmd_words.specs.declared.status.Status.TheVariants as status
use Rattle.cmd_words.specs.Demo.{demo_line}
use Rattle.cmd_words.specs.Lines.{Tells, refusal_line, memory_line, trap_line, spent_line}
use Rattle.cmd_files.specs.Shown.{Hands}
use Rattle.regoto.specs.Runnable.{IsRunnable, IsUnfit}
use Rattle.c_text.specs.Reading.{IsProgramOf, IsRefusedFor}
use Rattle.move_driver.specs.Text.{Output, IsTextRestructured, IsOnlyOutput}
use Rattle.regoto.specs.DemoRuns.{most_steps, left_at, byte_count, HasEnded, IsTrapped, GoesOn}
use Rattle.regoto.specs.declared.alone.Stop.{Stop}
use Rattle.regoto.specs.declared.alone.Stop.TheVariants as stop

-- The text of n functions has a program, which can be run. It is restructured to another text, and to nothing else, and
-- that one has a program too.
pub record Demo (n : ℕ) : Type 0 where
  pub program : Program
  pub reads : IsProgramOf (demo_text n) program
  pub runnable : IsRunnable program
  pub output : Output
  pub restructured : IsTextRestructured (demo_text n) output
  pub only : IsOnlyOutput (demo_text n) output
  pub result : Program
  pub reads_result : IsProgramOf output.text result

-- Both programs ended within the steps, with the same value after the same events. These are the figures of the text, of
-- what was done to it, and of the output.
pub record IsShown (n : ℕ) (shown : Demonstration) : Type 0 where
  pub demo : Demo n
  pub events : List Event
  pub source : left_at demo.program ≡ Ended shown.value events
  pub result : left_at demo.result ≡ Ended shown.value events
  pub functions : shown.functions ≡ n
  pub jumps : shown.jumps ≡ demo.output.counts.jumps
  pub moves : shown.moves ≡ demo.output.counts.moves
  pub guards : shown.guards ≡ demo.output.counts.guards
  pub bytes : shown.bytes ≡ byte_count events

-- the program of the text met a trap
pub record MeetsTrap (n : ℕ) (trap : Trap) : Type 0 where
  pub demo : Demo n
  pub source : IsTrapped (left_at demo.program) trap

-- it goes on after the steps, or it ended and that of the result goes on
pub record RunsOn (n : ℕ) : Type 0 where
  pub demo : Demo n
  pub goes : GoesOn (left_at demo.program) ⊎ (HasEnded (left_at demo.program) × GoesOn (left_at demo.result))

-- why there is nothing to show of a text that can be run
abbrev pub StopsAt : ℕ → Stop → Type 0
StopsAt n (stop.Trapped trap) = MeetsTrap n trap
StopsAt n stop.Spent = RunsOn n
StopsAt n stop.Memory = Unit {0}

-- why the text has no program, by what stopped its reading, and the line that was said
abbrev pub IsUnreadFor : (List ℕ → Type 0) → ReadStop → Status → Type 0
IsUnreadFor said (read_stop.Refused refusal) result = (result ≡ status.Refused refusal) × said (refusal_line (codes "demo") refusal)
IsUnreadFor said read_stop.Memory result = (result ≡ status.Memory) × said memory_line

-- why a command ends that shows nothing, by its status, and the line that was said
abbrev pub Unshown : (List ℕ → Type 0) → ℕ → Status → Type 0
Unshown said n (status.Refused refusal) = IsUnfit IsProgramOf IsRefusedFor refusal (demo_text n) × said (refusal_line (codes "demo") refusal)
Unshown said n (status.Trapped trap) = MeetsTrap n trap × said (trap_line trap)
Unshown said n status.Spent = RunsOn n × said (spent_line most_steps)
Unshown said n status.Memory = said memory_line
-- no other status comes
Unshown said n status.Done = ⊥
Unshown said n status.Usage = ⊥
Unshown said n status.ReadFault = ⊥
Unshown said n status.WriteFault = ⊥
Unshown said n status.Absent = ⊥

-- Each status, with what it says of the text of n functions and of its programs, of the bytes written to `out` and `err`, and
-- of the counts of failed writes there, before and after; `untouched` says that nothing was done to `out`.
abbrev pub ShowsDemo : ℕ → Type 0 → Written → Written → ℕ → ℕ → Written → Written → ℕ → ℕ → Status → Type 0
ShowsDemo n untouched out out' faults faults' err err' told told' result =
    ((shown : Demonstration) × IsShown n shown × Hands (demo_line shown) out out' faults faults' err err' told told' result)
    ⊎ (untouched × Unshown (λ line. Tells err err' told told' line) n result)

-- ---- completeness

-- how the command ends by how both runs were left; they never end apart
abbrev pub EndsBy : Shown → Shown → Status → Type 0
EndsBy (Trapped trap es) s result = result ≡ status.Trapped trap
EndsBy (More es) s result = result ≡ status.Spent
EndsBy (Ended value es) (More fs) result = result ≡ status.Spent
EndsBy (Ended value es) (Ended other fs) result = result ≡ status.Done
EndsBy (Ended value es) (Trapped trap fs) result = ⊥

pub record Concludes (n : ℕ) (p : Program) (result : Status) : Type 0 where
  pub demo : Demo n
  pub program : demo.program ≡ p
  pub ends : EndsBy (left_at p) (left_at demo.result) result

-- Where the text of n functions reads as a program that can be run, and no write to `out` fails, the command ends as the
-- runs show, or memory is refused.
abbrev pub CompletesDemo : ℕ → ℕ → ℕ → Status → Type 0
CompletesDemo n faults faults' result =
    (p : Program) → IsProgramOf (demo_text n) p → IsRunnable p → ¬ Rose faults faults' → Concludes n p result ⊎ (result ≡ status.Memory)
