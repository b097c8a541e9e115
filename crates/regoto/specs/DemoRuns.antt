-- The run of a program without input.
use Rattle.std.specs.Prelude.{ℕ, ℤ, ◌≡◌, List, [], length, codes, min}
use Rattle.c_types.specs.declared.trap.Trap.{Trap}
use Rattle.c_tree.specs.declared.tree.Program.{Program}
use Rattle.jump_meaning.specs.Behaviour.{Shown, Ended, Trapped, More}
use Rattle.jump_meaning.specs.Code.{code_of}
use Rattle.jump_meaning.specs.Runs.{jump_run}
use Rattle.jump_meaning.specs.Values.{Event}
use Rattle.step_interp.specs.Shown.{bytes_in}
use Rattle.regoto.specs.declared.alone.End.{End}
use Rattle.regoto.specs.declared.alone.Stop.{Stop}
use Rattle.regoto.specs.declared.alone.Stop.TheVariants as stop

-- the most steps of a run
unfoldable pub most_steps : ℕ
most_steps = 100000000

-- how the run of `main` without input stands after all steps
abbrev pub left_at : Program → Shown
left_at p = jump_run (code_of p) (codes "main") [] [] [] most_steps

-- how many bytes were written, counted up to the last u64
abbrev pub byte_count : List Event → ℕ
byte_count es = min (length (bytes_in es)) 18446744073709551615

abbrev pub HasEnded : Shown → Type 0
HasEnded s = (value : ℤ) × (es : List Event) × (s ≡ Ended value es)

abbrev pub IsTrapped : Shown → Trap → Type 0
IsTrapped s trap = (es : List Event) × (s ≡ Trapped trap es)

abbrev pub GoesOn : Shown → Type 0
GoesOn s = (es : List Event) × (s ≡ More es)

-- it ended with this value and so many bytes
pub record IsEnd (s : Shown) (end : End) : Type 0 where
  pub events : List Event
  pub ended : s ≡ Ended end.value events
  pub bytes : end.bytes ≡ byte_count events

-- or why it did not end
abbrev pub IsStop : Shown → Stop → Type 0
IsStop s (stop.Trapped trap) = IsTrapped s trap
IsStop s stop.Spent = GoesOn s
IsStop s stop.Memory = Unit {0}
