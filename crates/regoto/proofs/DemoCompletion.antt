-- Where a text is there that can be run, and no write fails, the command ends as the runs show, but for want of memory.
use Rattle.std.proofs.Common.{◌≡◌, ℕ, ℤ, ◌⊎◌, List, inl, inr, refl, subst}
use Rattle.c_types.specs.declared.refusal.Refusal.{Refusal}
use Rattle.c_types.specs.declared.trap.Trap.{Trap}
use Rattle.c_tree.specs.declared.tree.Program.{Program}
use Rattle.demo_gen.specs.DemoText.{demo_text}
use Rattle.jump_meaning.specs.Behaviour.{Shown, Ended}
use Rattle.jump_meaning.specs.Values.{Event}
use Rattle.rg_ports.specs.Count.{Rose}
use Rattle.rg_ports.specs.Written.{Written}
use Rattle.cmd_words.specs.declared.demo_lines.Demonstration.{Demonstration}
use Rattle.cmd_words.specs.declared.status.Status.{Status}
use Rattle.cmd_words.specs.declared.status.Status.TheVariants as status
use Rattle.cmd_words.specs.Demo.{demo_line}
use Rattle.cmd_words.specs.Lines.{Tells}
use Rattle.cmd_files.specs.Shown.{Hands}
use Rattle.regoto.specs.Runnable.{IsRunnable, IsBlocked, IsUnfit}
use Rattle.regoto.proofs.RunCompletion.{runnable_not_blocked}
use Rattle.c_text.specs.Reading.{IsProgramOf, IsRefusedFor}
use Rattle.c_text.proofs.Readings.{faultless}
use Rattle.regoto.specs.DemoRuns.{left_at, HasEnded, IsTrapped, GoesOn}
use Rattle.regoto.specs.Demos.{Demo, IsShown, Unshown, ShowsDemo, EndsBy, Concludes, CompletesDemo}
use Rattle.regoto.proofs.DemoSame.{one_program}

-- a text that can be run is not refused
fit : (n : ℕ) (p : Program) (refusal : Refusal) → IsProgramOf (demo_text n) p → IsRunnable p → IsUnfit IsProgramOf IsRefusedFor refusal (demo_text n) → ⊥
fit n p refusal reads can h = elim h [
  | inl refused ↦ faultless (demo_text n) refusal refused (p, reads)
  | inr blocked ↦ runnable_not_blocked p refusal can (subst (λ q. IsBlocked q refusal) (one_program (demo_text n) blocked.0 p blocked.1 reads) blocked.2)
]

both_end : (a b : Shown) (v w : ℤ) (es fs : List Event) → a ≡ Ended v es → b ≡ Ended w fs → EndsBy a b status.Done
both_end a b v w es fs e f = rw (e, f) refl

trapped : (a b : Shown) (trap : Trap) → IsTrapped a trap → EndsBy a b (status.Trapped trap)
trapped a b trap h = rw h.1 refl

spent : (a b : Shown) → GoesOn a ⊎ (HasEnded a × GoesOn b) → EndsBy a b status.Spent
spent a b h = elim h [
  | inl goes ↦ rw goes.1 refl
  | inr later ↦ let first = later.0.2 in let second = later.1.1 in rw (first, second) refl
]

module _ (n : ℕ) (p : Program) (reads : IsProgramOf (demo_text n) p) (can : IsRunnable p) where
  same_demo : (d : Demo n) → d.program ≡ p
  same_demo d = one_program (demo_text n) d.program p d.reads reads

  concludes : (d : Demo n) (result : Status) → EndsBy (left_at d.program) (left_at d.result) result → Concludes n p result
  concludes d result e = record {
    demo = d;
    program = same_demo d;
    ends = subst (λ a. EndsBy (left_at a) (left_at d.result) result) (same_demo d) e;
  }

  -- where the line was to be written
  shown : (s : Demonstration) (out out' err err' : Written) (faults faults' told told' : ℕ) (result : Status) → IsShown n s
      → Hands (demo_line s) out out' faults faults' err err' told told' result → ¬ Rose faults faults' → Concludes n p result ⊎ (result ≡ status.Memory)
  shown s out out' err err' faults faults' told told' status.Done h k still =
      inl (concludes h.demo status.Done (both_end _ _ s.value s.value h.events h.events h.source h.result))
  shown s out out' err err' faults faults' told told' status.WriteFault h k still = absurd (still k.rose)
  shown s out out' err err' faults faults' told told' _ h k still = absurd k

  -- where nothing was
  unshown : (said : List ℕ → Type 0) (result : Status) → Unshown said n result → Concludes n p result ⊎ (result ≡ status.Memory)
  unshown said (status.Refused refusal) h = absurd (fit n p refusal reads can h.0)
  unshown said (status.Trapped trap) h = inl (concludes h.0.demo (status.Trapped trap) (trapped _ _ trap h.0.source))
  unshown said status.Spent h = inl (concludes h.0.demo status.Spent (spent _ _ h.0.goes))
  unshown said status.Memory h = inr refl
  unshown said _ h = absurd h

pub completes : (n : ℕ) (untouched : Type 0) (out out' err err' : Written) (faults faults' told told' : ℕ) (result : Status)
    → ShowsDemo n untouched out out' faults faults' err err' told told' result → CompletesDemo n faults faults' result
completes n untouched out out' err err' faults faults' told told' result h = λ p reads can still. elim h [
  | inl s ↦ shown n p reads can s.0 out out' err err' faults faults' told told' result s.1 s.2 still
  | inr u ↦ unshown n p reads can (λ line. Tells err err' told told' line) result u.1
]
