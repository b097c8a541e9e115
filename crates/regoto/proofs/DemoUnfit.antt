-- Why the text of n functions isn't run.
use Rattle.std.proofs.Common.{◌≡◌, ℕ, List, codes, Result, Err, inl, inr, refl, sym, subst}
use Rattle.std.specs.Prelude.{IfErr}
use Rattle.std.proofs.lemmas.Result.{IfErr-weaker}
use Rattle.c_types.specs.declared.refusal.Refusal.{Refusal}
use Rattle.c_types.specs.declared.refusal.ReadStop.{ReadStop}
use Rattle.c_types.specs.declared.refusal.ReadStop.TheVariants as read_stop
use Rattle.c_tree.specs.declared.tree.Program.{Program}
use Rattle.demo_gen.specs.DemoText.{demo_text}
use Rattle.cmd_words.specs.declared.status.Status.{Status}
use Rattle.cmd_words.specs.declared.status.Status.TheVariants as status
use Rattle.regoto.specs.Runnable.{IsBlocked, IsUnfit, Unfit}
use Rattle.regoto.proofs.RunCompletion.{unfit_for}
use Rattle.c_text.specs.Reading.{IsProgramOf, IsRefusedFor}
use Rattle.regoto.specs.Demos.{IsUnreadFor, Unshown}

-- its program can't be run
pub blocked_unfit : {T : Type 0} (said : List ℕ → Type 0) (t from : List ℕ) (p : Program) (r : Result T Status) → IsProgramOf t p →
    IfErr r (Unfit said (IsBlocked p) from)
    → IfErr r (Unfit said (λ refusal. IsUnfit IsProgramOf IsRefusedFor refusal t) from)
blocked_unfit said t from p r reads h =
    IfErr-weaker r (Unfit said (IsBlocked p) from) (Unfit said (λ refusal. IsUnfit IsProgramOf IsRefusedFor refusal t) from)
    (λ s k. unfit_for said (IsBlocked p) (λ refusal. IsUnfit IsProgramOf IsRefusedFor refusal t) from s (λ refusal b. inr (p, reads, b)) k) h

-- it has no program
pub unread_unfit : (said : List ℕ → Type 0) (t : List ℕ) (stop : ReadStop) (result : Status)
    → ((refusal : Refusal) → ◌≡◌ {A = Result Program ReadStop} (Err stop) (Err (read_stop.Refused refusal)) → IsRefusedFor t refusal)
    → IsUnreadFor said stop result → Unfit said (λ refusal. IsUnfit IsProgramOf IsRefusedFor refusal t) (codes "demo") result
unread_unfit said t (read_stop.Refused refusal) result f h =
    subst (Unfit said (λ r. IsUnfit IsProgramOf IsRefusedFor r t) (codes "demo")) (sym h.0) (inl (f refusal refl), h.1)
unread_unfit said t read_stop.Memory result f h = subst (Unfit said (λ r. IsUnfit IsProgramOf IsRefusedFor r t) (codes "demo")) (sym h.0) h.1

-- so nothing is shown
pub unfit_unshown : (said : List ℕ → Type 0) (n : ℕ) (t : List ℕ) (s : Status) → t ≡ demo_text n
    → Unfit said (λ refusal. IsUnfit IsProgramOf IsRefusedFor refusal t) (codes "demo") s → Unshown said n s
unfit_unshown said n t (status.Refused refusal) e h = (subst (λ x. IsUnfit IsProgramOf IsRefusedFor refusal x) e h.0, h.1)
unfit_unshown said n t status.Memory e h = h
unfit_unshown said n t _ e h = absurd h
