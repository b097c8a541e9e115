-- A run that gets to what the structural meaning says.
use Rattle.std.proofs.Common.{ℕ, suc, ◌+◌, ◌≤◌, List, ◌∷◌, ◌≡◌, refl, ap, sym, ◌∙◌, subst, arith, Some, None}
use Rattle.jump_meaning.specs.Values.{Value, Event}
use Rattle.jump_meaning.specs.World.{World, Outcome, Gives, Traps, Exits}
use Rattle.jump_meaning.specs.Code.{Code}
use Rattle.jump_meaning.specs.Calls.{returned, fallen}
use Rattle.jump_meaning.specs.Effects.{left}
use Rattle.jump_meaning.specs.Tasks.{Task, cut, cut_to}
use Rattle.jump_meaning.specs.Step.{no_guards, Frame, State, At, HasEnded, HasTrapped, leave, settle, perform, step}
use Rattle.jump_meaning.specs.Runs.{run, shows}
use Rattle.jump_meaning.specs.Behaviour.{More}
use Rattle.jump_meaning.proofs.RunFacts.{run_add}
use Rattle.struct_meaning.specs.Structural.{Evaluation, Yields, Faults, Quits, Spent, Completion, Normal, Broken, Continued, Returned, Meaning, and_then, given}

-- where a run gets: to a state, or out of fuel with these events
pub data Target : Type 0 where
  To : State → Target
  Gone : List Event → Target

-- the state after n steps is the target; where fuel is gone it still runs, after at least b steps
abbrev pub Fits : ℕ → Target → ℕ → State → Type 0
Fits b (To d) n c = c ≡ d
Fits b (Gone es) n c = (b ≤ n) × (shows c ≡ More es)

pub record Ran (P : Code) (b : ℕ) (t : Target) (c : State) : Type 0 where
  pub steps : ℕ
  pub fits : Fits b t steps (run P steps c)

-- what an evaluation comes to, where `go` is the state for what it yields
abbrev pub target : {A : Type 0} → (A → World → State) → Evaluation A → Target
target go (Yields a w) = To (go a w)
target go (Faults t w) = To (HasTrapped t w.events)
target go (Quits n w) = To (HasEnded n w.events)
target go (Spent w) = Gone w.events

-- a value is left
abbrev pub valued : List ℕ → List Task → List Value → List Frame → Value → World → State
valued f k v cs x w = At f no_guards k (x ∷ v) cs w

-- a statement completes
abbrev pub landed : Code → List ℕ → List Task → List Value → List Frame → Completion → World → State
landed P f k v cs Normal w = At f no_guards k v cs w
landed P f k v cs Broken w = At f no_guards (cut k) v cs w
landed P f k v cs Continued w = At f no_guards (cut_to k) v cs w
landed P f k v cs (Returned None) w = leave (P.functions f) (fallen f) cs w
landed P f k v cs (Returned (Some x)) w = leave (P.functions f) (returned (P.functions f) x) cs w

-- a statement, from tasks j
abbrev pub Reaches : Code → ℕ → Meaning → List Task → List ℕ → List Task → List Value → List Frame → Type 0
Reaches P b m j f k v cs = (w : World) → Ran P b (target (landed P f k v cs) (m w)) (At f no_guards j v cs w)

module _ (P : Code) where
  more_steps : (b : ℕ) (t : Target) (i n : ℕ) (c : State) → Fits b t n c → Fits b t (i + n) c
  more_steps b (To d) i n c h = h
  more_steps b (Gone es) i n c h = let p = h.0 in (omega (arith, p), h.1)

  pub sooner : {b : ℕ} {t : Target} {d : State} (i : ℕ) (c : State) → run P i c ≡ d → Ran P b t d → Ran P b t c
  sooner {b} {t} {d} i c e r = record {
    steps = i + r.steps;
    fits = subst (λ z. Fits b t (i + r.steps) z) (sym (run_add P i r.steps c ∙ ap (λ z. run P r.steps z) e))
        (more_steps b t i r.steps (run P r.steps d) r.fits);
  }

  pub next : {b : ℕ} {t : Target} (c : State) → Ran P b t (step P c) → Ran P b t c
  next c r = sooner 1 c refl r

  pub there : {b : ℕ} {d : State} (i : ℕ) (c : State) → run P i c ≡ d → Ran P b (To d) c
  there i c e = record { steps = i; fits = e }

  once_fits : (b : ℕ) (t : Target) (n : ℕ) (c : State) → Fits b t n c → Fits (suc b) t (suc n) c
  once_fits b (To d) n c h = h
  once_fits b (Gone es) n c h = let p = h.0 in (omega (arith, p), h.1)

  -- a step pays for one of fuel
  pub once : {b : ℕ} {t : Target} (c : State) → Ran P b t (step P c) → Ran P (suc b) t c
  once {b} {t} c r = record { steps = suc r.steps; fits = once_fits b t r.steps (run P r.steps (step P c)) r.fits }

  weaker_fits : (b : ℕ) (t : Target) (n : ℕ) (c : State) → Fits (suc b) t n c → Fits b t n c
  weaker_fits b (To d) n c h = h
  weaker_fits b (Gone es) n c h = let p = h.0 in (omega (arith, p), h.1)

  pub weaker : {b : ℕ} {t : Target} {c : State} → Ran P (suc b) t c → Ran P b t c
  weaker {b} {t} {c} r = record { steps = r.steps; fits = weaker_fits b t r.steps (run P r.steps c) r.fits }

  pub bind : {A B : Type 0} {b : ℕ} {c : State} {go : A → World → State} (to : B → World → State) (x : Evaluation A) (m : A → World → Evaluation B)
      → Ran P b (target go x) c → ((a : A) (w : World) → Ran P b (target to (m a w)) (go a w)) → Ran P b (target to (and_then x m)) c
  bind {c = c} to (Yields a w) m r h = sooner r.steps c r.fits (h a w)
  bind to (Faults t w) m r h = r
  bind to (Quits n w) m r h = r
  bind to (Spent w) m r h = r

  pub bind_twice : {A B C : Type 0} {b : ℕ} {c : State} {go : A → World → State} (to : C → World → State) (x : Evaluation A)
      (m : A → World → Evaluation B) (n : B → World → Evaluation C)
      → Ran P b (target go x) c → ((a : A) (w : World) → Ran P b (target to (and_then (m a w) n)) (go a w)) → Ran P b (target to (and_then (and_then x m) n)) c
  bind_twice {c = c} to (Yields a w) m n r h = sooner r.steps c r.fits (h a w)
  bind_twice to (Faults t w) m n r h = r
  bind_twice to (Quits i w) m n r h = r
  bind_twice to (Spent w) m n r h = r

  -- an outcome, where it is left with the values and where it settles
  pub left_ran : {b : ℕ} (o : Outcome) (f : List ℕ) (k : List Task) (v : List Value) (cs : List Frame) →
      Ran P b (target (valued f k v cs) (given o)) (perform P (left o v) f no_guards k cs)
  left_ran (Gives x w) f k v cs = there 0 _ refl
  left_ran (Traps t w) f k v cs = there 0 _ refl
  left_ran (Exits n w) f k v cs = there 0 _ refl

  pub settled : {b : ℕ} (o : Outcome) (f : List ℕ) (k : List Task) (v : List Value) (cs : List Frame) →
      Ran P b (target (valued f k v cs) (given o)) (settle o f no_guards k v cs)
  settled (Gives x w) f k v cs = there 0 _ refl
  settled (Traps t w) f k v cs = there 0 _ refl
  settled (Exits n w) f k v cs = there 0 _ refl
