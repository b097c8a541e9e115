-- Two programs of which the first is steady behave the same where their cores do, and the second is steady.
use Rattle.std.proofs.Common.{None, ℕ, zero, suc, ◌<◌, ◌+◌, ℤ, Bool, true, false, cond, eqb, List, [], ◌∷◌, ◌≡◌, refl, ap, sym, ◌∙◌, subst, arith, eq-eqb, eqb-true, true≢false}
use Rattle.c_tree.specs.Trees.{Tree, Switch, If, While, Do, Break, Continue, Arm, Leap, Land}
use Rattle.jump_meaning.specs.Values.{Value}
use Rattle.jump_meaning.specs.Code.{Code}
use Rattle.jump_meaning.specs.World.{World}
use Rattle.jump_meaning.specs.Behaviour.{events_of}
use Rattle.jump_meaning.specs.Effects.{rest}
use Rattle.jump_meaning.specs.Tasks.{Task, Runs, Works, Arms}
use Rattle.jump_meaning.specs.Search.{find}
use Rattle.jump_meaning.specs.Step.{Guards, no_guards, with_guard, Frame, Waits, State, At, step}
use Rattle.jump_meaning.specs.Runs.{run, shows, IsEntry, start, SameBehaviour}
use Rattle.jump_meaning.specs.Steady.{AtMostOneSet, IsSourceTask, IsSilentTask, IsSilent, HasLanded, LeadsTo, IsSteadyCall, AreSteadyFrames, IsSteadyState, IsSteadyCode}
use Rattle.jump_meaning.proofs.RunFacts.{run_add, same_sym, same_trans}
use Rattle.core_laws.specs.Ways.{only, Lands}
use Rattle.core_laws.specs.Core.{core_code}
use Rattle.core_laws.specs.Better.{LeCode}
use Rattle.core_laws.proofs.TaskWays.{task_way}
use Rattle.core_laws.proofs.Lookup.{HasKeptExit, HasKeptLoop}
use Rattle.core_laws.proofs.Reach.{Agree, CalmFrames, Calm, body_in, Walks, landed, onward, Good, calmly, walking}
use Rattle.core_laws.proofs.Lawful.{HasNoInnerCase, IsLanded, Lawful}
use Rattle.core_laws.proofs.Match.{SafeAt}
use Rattle.core_laws.proofs.Same.{start_core, as_core, all_good, all_safe, entry_core}
use Rattle.core_laws.proofs.OrderRuns.{same_le, safe_on}
use Rattle.core_laws.proofs.Sides.{SureAt, RealSure, CoreSafe, real_sure, core_safe}
use Rattle.core_laws.proofs.All.{Plain, AllIn, AllState, all_next, all_start, sees_drop}
use Rattle.core_laws.proofs.Walked.{led}

-- ---- what the items of a body owe

abbrev pub Here : Code → List ℕ → Tree → List Task → Type 0
Here p f (Leap l) k = (k' : List Task) × (find l (body_in p f) ≡ Runs (Land l) ∷ k')
Here p f (Land l) k = IsLanded p f l → find l (body_in p f) ≡ Runs (Land l) ∷ k
Here p f (Switch s c) k = (l : ℕ) → IsLanded p f l → HasNoInnerCase c
Here p f Break k = HasKeptExit k
Here p f Continue k = HasKeptLoop k
Here p f (Arm l e) k = IsLanded p f l
Here p f _ k = Unit {0}

-- each item of each function has it
pub record Placed (p : Code) : Type 0 where
  pub body : (f : List ℕ) → AllIn (Here p) f (body_in p f) []

lawful : (p : Code) → Placed p → Lawful p (AllState (Here p))
lawful p b = record {
  next = λ c h. all_next (Here p) p b.body c h;
  at_leap = λ l f g k v cs w h. h.0.0;
  at_land = λ l f g k v cs w h. h.0.0;
  at_switch = λ s c l f g k v cs w h. h.0.0.0 l;
  at_break = λ f g k v cs w h. h.0.0;
  at_continue = λ f g k v cs w h. h.0.0;
  at_arm = λ l e f g k v cs w h. h.0.0;
  at_arms = λ l f g k v cs w h. h.0.0.1;
  at_end = λ f g k v cs w h. h.0.0;
  at_leave = λ f g k v cs w h. sees_drop (Here p) cs h.1;
}

-- ---- the ways of a steady program land

run_suc : (p : Code) (i : ℕ) (c : State) → run p (suc i) c ≡ step p (run p i c)
run_suc p i c = let e : suc i ≡ i + 1 = omega arith in ap (λ n. run p n c) e ∙ run_add p i 1 c

all_run : (p : Code) → Placed p → (i : ℕ) (c : State) → AllState (Here p) c → AllState (Here p) (run p i c)
all_run p b zero c h = h
all_run p b (suc i) c h = all_run p b i (step p c) (all_next (Here p) p b.body c h)

-- where one guard is set, and at most one, it alone is
alone : (l : ℕ) (g : Guards) → AtMostOneSet g → g l ≡ true → Agree g (only l)
alone l g s h x = at_x (g x) refl (eqb l x) refl
  where
    at_x : (b : Bool) → g x ≡ b → (c : Bool) → eqb l x ≡ c → g x ≡ eqb l x
    at_x true e true q = e ∙ sym q
    at_x true e false q = absurd (true≢false (sym (eq-eqb l x (s l x h e)) ∙ q))
    at_x false e true q = absurd (true≢false (sym h ∙ ap g (eqb-true l x q) ∙ e))
    at_x false e false q = e ∙ sym q

set_here : (l : ℕ) (g : Guards) → with_guard l true g l ≡ true
set_here l g = ap (λ b. cond b true (g l)) (eq-eqb l l refl)

arm_led : (p : Code) (l : ℕ) (f : List ℕ) (g : Guards) (k : List Task) (v : List Value) (cs : List Frame) (w : World) → Plain k →
    IsSteadyState p (At f (with_guard l true g) k v cs w) → task_way k l ≡ Lands
arm_led p l f g k v cs w h st = led k h (alone l (with_guard l true g) st.0.single (set_here l g)) (st.0.leads l (set_here l g))

sure_at : (p : Code) (c : State) → AllState (Here p) c → IsSteadyState p (step p c) → SureAt c
sure_at p (At f g (Runs (Arm l None) ∷ k) v cs w) h st = arm_led p l f g k v cs w h.0.1.0 st
sure_at p (At f g (Arms l ∷ k) v cs w) h st =
    λ e. arm_led p l f g k (rest v) cs w h.0.1.0 (subst (λ b. IsSteadyState p (At f (with_guard l b g) k (rest v) cs w)) e st)
sure_at p _ h st = tt

pub real_sures : (p : Code) → Placed p → IsSteadyCode p → (m : List ℕ) (arguments : List ℤ) → IsEntry p m arguments →
    (input : List ℕ) (answers : List ℤ) → RealSure p (start p m arguments input answers)
real_sures p b st m arguments e input answers i =
    let c = start p m arguments input answers in
    sure_at p (run p i c) (all_run p b i c (all_start (Here p) p b.body m arguments input answers))
    (subst (IsSteadyState p) (run_suc p i c) (st.at m arguments e input answers (suc i)))

-- ---- good states are steady

-- a silent way, step by step
record Lead (p : Code) (l : ℕ) (f : List ℕ) (cs : List Frame) (w : World) (c : State) : Type 0 where
  pub steps : ℕ
  pub silent : (i : ℕ) → i < steps → IsSilent l (run p i c)
  pub eventless : events_of (shows (run p steps c)) ≡ w.events
  pub landed : HasLanded p f cs l (run p steps c)

one_more : (p : Code) (l : ℕ) (n : ℕ) (c : State) → IsSilent l c → ((i : ℕ) → i < n → IsSilent l (run p i (step p c))) → (i : ℕ) → i < suc n →
    IsSilent l (run p i c)
one_more p l n c q s zero h = q
one_more p l n c q s (suc i) h = s i (omega arith)

lead : {p : Code} {l : ℕ} {f : List ℕ} {v : List Value} {cs : List Frame} {w : World} {c : State} → Walks p l f v cs w c → Lead p l f cs w c
lead (landed g k a e) = record { steps = 0; silent = λ i h. absurd (omega arith); eventless = refl; landed = (refl, refl, refl, e) }
lead {p = p} {l = l} {f = f} {cs = cs} {w = w} (onward g k u a q r) =
    let s = lead r in
    record { steps = suc s.steps; silent = one_more p l s.steps (At f g k u cs w) q s.silent; eventless = s.eventless; landed = s.landed }

false_true : {A : Type 0} (b : Bool) → b ≡ false → b ≡ true → A
false_true b p q = cc

calm_call : (p : Code) (c : State) (f : List ℕ) (g : Guards) (k : List Task) (ds : List Frame) → Agree g no_guards → IsSteadyCall p c f g k ds
calm_call p c f g k ds a = record {
  single = λ l m e q. false_true (g l) (a l) e;
  reset = λ s. a;
  leads = λ l e. false_true (g l) (a l) e;
}

calm_frames : (p : Code) (c : State) (cs : List Frame) → CalmFrames cs → AreSteadyFrames p c cs
calm_frames p c [] h = tt
calm_frames p c (Waits f g k v ∷ cs) h = (calm_call p c f g k cs h.0, calm_frames p c cs h.1)

calm_state : (p : Code) (c : State) → Calm c → IsSteadyState p c
calm_state p (At f g k v cs w) h = (calm_call p (At f g k v cs w) f g k cs h.0, calm_frames p (At f g k v cs w) cs h.1)
calm_state p _ h = tt

only_one : (l : ℕ) (g : Guards) → Agree g (only l) → AtMostOneSet g
only_one l g ag a b p q = sym (eqb-true l a (sym (ag a) ∙ p)) ∙ eqb-true l b (sym (ag b) ∙ q)

walking_call : (p : Code) (l : ℕ) (f : List ℕ) (g : Guards) (k : List Task) (u : List Value) (cs : List Frame) (w : World) → Agree g (only l) →
    (IsSourceTask k → ⊥) → Lead p l f cs w (At f g k u cs w) → IsSteadyCall p (At f g k u cs w) f g k cs
walking_call p l f g k u cs w a n s = record {
  single = only_one l g a;
  reset = λ h. absurd (n h);
  leads = λ m e. subst (λ m. LeadsTo p f cs m (At f g k u cs w)) (eqb-true l m (sym (a m) ∙ e))
      (record { steps = s.steps; silent = s.silent; eventless = s.eventless; landed = s.landed });
}

silent_no_source : (l : ℕ) (k : List Task) → IsSilentTask l k → IsSourceTask k → ⊥
silent_no_source l (Runs (If t a b) ∷ k) q h = h
silent_no_source l (Runs (While t a) ∷ k) q h = h
silent_no_source l (Runs (Do a t) ∷ k) q h = h
silent_no_source l (Runs (Switch s c) ∷ k) q h = h
silent_no_source l (Runs (Leap m) ∷ k) q h = h
silent_no_source l (Runs (Land m) ∷ k) q h = h
silent_no_source l (Runs _ ∷ k) q h = q
silent_no_source l (Works o ∷ k) q h = q
silent_no_source l _ q h = h

walking_state : (p : Code) (l : ℕ) (f : List ℕ) (v : List Value) (cs : List Frame) (w : World) {c : State} → CalmFrames cs → Walks p l f v cs w c →
    IsSteadyState p c
walking_state p l f v cs w cf (landed g k a e) =
    (walking_call p l f g (Runs (Land l) ∷ k) v cs w a (λ h. h) (lead (landed g k a e)), calm_frames p (At f g (Runs (Land l) ∷ k) v cs w) cs cf)
walking_state p l f v cs w cf (onward g k u a q r) =
    (walking_call p l f g k u cs w a (silent_no_source l k q) (lead (onward g k u a q r)), calm_frames p (At f g k u cs w) cs cf)

good_steady : (p : Code) {c : State} → Good p c → IsSteadyState p c
good_steady p (calmly {c = c} h) = calm_state p c h
good_steady p (walking l f v cs w cf s) = walking_state p l f v cs w cf s

-- a program whose Arms all have ways that land is steady
pub sure_steady : (p : Code) → Placed p → ((m : List ℕ) (arguments : List ℤ) → IsEntry p m arguments → (input : List ℕ) (answers : List ℤ) →
    RealSure p (start p m arguments input answers)) → IsSteadyCode p
sure_steady p b sures = record {
  at = λ m arguments e input answers n. good_steady p (all_good p (AllState (Here p)) (lawful p b) (RealSure p) (real_sure p)
      (all_start (Here p) p b.body) sures m arguments e input answers n);
}

-- ---- the theorem

-- no run of the program meets an Arm
abbrev pub MeetsNoArm : Code → Type 0
MeetsNoArm p = (m : List ℕ) (arguments : List ℤ) → IsEntry p m arguments → (input : List ℕ) (answers : List ℤ) (n : ℕ) →
    SafeAt (run p n (start p m arguments input answers))

-- whatever keeps the behaviour of a core that meets no Arm, and the fact that it meets none, keeps that of the program
pub between : (p q : Code) → Placed p → Placed q → (MeetsNoArm (core_code p) → SameBehaviour (core_code p) (core_code q)) →
    (MeetsNoArm (core_code p) → MeetsNoArm (core_code q)) → IsSteadyCode p → IsSteadyCode q × SameBehaviour p q
between p q b d same keep st =
    let starts_p = all_start (Here p) p b.body in
    let starts_q = all_start (Here q) q d.body in
    let sures_p = real_sures p b st in
    let same_p = as_core p (AllState (Here p)) (lawful p b) (RealSure p) (real_sure p) starts_p sures_p in
    let safe_p : MeetsNoArm (core_code p) = λ m arguments e input answers. all_safe p (AllState (Here p)) (lawful p b) (RealSure p) (real_sure p)
    starts_p sures_p m arguments ((entry_core p m arguments).1 e) input answers in
    let safe_q = keep safe_p in
    let sures_q : (m : List ℕ) (arguments : List ℤ) → IsEntry q m arguments → (input : List ℕ) (answers : List ℤ) →
    CoreSafe q (start q m arguments input answers) =
    λ m arguments e input answers i. subst (λ c. SafeAt (run (core_code q) i c)) (sym (start_core q m arguments input answers))
    (safe_q m arguments ((entry_core q m arguments).0 e) input answers i) in
    let same_q = as_core q (AllState (Here q)) (lawful q d) (CoreSafe q) (core_safe q) starts_q sures_q in (
      record {
        at = λ m arguments e input answers n. good_steady q
            (all_good q (AllState (Here q)) (lawful q d) (CoreSafe q) (core_safe q) starts_q sures_q m arguments e input answers n);
      },
      same_trans p (core_code p) q same_p (same_trans (core_code p) (core_code q) q (same safe_p) (same_sym q (core_code q) same_q)),
    )

pub rewritten : (p q : Code) → Placed p → Placed q → LeCode (core_code p) (core_code q) → IsSteadyCode p → IsSteadyCode q × SameBehaviour p q
rewritten p q b d le st = between p q b d (same_le (core_code p) (core_code q) le) (safe_on (core_code p) (core_code q) le) st
