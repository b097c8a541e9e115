-- Runs of a program, step by step: what stands after n steps, and each way in which a run is over.
use Rattle.std.proofs.Common.{ℕ, zero, suc, ◌<◌, ◌≡◌, inl, inr, List, take, ◌++◌, Option, Some, refl, sym, ap, ◌∙◌, subst, arith}
use Rattle.rg_ports.specs.Written.{Written, more}
use Rattle.jump_meaning.specs.Code.{Code}
use Rattle.jump_meaning.specs.Values.{Event}
use Rattle.jump_meaning.specs.World.{World}
use Rattle.jump_meaning.specs.Behaviour as B
use Rattle.jump_meaning.specs.Step.{State, HasEnded, HasTrapped, step}
use Rattle.jump_meaning.specs.Runs.{run, shows, IsOver}
use Rattle.jump_meaning.proofs.RunFacts.{steps_of, run_grows}
use Rattle.step_interp.specs.declared.machine.Machine.{Machine}
use Rattle.step_interp.specs.Machines.{state_of}
use Rattle.step_interp.specs.declared.runs.RunAnswer.{RunAnswer}
use Rattle.step_interp.specs.declared.runs.RunAnswer.TheVariants.{Ended, Trapped, Spent, ReadFault, WriteFault, Memory}
use Rattle.step_interp.specs.declared.runs.After.TheVariants as A
use Rattle.step_interp.specs.Shown.{bytes_in}
use Rattle.step_interp.specs.Steps.{IsReading}
use Rattle.step_interp.specs.Answers.{Beginning, after, left_in, input_after, output_of, events_in, StandsAt, IsOverAt, GoesOnAt, IsSpentAt, IsStoppedAt, Answers, Agrees}
use Rattle.step_interp.specs.Followed.{Followed, Follows, HasPorts, IsLast}

last_step : (P : Code) (n : ℕ) (c : State) → run P (suc n) c ≡ step P (run P n c)
last_step P zero c = refl
last_step P (suc n) c = last_step P n (step P c)

last_input : (P : Code) (n : ℕ) (c : State) (b : List ℕ) → input_after P (suc n) c b ≡ left_in (run P (suc n) c) (input_after P n c b)
last_input P zero c b = refl
last_input P (suc n) c b = last_input P n (step P c) (left_in c b)

left_on : (c : State) (b : List ℕ) (m : Machine) (w : World) → c ≡ state_of m w → left_in c b ≡ w.input
left_on c b m w e = ap (λ d. left_in d b) e

input_on : (P : Code) (n : ℕ) (c : State) (b : List ℕ) (m : Machine) (w : World) → run P n c ≡ state_of m w → input_after P n c b ≡ w.input
input_on P zero c b m w e = left_on c b m w e
input_on P (suc n) c b m w e = last_input P n c b ∙ left_on (run P (suc n) c) (input_after P n c b) m w e

goes_on : (r : Beginning) (n : ℕ) (m : Machine) (w : World) → after r n ≡ state_of m w → GoesOnAt r n
goes_on r n m w e = record { events = w.events; goes = ap shows e }

pub stands_at : (r : Beginning) (n : ℕ) (m : Machine) (w : World) (written : Written) (l : Option (List ℕ)) → after r n ≡ state_of m w →
    HasPorts r.told w written l → StandsAt r n written l
stands_at r n m w written l e p = record {
  output = p.output ∙ ap (more r.told) (sym (ap output_of e));
  input = p.input ∙ ap Some (sym (input_on r.code n r.first r.input m w e));
}

one_more : (r : Beginning) (n : ℕ) (m : Machine) (w : World) → after r n ≡ state_of m w → after r (suc n) ≡ step r.code (state_of m w)
one_more r n m w e = last_step r.code n r.first ∙ ap (step r.code) e

-- one step further
pub next_at : (r : Beginning) (n : ℕ) (m k : Machine) (w : World) (written : Written) (l : Option (List ℕ)) → after r n ≡ state_of m w
    → Follows (step r.code (state_of m w)) r.told k written l → Follows (after r (suc n)) r.told k written l
next_at r n m k w written l e f = subst (λ c. Follows c r.told k written l) (sym (one_more r n m w e)) f

over_at : (r : Beginning) (n budget : ℕ) (m : Machine) (w : World) (s : List Event → State) (b : List Event → B.Shown) (written : Written)
    (l : Option (List ℕ)) → n < budget
    → ((es : List Event) → shows (s es) ≡ b es) → ((es : List Event) → events_in (s es) ≡ es) → ((es : List Event) → IsOver (shows (s es))) →
    ((es : List Event) (i : List ℕ) → left_in (s es) i ≡ i)
    → after r n ≡ state_of m w → IsLast (step r.code (state_of m w)) s r.told w written l → IsOverAt r b budget (suc n) written l
over_at r n budget m w s b written l lt a d o i e last =
    let there : after r (suc n) ≡ s last.events = one_more r n m w e ∙ last.over in record {
      within = omega (arith, lt);
      steps = steps_of r.code r.first n w.events (ap shows e) (subst (λ c. IsOver (shows c)) (sym there) (o last.events));
      ends = subst (λ c. shows c ≡ b (events_in c)) (sym there) (a last.events ∙ ap b (sym (d last.events)));
      stands = record {
        output = last.output ∙ ap (more r.told) (sym (ap output_of there ∙ ap bytes_in (d last.events)));
        input = last.input ∙ ap Some (sym (last_input r.code n r.first r.input ∙ ap (λ c. left_in c (input_after r.code n r.first r.input)) there ∙
            i last.events (input_after r.code n r.first r.input) ∙ input_on r.code n r.first r.input m w e));
      };
    }

-- the answer that stands where a step was the last one
pub answered : (r : Beginning) (n budget : ℕ) (m k : Machine) (w : World) (answer : RunAnswer) (written : Written) (l : Option (List ℕ)) →
    n < budget → after r n ≡ state_of m w
    → Followed r.code r.told (suc n) m w (A.Over answer) k written l → Answers r budget answer written l
answered r n budget m k w (Ended z i) written l lt e f =
    subst (λ j. IsOverAt r (B.Ended z) budget j written l) (sym f.0)
    (over_at r n budget m w (HasEnded z) (B.Ended z) written l lt (λ es. refl) (λ es. refl) (λ es. tt) (λ es i. refl) e f.1)
answered r n budget m k w (Trapped t i) written l lt e f =
    subst (λ j. IsOverAt r (B.Trapped t) budget j written l) (sym f.0)
    (over_at r n budget m w (HasTrapped t) (B.Trapped t) written l lt (λ es. refl) (λ es. refl) (λ es. tt) (λ es i. refl) e f.1)
answered r n budget m k w Spent written l lt e f = absurd f
answered r n budget m k w ReadFault written l lt e f =
    (n, record { within = lt; goes = goes_on r n m w e; reading = subst (IsReading r.code) (sym e) f.0; stands = stands_at r n m w written l e f.1 })
answered r n budget m k w WriteFault written l lt e f = (
  n,
  record {
    within = lt;
    goes = goes_on r n m w e;
    bytes = f.bytes;
    next = ap output_of (one_more r n m w e) ∙ f.next ∙ ap (λ bs. bs ++ f.bytes) (sym (ap output_of e));
    count = f.count;
    short = f.short;
    output = f.output ∙ ap (λ bs. more r.told (bs ++ take f.count f.bytes)) (sym (ap output_of e));
    input = f.input ∙ ap Some (sym (input_on r.code n r.first r.input m w e));
  },
)
answered r n budget m k w Memory written l lt e f = elim f as (λ _. (i : ℕ) × IsStoppedAt r budget i written l) [
  | inl p ↦ (n, record { within = omega (arith, lt); stands = stands_at r n m w written l e p })
  | inr h ↦ (
    suc n,
    record {
      within = omega (arith, lt);
      stands = stands_at r (suc n) h.machine h.follows.world written l (one_more r n m w e ∙ h.follows.same) h.follows.ports;
    },
  )
]

-- all steps were made
pub spent : (r : Beginning) (budget : ℕ) (m : Machine) (written : Written) (l : Option (List ℕ)) → Follows (after r budget) r.told m written l →
    IsSpentAt r budget written l
spent r budget m written l f = record { goes = goes_on r budget m f.world f.same; stands = stands_at r budget m f.world written l f.same f.ports }

-- ---- completeness

stays_over : (r : Beginning) (n budget : ℕ) (b : List Event → B.Shown) (written : Written) (l : Option (List ℕ))
    → ((es : List Event) (d : B.Shown) → B.Covers (b es) d → d ≡ b es) → IsOverAt r b budget n written l → (es : List Event) × (shows (after r budget) ≡ b es)
stays_over r n budget b written l k h = (
  events_in (after r n),
  k (events_in (after r n)) (shows (after r budget))
      (subst (λ s. B.Covers s (shows (after r budget))) h.ends (run_grows r.code n budget r.first h.within)),
)

pub agrees : (r : Beginning) (budget : ℕ) (answer : RunAnswer) (written : Written) (l : Option (List ℕ))
    → Answers r budget answer written l → ¬ (answer ≡ ReadFault) → ¬ (answer ≡ WriteFault) → Agrees answer (shows (after r budget))
agrees r budget (Ended z n) written l a f g = stays_over r n budget (B.Ended z) written l (λ es d c. c) a
agrees r budget (Trapped t n) written l a f g = stays_over r n budget (B.Trapped t) written l (λ es d c. c) a
agrees r budget Spent written l a f g = (a.goes.events, a.goes.goes)
agrees r budget ReadFault written l a f g = f refl
agrees r budget WriteFault written l a f g = g refl
agrees r budget Memory written l a f g = tt
