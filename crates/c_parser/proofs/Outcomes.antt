-- What a run comes to: the frames that all tokens leave, or the first token that fits nowhere or is over a limit, and what was so up to there.
use Rattle.std.proofs.Common.{◌≡◌, ◌+◌, ℕ, Bool, true, false, cond, List, [], ◌∷◌, ◌++◌, length, Some, None, refl, arith, ap, subst, ◌∙◌}
use Rattle.c_grammar.specs.declared.class.Class.{Class}
use Rattle.c_grammar.specs.Events.{Event, number_of, count_of, first_over}
use Rattle.c_grammar.specs.Derives.{Viable}
use Rattle.c_parse_step.specs.declared.load.Load.{Load}
use Rattle.c_parse_step.specs.Starts.{Frames, Next, Fails, Takes}
use Rattle.c_parse_step.specs.Machine.{step, count_behind, is_over, start, Ran, Left, Unexpected, TooMany, go_on, run}
use Rattle.c_parser.proofs.Fronts.{Front, Ready, Goes}
use Rattle.c_parser.proofs.Keeps.{keeps}
use Rattle.c_parser.proofs.Closing.{closes}
use Rattle.c_parser.proofs.Traces.{noted, Through, log_on, logged, number_noted, count_noted, over_noted}

-- these frames, behind these events, have taken the tokens, and none is over a limit
pub record Taken (z : Frames) (at : ℕ) (q : List Event) (P : Front) (ts : List Class) (x : Frames) : Type 0 where
  pub events : List Event
  pub through : logged z at ts q ≡ Through x events
  pub within : first_over events ≡ None
  pub number : number_of events ≡ length ts + at
  pub ready : Ready x (λ r. P (ts ++ r))

-- the tokens in front of token k are taken, and at that one is this fault
pub record Halted (Fault : Frames → List Event → Class → Type 0) (z : Frames) (at : ℕ) (q : List Event) (P : Front) (ts : List Class) (k : ℕ) : Type 0 where
  pub front : List Class
  pub token : Class
  pub rest : List Class
  pub middle : Frames
  pub split : ts ≡ front ++ token ∷ rest
  pub place : length front + at ≡ k
  pub taken : Taken z at q P front middle
  pub fault : Fault middle taken.events token

-- the token fits nowhere
abbrev pub Misfits : ℕ → Frames → List Event → Class → Type 0
Misfits k z q t = step z t k ≡ Fails

-- the token fits, and is over a limit
pub record Exceeds (k : ℕ) (z : Frames) (q : List Event) (t : Class) : Type 0 where
  pub load : Load
  pub after : Frames
  pub takes : step z t k ≡ Takes load after
  pub over : is_over load (count_of q) ≡ true

-- what a run that ends so has done
abbrev pub Outcome : Frames → ℕ → List Event → Front → List Class → Ran → Type 0
Outcome z at q P ts (Left x) = Taken z at q P ts x
Outcome z at q P ts (Unexpected k) = Halted (Misfits k) z at q P ts k
Outcome z at q P ts (TooMany k) = Halted (Exceeds k) z at q P ts k

-- one more token in front
abbrev taken_behind : (z : Frames) (at : ℕ) (q : List Event) (P : Front) (t : Class) (l : Load) (y : Frames) → step z t at ≡ Takes l y
    → (ts : List Class) (x : Frames) → Taken y (at + 1) (noted l q) (λ r. P (t ∷ r)) ts x → Taken z at q P (t ∷ ts) x
taken_behind z at q P t l y e ts x k =
    record {
      events = k.events;
      through = ap (λ (n : Next). log_on n at q (λ a b. logged a (at + 1) ts b)) e ∙ k.through;
      within = k.within;
      number = omega (arith, k.number);
      ready = k.ready;
    }

halted_behind : (F : Frames → List Event → Class → Type 0) (z : Frames) (at : ℕ) (q : List Event) (P : Front) (t : Class) (l : Load) (y : Frames) →
    step z t at ≡ Takes l y
    → (ts : List Class) (k : ℕ) → Halted F y (at + 1) (noted l q) (λ r. P (t ∷ r)) ts k → Halted F z at q P (t ∷ ts) k
halted_behind F z at q P t l y e ts k h =
    record {
      front = t ∷ h.front;
      token = h.token;
      rest = h.rest;
      middle = h.middle;
      split = ap (λ (a : List Class). t ∷ a) h.split;
      place = omega (arith, h.place);
      taken = taken_behind z at q P t l y e h.front h.middle h.taken;
      fault = h.fault;
    }

outcome_behind : (z : Frames) (at : ℕ) (q : List Event) (P : Front) (t : Class) (l : Load) (y : Frames) → step z t at ≡ Takes l y
    → (ts : List Class) (o : Ran) → Outcome y (at + 1) (noted l q) (λ r. P (t ∷ r)) ts o → Outcome z at q P (t ∷ ts) o
outcome_behind z at q P t l y e ts (Left x) h = taken_behind z at q P t l y e ts x h
outcome_behind z at q P t l y e ts (Unexpected k) h = halted_behind (Misfits k) z at q P t l y e ts k h
outcome_behind z at q P t l y e ts (TooMany k) h = halted_behind (Exceeds k) z at q P t l y e ts k h

abbrev taken_none : (z : Frames) (at : ℕ) (q : List Event) (P : Front) → first_over q ≡ None → number_of q ≡ at → Ready z P → Taken z at q P [] z
taken_none z at q P h n i = record { events = q; through = refl; within = h; number = omega (arith, n); ready = i }

-- what each run has done
pub outcome : (ts : List Class) (z : Frames) (at : ℕ) (q : List Event) (P : Front) → first_over q ≡ None → number_of q ≡ at → Ready z P →
    Outcome z at q P ts (run z (count_of q) at ts)
outcome [] z at q P h n i = taken_none z at q P h n i
outcome (t ∷ ts) z at q P h n i = go (step z t at) refl (keeps z P i t at) (λ y a. outcome ts y (at + 1) a (λ r. P (t ∷ r)))
  where
    deeper : (l : Load) (y : Frames) → step z t at ≡ Takes l y → Ready y (λ r. P (t ∷ r))
        → ((y : Frames) (a : List Event) → first_over a ≡ None → number_of a ≡ at + 1 → Ready y (λ r. P (t ∷ r)) →
        Outcome y (at + 1) a (λ r. P (t ∷ r)) ts (run y (count_of a) (at + 1) ts))
        → (b : Bool) → is_over l (count_of q) ≡ b → Outcome z at q P (t ∷ ts) (cond b (TooMany at) (run y (count_behind l.role (count_of q)) (at + 1) ts))
    deeper l y e g f true b =
        record {
          front = [];
          token = t;
          rest = ts;
          middle = z;
          split = refl;
          place = omega arith;
          taken = taken_none z at q P h n i;
          fault = record { load = l; after = y; takes = e; over = b };
        }
    deeper l y e g f false b =
        let w : first_over (noted l q) ≡ None = over_noted l q h ∙ ap (λ (x : Bool). cond x (Some (number_of q)) None) b in
        let m : number_of (noted l q) ≡ at + 1 = number_noted l q ∙ ap (λ (x : ℕ). x + 1) n in
        subst (λ (x : ℕ). Outcome z at q P (t ∷ ts) (run y x (at + 1) ts)) (count_noted l q) (outcome_behind z at q P t l y e ts _ (f y (noted l q) w m g))

    go : (x : Next) → step z t at ≡ x → Goes x (λ r. P (t ∷ r))
        → ((y : Frames) (a : List Event) → first_over a ≡ None → number_of a ≡ at + 1 → Ready y (λ r. P (t ∷ r)) →
        Outcome y (at + 1) a (λ r. P (t ∷ r)) ts (run y (count_of a) (at + 1) ts))
        → Outcome z at q P (t ∷ ts) (go_on x at (count_of q) (λ y m. run y m (at + 1) ts))
    go Fails e g f =
        record {
          front = [];
          token = t;
          rest = ts;
          middle = z;
          split = refl;
          place = omega arith;
          taken = taken_none z at q P h n i;
          fault = e;
        }
    go (Takes l y) e g f = deeper l y e g f (is_over l (count_of q)) refl

-- in front of the first token nothing was read
begun : Ready start (λ r. r)
begun = ([], tt, (λ r. refl))

-- the outcome of a whole run
pub outcome_of : (ts : List Class) (o : Ran) → run start 0 0 ts ≡ o → Outcome start 0 [] (λ r. r) ts o
outcome_of ts o e = subst (λ (x : Ran). Outcome start 0 [] (λ r. r) ts x) e (outcome ts start 0 [] (λ r. r) refl refl begun)

-- tokens that frames have taken are the front of a list that derives
pub taken_viable : (ts : List Class) (z : Frames) → Ready z (λ r. ts ++ r) → Viable ts
taken_viable ts z i = let k = closes z (λ r. ts ++ r) i in record { file = k.0; more = k.1; formed = k.2; begins = k.3 }
