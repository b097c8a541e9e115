-- Runs that note what the limits count, and what such a run says of the run with the limits.
use Rattle.std.proofs.Common.{◌≡◌, ◌+◌, ℕ, Bool, true, false, cond, nat_lt, ◌||◌, List, [], ◌∷◌, ◌++◌, length, Option, Some, None, refl, arith, ap, subst, ◌∙◌}
use Rattle.c_grammar.specs.declared.class.Class.{Class}
use Rattle.c_grammar.specs.Events.{Event, Uncounted, Counted, Outside, Opened, number_of, count_of, most, over, earlier, first_over}
use Rattle.c_parse_step.specs.declared.load.Load.{Load}
use Rattle.c_parse_step.specs.declared.load.Role.{Role}
use Rattle.c_parse_step.specs.declared.load.Role.TheVariants as role
use Rattle.c_parse_step.specs.Starts.{Frames, Next, Fails, Takes}
use Rattle.c_parse_step.specs.Machine.{step, count_behind, is_deep, is_long, is_over}

abbrev pub token_event : Role → Event
token_event role.Counted = Counted
token_event role.Uncounted = Uncounted
token_event role.Outside = Outside

abbrev pub opened_event : Option ℕ → List Event → List Event
opened_event None q = q
opened_event (Some n) q = Opened n ∷ q

-- the events of a token
abbrev pub noted : Load → List Event → List Event
noted l q = token_event l.role ∷ opened_event l.opens q

pub data Trace : Type 0 where
  Through : Frames → List Event → Trace
  Stuck : ℕ → Trace

abbrev pub log_on : Next → ℕ → List Event → (Frames → List Event → Trace) → Trace
log_on Fails at q k = Stuck at
log_on (Takes l z) at q k = k z (noted l q)

-- the run without limits
abbrev pub logged : Frames → ℕ → List Class → List Event → Trace
logged z at [] q = Through z q
logged z at (t ∷ ts) q = log_on (step z t at) at q (λ x e. logged x (at + 1) ts e)

-- ---- one token

pub number_noted : (l : Load) (q : List Event) → number_of (noted l q) ≡ number_of q + 1
number_noted l q = by_role l.role l.opens q
  where
    by_opens : (n : Option ℕ) (q : List Event) → number_of (opened_event n q) ≡ number_of q
    by_opens None q = refl
    by_opens (Some n) q = refl

    by_role : (x : Role) (n : Option ℕ) (q : List Event) → number_of (token_event x ∷ opened_event n q) ≡ number_of q + 1
    by_role role.Counted n q = ap (λ (m : ℕ). m + 1) (by_opens n q)
    by_role role.Uncounted n q = ap (λ (m : ℕ). m + 1) (by_opens n q)
    by_role role.Outside n q = ap (λ (m : ℕ). m + 1) (by_opens n q)

pub count_noted : (l : Load) (q : List Event) → count_of (noted l q) ≡ count_behind l.role (count_of q)
count_noted l q = by_role l.role l.opens q
  where
    by_opens : (n : Option ℕ) (q : List Event) → count_of (opened_event n q) ≡ count_of q
    by_opens None q = refl
    by_opens (Some n) q = refl

    by_role : (x : Role) (n : Option ℕ) (q : List Event) → count_of (token_event x ∷ opened_event n q) ≡ count_behind x (count_of q)
    by_role role.Counted n q = ap (λ (m : ℕ). m + 1) (by_opens n q)
    by_role role.Uncounted n q = by_opens n q
    by_role role.Outside n q = refl

-- the first token over a limit stays the first
pub over_stays : (l : Load) (q : List Event) (k : ℕ) → first_over q ≡ Some k → first_over (noted l q) ≡ Some k
over_stays l q k h = by_role l.role l.opens q (λ n. by_opens n q h)
  where
    by_opens : (n : Option ℕ) (q : List Event) → first_over q ≡ Some k → first_over (opened_event n q) ≡ Some k
    by_opens None q h = h
    by_opens (Some n) q h = ap (λ o. earlier o (over (Opened n) q)) h

    by_role : (x : Role) (n : Option ℕ) (q : List Event) → ((n : Option ℕ) → first_over (opened_event n q) ≡ Some k) →
        first_over (token_event x ∷ opened_event n q) ≡ Some k
    by_role x n q h = ap (λ o. earlier o (over (token_event x) (opened_event n q))) (h n)

-- a token goes over a limit exactly if the run says so
pub over_noted : (l : Load) (q : List Event) → first_over q ≡ None → first_over (noted l q) ≡ cond (is_over l (count_of q)) (Some (number_of q)) None
over_noted l q h = go l.opens l.role
  where
    shallow : (o : Option ℕ) (x : Role) → o ≡ None → (n : ℕ) (m : ℕ) →
        earlier o (over (token_event x) q) ≡ cond (is_long x (count_of q)) (Some (number_of q)) None
    shallow o role.Counted e n m = ap (λ a. earlier a (over Counted q)) e
    shallow o role.Uncounted e n m = ap (λ a. earlier a None) e
    shallow o role.Outside e n m = ap (λ a. earlier a None) e

    deep : (b : Bool) (n : ℕ) (x : Role) (o : Option ℕ) → o ≡ None → earlier (earlier o (cond b (Some (number_of q)) None))
        (over (token_event x) (Opened n ∷ q)) ≡ cond (b || is_long x (count_of q)) (Some (number_of q)) None
    deep true n x o e = ap (λ a. earlier (earlier a (Some (number_of q))) (over (token_event x) (Opened n ∷ q))) e
    deep false n role.Counted o e = ap (λ a. earlier (earlier a None) (over Counted (Opened n ∷ q))) e
    deep false n _ o e = ap (λ a. earlier (earlier a None) None) e

    go : (n : Option ℕ) (x : Role) → first_over (token_event x ∷ opened_event n q) ≡ cond (is_deep n || is_long x (count_of q)) (Some (number_of q)) None
    go None x = shallow (first_over q) x h 0 0
    go (Some n) x = deep (nat_lt most n) n x (first_over q) h

-- ---- all tokens

-- the number of the token behind these
abbrev pub place_behind : ℕ → List Class → ℕ
place_behind at [] = at
place_behind at (t ∷ ts) = place_behind (at + 1) ts

pub place_length : (ts : List Class) (at : ℕ) → place_behind at ts ≡ length ts + at
place_length [] at = omega arith
place_length (t ∷ ts) at = let e = place_length ts (at + 1) in omega (arith, e)

-- a run over a list is one over its front and then one over what follows
pub record Halves (z : Frames) (at : ℕ) (front more : List Class) (q : List Event) (x : Frames) (e : List Event) : Type 0 where
  pub middle : Frames
  pub events : List Event
  pub first : logged z at front q ≡ Through middle events
  pub second : logged middle (place_behind at front) more events ≡ Through x e

pub halves : (front more : List Class) (z : Frames) (at : ℕ) (q : List Event) (x : Frames) (e : List Event) →
    logged z at (front ++ more) q ≡ Through x e → Halves z at front more q x e
halves [] more z at q x e h = record { middle = z; events = q; first = refl; second = h }
halves (t ∷ front) more z at q x e h = go (step z t at) refl (λ y a. halves front more y (at + 1) a x e) h
  where
    go : (n : Next) → step z t at ≡ n → ((y : Frames) (a : List Event) → logged y (at + 1) (front ++ more) a ≡ Through x e → Halves y (at + 1) front more a x e)
        → log_on n at q (λ y a. logged y (at + 1) (front ++ more) a) ≡ Through x e → Halves z at (t ∷ front) more q x e
    go Fails s f g = absurd cc
    go (Takes l y) s f g =
        let k = f y (noted l q) g in
        record {
          middle = k.middle;
          events = k.events;
          first = ap (λ (n : Next). log_on n at q (λ y a. logged y (at + 1) front a)) s ∙ k.first;
          second = k.second;
        }

pub stays : (ts : List Class) (z : Frames) (at k : ℕ) (q : List Event) (x : Frames) (e : List Event) → first_over q ≡ Some k →
    logged z at ts q ≡ Through x e → first_over e ≡ Some k
stays [] z at k q x e o h = go q o h
  where
    go : (a : List Event) → first_over a ≡ Some k → Through z a ≡ Through x e → first_over e ≡ Some k
    go a o g = let s : a ≡ e = cc in subst (λ (b : List Event). first_over b ≡ Some k) s o
stays (t ∷ ts) z at k q x e o h = go (step z t at) (λ y a. stays ts y (at + 1) k a x e) h
  where
    go : (n : Next) → ((y : Frames) (a : List Event) → first_over a ≡ Some k → logged y (at + 1) ts a ≡ Through x e → first_over e ≡ Some k)
        → log_on n at q (λ y a. logged y (at + 1) ts a) ≡ Through x e → first_over e ≡ Some k
    go Fails f g = absurd cc
    go (Takes l y) f g = f y (noted l q) (over_stays l q k o) g
