-- What the run over a text's tokens answers is what the grammar says of them, given that the machine accepts each file that derives.
use Rattle.std.proofs.Common.{◌≡◌, ◌+◌, ℕ, Bool, true, false, cond, List, [], ◌∷◌, ◌++◌, length, append_assoc, Option, Some, None, refl, arith, ap, sym, subst, ◌∙◌}
use Rattle.std.proofs.lemmas.List.{append-nil}
use Rattle.c_grammar.specs.declared.class.Class.{Class}
use Rattle.c_grammar.specs.declared.class.Class.TheVariants as c
use Rattle.c_grammar.specs.declared.syntax.Syntax.{Syntax}
use Rattle.c_grammar.specs.Events.{Event, Outside, number_of, count_of, earlier, first_over}
use Rattle.c_grammar.specs.Files.{Top, file_tokens, FitsFile}
use Rattle.c_grammar.specs.FileSyntax.{file_node}
use Rattle.c_grammar.specs.Counts.{file_events}
use Rattle.c_grammar.specs.Derives.{first_too_many, Derives, Viable, NotBefore, IsUnexpected, IsTooMany}
use Rattle.c_parse_step.specs.declared.load.Load.{Load}
use Rattle.c_parse_step.specs.declared.frame.Frame.TheVariants as s
use Rattle.c_parse_step.specs.Starts.{Frames, Next, Fails, Takes}
use Rattle.c_parse_step.specs.Machine.{step, is_over, start, Left, Unexpected, TooMany, run}
use Rattle.c_parser.proofs.Fronts.{Front, Ready, Goes}
use Rattle.c_parser.proofs.Keeps.{keeps}
use Rattle.c_parser.proofs.Closing.{closes}
use Rattle.c_parser.proofs.Traces.{noted, Trace, Through, log_on, logged, number_noted, over_noted, place_behind, place_length, halves, stays}
use Rattle.c_parser.proofs.Ends.{IsEnded, step_ended}
use Rattle.c_parser.proofs.Outcomes.{outcome_of, taken_viable}

-- the machine accepts what derives, with its syntax and its events
abbrev pub Completes : Type 0
Completes = (file : List Top) → FitsFile file → logged start 0 (file_tokens file (c.End ∷ [])) [] ≡ Through (s.Accepted (file_node file) ∷ [])
    (Outside ∷ file_events file [])

-- ---- traces

same_frames : (x y : Frames) (a b : List Event) → Through x a ≡ Through y b → x ≡ y
same_frames x y a b e = cc

same_events : (x y : Frames) (a b : List Event) → Through x a ≡ Through y b → a ≡ b
same_events x y a b e = cc

pub same_file : (x y : Syntax) (a b : List Event) → Through (s.Accepted x ∷ []) a ≡ Through (s.Accepted y ∷ []) b → x ≡ y
same_file x y a b e = cc

-- a token outside all expressions goes over no limit
over_outside : (o : Option ℕ) → earlier o None ≡ o
over_outside None = refl
over_outside (Some k) = refl

-- what follows these frames and events, in a run that began with them
behind : (front more : List Class) (z : Frames) (q : List Event) (x : Frames) (e : List Event) → logged start 0 front [] ≡ Through z q →
    logged start 0 (front ++ more) [] ≡ Through x e
    → logged z (length front + 0) more q ≡ Through x e
behind front more z q x e h k =
    let y = halves front more start 0 [] x e k in
    let w : Through y.middle y.events ≡ Through z q = sym y.first ∙ h in
    ap (λ (a : Frames). logged a (length front + 0) more q) (sym (same_frames y.middle z y.events q w))
    ∙ ap (λ (b : List Event). logged y.middle (length front + 0) more b) (sym (same_events y.middle z y.events q w))
    ∙ ap (λ (n : ℕ). logged y.middle n more y.events) (sym (place_length front 0))
    ∙ y.second

-- the same for a file
behind_file : Completes → (file : List Top) → FitsFile file → (front more : List Class) → file_tokens file (c.End ∷ []) ≡ front ++ more →
    (z : Frames) (q : List Event) → logged start 0 front [] ≡ Through z q
    → logged z (length front + 0) more q ≡ Through (s.Accepted (file_node file) ∷ []) (Outside ∷ file_events file [])
behind_file complete file w front more t z q h = behind front more z q _ _ h (ap (λ (l : List Class). logged start 0 l []) (sym t) ∙ complete file w)

-- no token before this one goes over a limit
sooner : (at : ℕ) (o : Option ℕ) → NotBefore (at + 1) o → NotBefore at o
sooner at None h = tt
sooner at (Some k) h = omega (arith, h)

-- The first token over a limit, where no token so far is, comes later.
pub later : (ts : List Class) (z : Frames) (at : ℕ) (q : List Event) (x : Frames) (e : List Event) → first_over q ≡ None → number_of q ≡ at →
    logged z at ts q ≡ Through x e → NotBefore at (first_over e)
later [] z at q x e h n k = subst (λ (o : Option ℕ). NotBefore at o) (sym h ∙ ap first_over (same_events z x q e k)) tt
later (t ∷ ts) z at q x e h n k = go (step z t at) (λ y a. later ts y (at + 1) a x e) k
  where
    deeper : (l : Load) (y : Frames) → ((y : Frames) (a : List Event) → first_over a ≡ None → number_of a ≡ at + 1 →
        logged y (at + 1) ts a ≡ Through x e → NotBefore (at + 1) (first_over e))
        → logged y (at + 1) ts (noted l q) ≡ Through x e → (b : Bool) → is_over l (count_of q) ≡ b → NotBefore at (first_over e)
    deeper l y f g true b =
        let o : first_over (noted l q) ≡ Some (number_of q) = over_noted l q h ∙ ap (λ (x : Bool). cond x (Some (number_of q)) None) b in
        subst (λ (o : Option ℕ). NotBefore at o) (sym (stays ts y (at + 1) (number_of q) (noted l q) x e o g)) (omega (arith, n))
    deeper l y f g false b =
        let o : first_over (noted l q) ≡ None = over_noted l q h ∙ ap (λ (x : Bool). cond x (Some (number_of q)) None) b in
        sooner at (first_over e) (f y (noted l q) o (number_noted l q ∙ ap (λ (x : ℕ). x + 1) n) g)

    go : (m : Next) → ((y : Frames) (a : List Event) → first_over a ≡ None → number_of a ≡ at + 1 → logged y (at + 1) ts a ≡ Through x e →
        NotBefore (at + 1) (first_over e))
        → log_on m at q (λ y a. logged y (at + 1) ts a) ≡ Through x e → NotBefore at (first_over e)
    go Fails f g = absurd cc
    go (Takes l y) f g = deeper l y f g (is_over l (count_of q)) refl

-- ---- what the run answers

-- what is accepted derives, and its syntax is that of the derivation
pub sound : Completes → (tokens : List Class) (x : Syntax) → run start 0 0 (tokens ++ c.End ∷ []) ≡ Left (s.Accepted x ∷ []) → Derives tokens x
sound complete tokens x h =
    let y = outcome_of (tokens ++ c.End ∷ []) (Left (s.Accepted x ∷ [])) h in
    let file = y.ready.0 in
    let t : tokens ++ c.End ∷ [] ≡ file_tokens file (c.End ∷ []) = sym (append-nil (tokens ++ c.End ∷ [])) ∙ y.ready.2 [] in
    let e : Through (s.Accepted x ∷ []) y.events ≡ Through (s.Accepted (file_node file) ∷ []) (Outside ∷ file_events file []) =
    sym y.through ∙ ap (λ (l : List Class). logged start 0 l []) t ∙ complete file y.ready.1 in
    record {
      file = file;
      formed = y.ready.1;
      spelled = sym t;
      syntax_of = same_file x (file_node file) y.events (Outside ∷ file_events file []) e;
      within = sym (over_outside (first_too_many file)) ∙ ap first_over
          (sym (same_events (s.Accepted x ∷ []) (s.Accepted (file_node file) ∷ []) y.events (Outside ∷ file_events file []) e)) ∙ y.within;
    }

-- where the run refuses a token as one that fits nowhere, it is the first that no list that derives has there
pub first_fault : Completes → (tokens : List Class) (k : ℕ) → run start 0 0 tokens ≡ Unexpected k → IsUnexpected tokens k
first_fault complete tokens k h =
    let y = outcome_of tokens (Unexpected k) h in
    let place : length y.front + 0 ≡ k = y.place in
    record {
      front = y.front;
      token = y.token;
      rest = y.rest;
      split = y.split;
      place = omega (arith, y.place);
      viable = taken_viable y.front y.middle y.taken.ready;
      none =
          λ v. stuck (length y.front + 0) (step y.middle y.token (length y.front + 0)) (ap (step y.middle y.token) place ∙ y.fault) y.taken.events _ _ _
          (behind_file complete v.file v.formed y.front (y.token ∷ v.more) (v.begins ∙ append_assoc y.front (y.token ∷ []) v.more) y.middle
          y.taken.events y.taken.through);
      within =
          λ v. subst (λ (o : Option ℕ). NotBefore k o) (over_outside (first_too_many v.file))
          (subst (λ (n : ℕ). NotBefore n (first_over (Outside ∷ file_events v.file []))) place
          (later v.more y.middle (length y.front + 0) y.taken.events _ _ y.taken.within y.taken.number
          (behind_file complete v.file v.formed y.front v.more v.begins y.middle y.taken.events y.taken.through)));
    }
  where
    stuck : (at : ℕ) (n : Next) → n ≡ Fails → (q : List Event) (k : Frames → List Event → Trace) (x : Frames) (e : List Event) →
        log_on n at q k ≡ Through x e → ⊥
    stuck at Fails f q k x e g = absurd cc
    stuck at (Takes l z) f q k x e g = absurd cc

-- where the run refuses a token as one over a limit, it is the first that is, in each list that derives and begins with the tokens up to it
pub first_too_many_is : Completes → (tokens : List Class) (k : ℕ) → run start 0 0 tokens ≡ TooMany k → IsTooMany tokens k
first_too_many_is complete tokens k h =
    let y = outcome_of tokens (TooMany k) h in
    let place : length y.front + 0 ≡ k = y.place in
    let takes : step y.middle y.token (length y.front + 0) ≡ Takes y.fault.load y.fault.after = ap (step y.middle y.token) place ∙ y.fault.takes in
    let number : number_of y.taken.events ≡ k = y.taken.number ∙ place in
    let over : first_over (noted y.fault.load y.taken.events) ≡ Some (number_of y.taken.events) =
    over_noted y.fault.load y.taken.events y.taken.within ∙ ap (λ (b : Bool). cond b (Some (number_of y.taken.events)) None) y.fault.over in
    let ready : Ready y.fault.after (λ r. y.front ++ y.token ∷ r) =
    subst (λ (n : Next). Goes n (λ r. y.front ++ y.token ∷ r)) takes (keeps y.middle (λ r. y.front ++ r) y.taken.ready y.token (length y.front + 0)) in
    let v = taken_viable_by y.front y.token y.fault.after ready in
    record {
      front = y.front;
      token = y.token;
      rest = y.rest;
      split = y.split;
      place = omega (arith, y.place);
      viable = v;
      over =
          λ v. sym (over_outside (first_too_many v.file))
          ∙ stays v.more y.fault.after (length y.front + 0 + 1) k (noted y.fault.load y.taken.events) _ _ (over ∙ ap (λ (n : ℕ). Some n) number)
          (ap (λ (n : Next). log_on n (length y.front + 0) y.taken.events (λ a b. logged a (length y.front + 0 + 1) v.more b)) (sym takes)
          ∙ behind_file complete v.file v.formed y.front (y.token ∷ v.more) (v.begins ∙ append_assoc y.front (y.token ∷ []) v.more) y.middle
          y.taken.events y.taken.through);
    }
  where
    taken_viable_by : (front : List Class) (t : Class) (z : Frames) → Ready z (λ r. front ++ t ∷ r) → Viable (front ++ t ∷ [])
    taken_viable_by front t z i =
        let k = closes z (λ r. front ++ t ∷ r) i in
        record { file = k.0; more = k.1; formed = k.2; begins = k.3 ∙ sym (append_assoc front (t ∷ []) k.1) }

-- ---- the end of the text

alone : (l : Load) (z : Frames) (P : Front) → Ready z P → IsEnded (Takes l z) → (x : Syntax) × (z ≡ s.Accepted x ∷ [])
alone l (s.Accepted x ∷ []) P i h = (x, refl)
alone l (s.Accepted x ∷ y ∷ z) P i h = absurd i
alone l _ P i h = absurd h

-- where all tokens and the end are taken, a file is there, and nothing else
pub left_accepted : (tokens : List Class) (z : Frames) → run start 0 0 (tokens ++ c.End ∷ []) ≡ Left z → (x : Syntax) × (z ≡ s.Accepted x ∷ [])
left_accepted tokens z h =
    let y = outcome_of (tokens ++ c.End ∷ []) (Left z) h in
    let k = halves tokens (c.End ∷ []) start 0 [] z y.events y.through in
    go (place_behind 0 tokens) (step k.middle c.End (place_behind 0 tokens)) (step_ended k.middle (place_behind 0 tokens)) k.events y.events k.second
    (λ l w. alone l z _ y.ready w)
  where
    go : (at : ℕ) (n : Next) → IsEnded n → (q e : List Event) → log_on n at q (λ y a. Through y a) ≡ Through z e →
        ((l : Load) → IsEnded (Takes l z) → (x : Syntax) × (z ≡ s.Accepted x ∷ [])) → (x : Syntax) × (z ≡ s.Accepted x ∷ [])
    go at Fails w q e g f = absurd cc
    go at (Takes l y) w q e g f = f l (subst (λ (a : Frames). IsEnded (Takes l a)) (same_frames y z (noted l q) e g) w)
