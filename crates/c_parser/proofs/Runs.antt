-- What a run over the tokens of a text answers, at a token and at the end.
use Rattle.std.proofs.Common.{◌≡◌, ◌<◌, ◌+◌, ℕ, zero, suc, Bool, true, false, cond, List, [], ◌∷◌, ◌++◌, length, drop, get_or, Option, Some, None, Ok, Err, refl, sym, ap, subst, ◌∙◌, arith}
use Rattle.std.proofs.lemmas.List.{at_drop_more, at_drop_all}
use Rattle.c_types.specs.declared.refusal.ReadStop.{ReadStop}
use Rattle.c_types.specs.declared.refusal.ReadStop.TheVariants as stops
use Rattle.c_types.specs.declared.refusal.Refusal.{Refusal}
use Rattle.c_types.specs.Stop.{Stops}
use Rattle.c_lexer.specs.declared.token.Token.{Token}
use Rattle.c_lexer.specs.Faults.{refusal_of}
use Rattle.c_grammar.specs.declared.class.Class.{Class}
use Rattle.c_grammar.specs.declared.class.Class.TheVariants as c
use Rattle.c_grammar.specs.declared.syntax.Syntax.{Syntax}
use Rattle.c_grammar.specs.TokenClasses.{class_of, classes_of, offset_of}
use Rattle.c_parse_step.specs.declared.load.Load.{Load}
use Rattle.c_parse_step.specs.Starts.{Frames, Next}
use Rattle.c_parse_step.specs.Steps.{Steps}
use Rattle.c_parse_step.specs.Machine.{Left, TooMany, count_behind, is_over, go_on, run, step}
use Rattle.c_parser.specs.Answers.{accepted, whole, answer, parsed}
use Rattle.c_parse_step.proofs.Resumes.{steps_taken, steps_failed}

-- ---- offsets

offset_at : (text : List ℕ) (tokens : List Token) (i : ℕ) (d : Token) → i < length tokens → offset_of text tokens i ≡ (get_or tokens i d).start
offset_at text [] i d h = absurd (omega (arith, h))
offset_at text (x ∷ tokens) zero d h = refl
offset_at text (x ∷ tokens) (suc i) d h = offset_at text tokens i d (omega (arith, h))

offset_at_end : (text : List ℕ) (tokens : List Token) → offset_of text tokens (length tokens) ≡ length text
offset_at_end text [] = refl
offset_at_end text (x ∷ tokens) = offset_at_end text tokens

-- ---- the run, in front of token i

stops_by : (stop : ReadStop) (refusal : Refusal) (text : List ℕ) (tokens : List Token) → stop ≡ stops.Refused refusal →
    parsed text tokens ≡ Err refusal → Stops stop (parsed text tokens)
stops_by stop refusal text tokens e h = subst (λ x. Stops x (parsed text tokens)) (sym e) h

-- the answer to what is left of the tokens is that to all of them
abbrev pub Goes : List ℕ → List Token → Frames → ℕ → ℕ → Type 0
Goes text tokens z n i = parsed text tokens ≡ answer text tokens (run z n i (classes_of text (drop i tokens) ++ c.End ∷ []))

goes_at : (text : List ℕ) (tokens : List Token) (z : Frames) (n i : ℕ) (d : Token) (t : Class) → i < length tokens →
    t ≡ class_of text (get_or tokens i d) → Goes text tokens z n i
    → parsed text tokens ≡ answer text tokens (go_on (step z t i) i n (λ x m. run x m (i + 1) (classes_of text (drop (i + 1) tokens) ++ c.End ∷ [])))
goes_at text tokens z n i d t h e goes =
    goes
    ∙ at_drop_more (λ l. answer text tokens (run z n i (classes_of text l ++ c.End ∷ []))) tokens i d h
    ∙ ap (λ (x : Class). answer text tokens (go_on (step z x i) i n (λ x m. run x m (i + 1) (classes_of text (drop (i + 1) tokens) ++ c.End ∷ [])))) (sym e)

pub stops_unexpected : (text : List ℕ) (tokens : List Token) (z : Frames) (n i : ℕ) (d : Token) (t : Class) → i < length tokens →
    t ≡ class_of text (get_or tokens i d) → Goes text tokens z n i
    → (o : Option Load) (w : Frames) → Steps (step z t i) (Ok o) w → o ≡ None
    → (stop : ReadStop) → stop ≡ stops.Refused (refusal_of 10 text (get_or tokens i d).start) → Stops stop (parsed text tokens)
stops_unexpected text tokens z n i d t h e goes o w steps is stop by =
    stops_by stop _ text tokens by
    (goes_at text tokens z n i d t h e goes
    ∙ ap (λ (x : Next). answer text tokens (go_on x i n (λ x m. run x m (i + 1) (classes_of text (drop (i + 1) tokens) ++ c.End ∷ []))))
    (steps_failed _ o w steps is)
    ∙ ap (λ (k : ℕ). Err (refusal_of 10 text k)) (offset_at text tokens i d h))

pub stops_over : (text : List ℕ) (tokens : List Token) (z : Frames) (n i : ℕ) (d : Token) (t : Class) → i < length tokens →
    t ≡ class_of text (get_or tokens i d) → Goes text tokens z n i
    → (o : Option Load) (w : Frames) → Steps (step z t i) (Ok o) w → (l : Load) → o ≡ Some l → is_over l n ≡ true
    → (stop : ReadStop) → stop ≡ stops.Refused (refusal_of 11 text (get_or tokens i d).start) → Stops stop (parsed text tokens)
stops_over text tokens z n i d t h e goes o w steps l is over stop by =
    stops_by stop _ text tokens by
    (goes_at text tokens z n i d t h e goes
    ∙ ap (λ (x : Next). answer text tokens (go_on x i n (λ x m. run x m (i + 1) (classes_of text (drop (i + 1) tokens) ++ c.End ∷ []))))
    (steps_taken _ o l w steps is)
    ∙ ap (λ (b : Bool). answer text tokens
    (cond b (TooMany i) (run w (count_behind l.role n) (i + 1) (classes_of text (drop (i + 1) tokens) ++ c.End ∷ [])))) over
    ∙ ap (λ (k : ℕ). Err (refusal_of 11 text k)) (offset_at text tokens i d h))

-- ---- the run, in front of the end

goes_at_end : (text : List ℕ) (tokens : List Token) (z : Frames) (n i : ℕ) → i ≡ length tokens → Goes text tokens z n i
    → parsed text tokens ≡ answer text tokens (go_on (step z c.End (length tokens)) (length tokens) n (λ x m. Left x))
goes_at_end text tokens z n i e goes =
    goes
    ∙ at_drop_all (λ l. answer text tokens (run z n i (classes_of text l ++ c.End ∷ []))) tokens i (omega (arith, e))
    ∙ ap (λ (k : ℕ). answer text tokens (go_on (step z c.End k) k n (λ x m. Left x))) e

pub stops_at_end : (text : List ℕ) (tokens : List Token) (z : Frames) (n i : ℕ) → i ≡ length tokens → Goes text tokens z n i
    → (o : Option Load) (w : Frames) → Steps (step z c.End (length tokens)) (Ok o) w → o ≡ None
    → (stop : ReadStop) → stop ≡ stops.Refused (refusal_of 10 text (length text)) → Stops stop (parsed text tokens)
stops_at_end text tokens z n i e goes o w steps is stop by =
    stops_by stop _ text tokens by
    (goes_at_end text tokens z n i e goes
    ∙ ap (λ (x : Next). answer text tokens (go_on x (length tokens) n (λ x m. Left x))) (steps_failed _ o w steps is)
    ∙ ap (λ (k : ℕ). Err (refusal_of 10 text k)) (offset_at_end text tokens))

pub stops_over_at_end : (text : List ℕ) (tokens : List Token) (z : Frames) (n i : ℕ) → i ≡ length tokens → Goes text tokens z n i
    → (o : Option Load) (w : Frames) → Steps (step z c.End (length tokens)) (Ok o) w → (l : Load) → o ≡ Some l → is_over l n ≡ true
    → (stop : ReadStop) → stop ≡ stops.Refused (refusal_of 11 text (length text)) → Stops stop (parsed text tokens)
stops_over_at_end text tokens z n i e goes o w steps l is over stop by =
    stops_by stop _ text tokens by
    (goes_at_end text tokens z n i e goes
    ∙ ap (λ (x : Next). answer text tokens (go_on x (length tokens) n (λ x m. Left x))) (steps_taken _ o l w steps is)
    ∙ ap (λ (b : Bool). answer text tokens (cond b (TooMany (length tokens)) (Left w))) over
    ∙ ap (λ (k : ℕ). Err (refusal_of 11 text k)) (offset_at_end text tokens))

-- all tokens are taken: what the frames that they leave hold
pub left_at_end : (text : List ℕ) (tokens : List Token) (z : Frames) (n i : ℕ) → i ≡ length tokens → Goes text tokens z n i
    → (o : Option Load) (w : Frames) → Steps (step z c.End (length tokens)) (Ok o) w → (l : Load) → o ≡ Some l → is_over l n ≡ false
    → (found : Option Syntax) → found ≡ accepted w → parsed text tokens ≡ whole text found
left_at_end text tokens z n i e goes o w steps l is within found has =
    goes_at_end text tokens z n i e goes
    ∙ ap (λ (x : Next). answer text tokens (go_on x (length tokens) n (λ x m. Left x))) (steps_taken _ o l w steps is)
    ∙ ap (λ (b : Bool). answer text tokens (cond b (TooMany (length tokens)) (Left w))) within
    ∙ ap (whole text) (sym has)

pub stops_without_file : (text : List ℕ) (tokens : List Token) → parsed text tokens ≡ whole text None
    → (stop : ReadStop) → stop ≡ stops.Refused (refusal_of 10 text (length text)) → Stops stop (parsed text tokens)
stops_without_file text tokens left stop by = stops_by stop _ text tokens by left
