-- What the answer to the tokens of a text says in the words of the grammar.
use Rattle.std.proofs.Common.{◌≡◌, ℕ, List, [], ◌∷◌, ◌++◌, Result, Ok, Err, inl, inr, refl, ap, subst}
use Rattle.c_types.specs.declared.refusal.Refusal.{Refusal}
use Rattle.c_types.specs.declared.refusal.ReadStop.{ReadStop}
use Rattle.c_types.specs.declared.refusal.ReadStop.TheVariants as stops
use Rattle.c_types.specs.Stop.{Gives}
use Rattle.c_lexer.specs.declared.token.Token.{Token}
use Rattle.c_lexer.specs.Faults.{refusal_of}
use Rattle.c_grammar.specs.declared.class.Class.TheVariants as c
use Rattle.c_grammar.specs.declared.syntax.Syntax.{Syntax}
use Rattle.c_grammar.specs.TokenClasses.{classes_of, offset_of}
use Rattle.c_grammar.specs.Derives.{Derives}
use Rattle.c_parse_step.specs.declared.frame.Frame.TheVariants as s
use Rattle.c_parse_step.specs.Starts.{Frames}
use Rattle.c_parse_step.specs.Machine.{start, Ran, Left, Unexpected, TooMany, run}
use Rattle.c_parser.specs.Answers.{accepted, whole, answer, parsed}
use Rattle.c_parser.specs.Reads.{Reads}
use Rattle.c_parser.proofs.Decides.{Says, says, accepts}

same_syntax : (a : Result Syntax Refusal) (x y : Syntax) → a ≡ Ok x → a ≡ Ok y → x ≡ y
same_syntax a x y e g = cc

same_refusal : (a : Result Syntax Refusal) (x y : Refusal) → a ≡ Err x → a ≡ Err y → x ≡ y
same_refusal a x y e g = cc

not_both : (a : Result Syntax Refusal) (x : Syntax) (y : Refusal) → a ≡ Ok x → a ≡ Err y → ⊥
not_both a x y e g = cc

-- frames that hold a file answer it
whole_of : (text : List ℕ) (z : Frames) (x : Syntax) → z ≡ s.Accepted x ∷ [] → whole text (accepted z) ≡ Ok x
whole_of text z x e = ap (λ (a : Frames). whole text (accepted a)) e

-- the answer says of the tokens what is so
pub reads : (text : List ℕ) (tokens : List Token) (result : Result Syntax ReadStop) → Gives (λ x. x) result (parsed text tokens) → Reads text tokens result
reads text tokens result g = by_outcome (run start 0 0 (classes_of text tokens ++ c.End ∷ [])) (says (classes_of text tokens)) result g
  where
    by_outcome : (o : Ran) → Says (classes_of text tokens) o → (r : Result Syntax ReadStop) → Gives (λ x. x) r (answer text tokens o) → Reads text tokens r
    by_outcome (Left z) i (Ok x) g = subst (λ (y : Syntax). Derives (classes_of text tokens) y)
        (same_syntax (whole text (accepted z)) i.0 x (whole_of text z i.0 i.1) g) i.2
    by_outcome (Left z) i (Err (stops.Refused y)) g = absurd (not_both (whole text (accepted z)) i.0 y (whole_of text z i.0 i.1) g)
    by_outcome (Unexpected k) i (Ok x) g = absurd (not_both (answer text tokens (Unexpected k)) x (refusal_of 10 text (offset_of text tokens k)) g refl)
    by_outcome (Unexpected k) i (Err (stops.Refused y)) g =
        inl (record { number = k; fault = i; named = same_refusal (answer text tokens (Unexpected k)) y (refusal_of 10 text (offset_of text tokens k)) g refl })
    by_outcome (TooMany k) i (Ok x) g = absurd (not_both (answer text tokens (TooMany k)) x (refusal_of 11 text (offset_of text tokens k)) g refl)
    by_outcome (TooMany k) i (Err (stops.Refused y)) g =
        inr (record { number = k; fault = i; named = same_refusal (answer text tokens (TooMany k)) y (refusal_of 11 text (offset_of text tokens k)) g refl })
    by_outcome _ i (Err stops.Memory) g = tt

-- tokens that derive a syntax give it
pub parses : (text : List ℕ) (tokens : List Token) (x : Syntax) → Derives (classes_of text tokens) x → parsed text tokens ≡ Ok x
parses text tokens x d = ap (answer text tokens) (accepts (classes_of text tokens) x d)
