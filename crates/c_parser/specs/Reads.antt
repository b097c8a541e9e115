-- What a parse answers, in the words of the grammar.
use Rattle.std.specs.Prelude.{◌≡◌, ◌⊎◌, ℕ, List, [], ◌∷◌, ◌++◌, Result, Ok, Err}
use Rattle.c_types.specs.declared.refusal.Refusal.{Refusal}
use Rattle.c_types.specs.declared.refusal.ReadStop.{ReadStop}
use Rattle.c_types.specs.declared.refusal.ReadStop.TheVariants as stops
use Rattle.c_lexer.specs.declared.token.Token.{Token}
use Rattle.c_lexer.specs.Faults.{refusal_of}
use Rattle.c_grammar.specs.declared.class.Class.{Class}
use Rattle.c_grammar.specs.declared.class.Class.TheVariants as c
use Rattle.c_grammar.specs.declared.syntax.Syntax.{Syntax}
use Rattle.c_grammar.specs.TokenClasses.{classes_of, offset_of}
use Rattle.c_grammar.specs.Derives.{Derives, IsUnexpected, IsTooMany}

-- the refusal names, with this reason, the token that is at fault so, or the end of the text behind the last
pub record IsRefusedAt (IsFault : List Class → ℕ → Type 0) (reason : ℕ) (text : List ℕ) (tokens : List Token) (refusal : Refusal) : Type 0 where
  pub number : ℕ
  pub fault : IsFault (classes_of text tokens ++ c.End ∷ []) number
  pub named : refusal ≡ refusal_of reason text (offset_of text tokens number)

-- The tokens derive the syntax that is returned; or no list that derives has one of them where it stands, or one is over a limit,
-- and the first such token is named; or memory ran out.
abbrev pub Reads : List ℕ → List Token → Result Syntax ReadStop → Type 0
Reads text tokens (Ok x) = Derives (classes_of text tokens) x
Reads text tokens (Err (stops.Refused refusal)) = IsRefusedAt IsUnexpected 10 text tokens refusal ⊎ IsRefusedAt IsTooMany 11 text tokens refusal
Reads text tokens (Err stops.Memory) = Unit {0}
