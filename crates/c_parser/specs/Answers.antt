-- What a parse answers.
use Rattle.std.specs.Prelude.{ℕ, List, [], ◌∷◌, ◌++◌, length, Option, Some, None, Result, Ok, Err}
use Rattle.c_types.specs.declared.refusal.Refusal.{Refusal}
use Rattle.c_lexer.specs.declared.token.Token.{Token}
use Rattle.c_lexer.specs.Faults.{refusal_of}
use Rattle.c_grammar.specs.declared.class.Class.TheVariants as c
use Rattle.c_grammar.specs.declared.syntax.Syntax.{Syntax}
use Rattle.c_grammar.specs.TokenClasses.{classes_of, offset_of}
use Rattle.c_parse_step.specs.declared.frame.Frame.{Frame}
use Rattle.c_parse_step.specs.declared.frame.Frame.TheVariants as s
use Rattle.c_parse_step.specs.Starts.{Frames}
use Rattle.c_parse_step.specs.Machine.{Ran, Left, Unexpected, TooMany, start, run}

-- the file that the frame holds
abbrev pub file_in : Frame → Option Syntax
file_in (s.Accepted x) = Some x
file_in _ = None

-- the file that the frames hold once all tokens are taken
abbrev pub accepted : Frames → Option Syntax
accepted [] = None
accepted (frame ∷ z) = file_in frame

-- the file, and where there is none a refusal at the end of the text
abbrev pub whole : List ℕ → Option Syntax → Result Syntax Refusal
whole text (Some x) = Ok x
whole text None = Err (refusal_of 10 text (length text))

-- what a run comes to: the token of a refusal by its offset in the text
abbrev pub answer : List ℕ → List Token → Ran → Result Syntax Refusal
answer text tokens (Left z) = whole text (accepted z)
answer text tokens (Unexpected k) = Err (refusal_of 10 text (offset_of text tokens k))
answer text tokens (TooMany k) = Err (refusal_of 11 text (offset_of text tokens k))

-- the syntax of the tokens of a text, or their first fault
abbrev pub parsed : List ℕ → List Token → Result Syntax Refusal
parsed text tokens = answer text tokens (run start 0 0 (classes_of text tokens ++ c.End ∷ []))
