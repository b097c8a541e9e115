-- The refusal of a text for its first jump: a `goto`, or a case or default label that begins no section of a switch.
use Rattle.std.specs.Prelude.{◌≡◌, ◌⊎◌, ℕ, List, Option, Some, None, option_map, Result, Ok, Err}
use Rattle.c_types.specs.declared.refusal.Refusal.{Refusal}
use Rattle.c_lexer.specs.declared.token.Token.{Token}
use Rattle.c_lexer.specs.declared.token.Scanned.{Scanned}
use Rattle.c_lexer.specs.Answers.{scanning}
use Rattle.c_lexer.specs.Faults.{refusal_of}
use Rattle.c_grammar.specs.declared.syntax.Syntax.{Syntax}
use Rattle.c_grammar.specs.TokenClasses.{offset_of}
use Rattle.c_parser.specs.Answers.{parsed}
use Rattle.c_grammar.specs.Words.{word_of}
use Rattle.c_grammar.specs.Parts.{file_of}
use Rattle.tidy_refusal.specs.FileJumps.{first_jump}
use Rattle.c_text.specs.Reading.{IsInSubset, IsRefusedFor}

-- of a syntax of these tokens
abbrev pub jump_refusal : List ℕ → List Token → Syntax → Option Refusal
jump_refusal text tokens x = option_map (λ at. refusal_of 60 text (offset_of text tokens at)) (first_jump (file_of (word_of text tokens) x))

abbrev pub jump_of_syntax : List ℕ → List Token → Result Syntax Refusal → Option Refusal
jump_of_syntax text tokens (Ok x) = jump_refusal text tokens x
jump_of_syntax text tokens (Err fault) = None

abbrev pub jump_of_tokens : List ℕ → Result Scanned Refusal → Option Refusal
jump_of_tokens text (Ok s) = jump_of_syntax text s.tokens (parsed text s.tokens)
jump_of_tokens text (Err fault) = None

-- of a text, at the first such token, if it has one
abbrev pub text_jump : List ℕ → Option Refusal
text_jump text = jump_of_tokens text (scanning text)

-- a text that is refused where no jump may be: it is outside of the subset, or it has a jump
abbrev pub IsRefusedForJumps : List ℕ → Refusal → Type 0
IsRefusedForJumps text refusal = IsRefusedFor text refusal ⊎ (IsInSubset text × (text_jump text ≡ Some refusal))

-- a text of the subset without jumps
abbrev pub IsWithoutJumps : List ℕ → Type 0
IsWithoutJumps text = IsInSubset text × (text_jump text ≡ None)
