-- The tokens of a text stand by their numbers: words of the classes that a derivation has there.
use Rattle.std.specs.Prelude.{◌≡◌, ◌≤◌, ℕ, ◌+◌, List, [], ◌∷◌, Option, Some, None}
use Rattle.c_lexer.specs.declared.mark.Mark.{Mark}
use Rattle.c_lexer.specs.declared.token.TokenKind.{TokenKind}
use Rattle.c_lexer.specs.declared.token.TokenKind.TheVariants as k
use Rattle.c_lexer.specs.Marks.{mark_text}
use Rattle.c_grammar.specs.declared.class.Class.{Class}
use Rattle.c_grammar.specs.declared.class.Class.TheVariants as c
use Rattle.c_grammar.specs.TokenClasses.{class_of_bytes}
use Rattle.c_resolved_defs.specs.PrintableExpressions.{IsName}

-- what the lexer finds of a word
abbrev pub IsFound : TokenKind → List ℕ → Type 0
IsFound k.Name w = IsName w
IsFound k.Mark w = (m : Mark) × (w ≡ mark_text m)
IsFound _ w = Unit {0}

-- behind the last token stands the end
abbrev pub IsThere : Option TokenKind → List ℕ → Type 0
IsThere (Some kind) w = IsFound kind w
IsThere None w = Unit {0}

abbrev pub class_there : Option TokenKind → List ℕ → Class
class_there (Some kind) w = class_of_bytes kind w
class_there None w = c.End

pub record IsClassed (class : Class) (w : List ℕ) : Type 0 where
  pub kind : Option TokenKind
  pub there : IsThere kind w
  pub classed : class_there kind w ≡ class

-- words of these classes stand from this number on, and the tokens are not too many to be counted
abbrev pub Stand : (ℕ → List ℕ) → ℕ → List Class → Type 0
Stand word at [] = at ≤ 4294967296
Stand word at (class ∷ rest) = IsClassed class (word at) × Stand word (at + 1) rest
