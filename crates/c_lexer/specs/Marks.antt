-- The marks (ISO/IEC 9899:2011, 6.4.6, without `#`, `##` and the digraphs).
use Rattle.std.specs.Prelude.{ℕ, List, [], ◌∷◌, Option, None, find, codes}
use Rattle.std.specs.Str.{bytes_eq}
use Rattle.c_lexer.specs.declared.mark.Mark.{Mark}
use Rattle.c_lexer.specs.declared.mark.Mark.TheVariants.{OpenBracket, CloseBracket, OpenParenthesis, CloseParenthesis, OpenBrace, CloseBrace, Dot, Arrow, PlusPlus, MinusMinus, Ampersand, Star, Plus, Minus, Tilde, Exclamation, Slash, Percent, ShiftLeft, ShiftRight, Less, Greater, LessEquals, GreaterEquals, EqualsEquals, ExclamationEquals, Caret, Bar, AmpersandAmpersand, BarBar, Question, Colon, Semicolon, Ellipsis, Equals, StarEquals, SlashEquals, PercentEquals, PlusEquals, MinusEquals, ShiftLeftEquals, ShiftRightEquals, AmpersandEquals, CaretEquals, BarEquals, Comma}

abbrev pub mark_text : Mark → List ℕ
mark_text OpenBracket = codes "["
mark_text CloseBracket = codes "]"
mark_text OpenParenthesis = codes "("
mark_text CloseParenthesis = codes ")"
mark_text OpenBrace = codes "{"
mark_text CloseBrace = codes "}"
mark_text Dot = codes "."
mark_text Arrow = codes "->"
mark_text PlusPlus = codes "++"
mark_text MinusMinus = codes "--"
mark_text Ampersand = codes "&"
mark_text Star = codes "*"
mark_text Plus = codes "+"
mark_text Minus = codes "-"
mark_text Tilde = codes "~"
mark_text Exclamation = codes "!"
mark_text Slash = codes "/"
mark_text Percent = codes "%"
mark_text ShiftLeft = codes "<<"
mark_text ShiftRight = codes ">>"
mark_text Less = codes "<"
mark_text Greater = codes ">"
mark_text LessEquals = codes "<="
mark_text GreaterEquals = codes ">="
mark_text EqualsEquals = codes "=="
mark_text ExclamationEquals = codes "!="
mark_text Caret = codes "^"
mark_text Bar = codes "|"
mark_text AmpersandAmpersand = codes "&&"
mark_text BarBar = codes "||"
mark_text Question = codes "?"
mark_text Colon = codes ":"
mark_text Semicolon = codes ";"
mark_text Ellipsis = codes "..."
mark_text Equals = codes "="
mark_text StarEquals = codes "*="
mark_text SlashEquals = codes "/="
mark_text PercentEquals = codes "%="
mark_text PlusEquals = codes "+="
mark_text MinusEquals = codes "-="
mark_text ShiftLeftEquals = codes "<<="
mark_text ShiftRightEquals = codes ">>="
mark_text AmpersandEquals = codes "&="
mark_text CaretEquals = codes "^="
mark_text BarEquals = codes "|="
mark_text Comma = codes ","

-- the marks other than `...`
abbrev pub marks : List Mark
marks =
    OpenBracket ∷ CloseBracket ∷ OpenParenthesis ∷ CloseParenthesis ∷ OpenBrace ∷ CloseBrace ∷ Dot ∷ Arrow
    ∷ PlusPlus ∷ MinusMinus ∷ Ampersand ∷ Star ∷ Plus ∷ Minus ∷ Tilde ∷ Exclamation
    ∷ Slash ∷ Percent ∷ ShiftLeft ∷ ShiftRight ∷ Less ∷ Greater ∷ LessEquals ∷ GreaterEquals
    ∷ EqualsEquals ∷ ExclamationEquals ∷ Caret ∷ Bar ∷ AmpersandAmpersand ∷ BarBar ∷ Question ∷ Colon
    ∷ Semicolon ∷ Equals ∷ StarEquals ∷ SlashEquals ∷ PercentEquals ∷ PlusEquals ∷ MinusEquals ∷ ShiftLeftEquals
    ∷ ShiftRightEquals ∷ AmpersandEquals ∷ CaretEquals ∷ BarEquals ∷ Comma ∷ []

-- the mark that these bytes are, other than `...`
abbrev pub mark_of : List ℕ → Option Mark
mark_of [] = None
mark_of (b ∷ bs) = find (λ m. bytes_eq (b ∷ bs) (mark_text m)) marks
