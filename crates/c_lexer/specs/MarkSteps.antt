-- How the code finds a mark: it grows by a byte.
use Rattle.std.specs.Prelude.{ℕ, Bool, true, false, cond, ◌==◌, List, [], ◌∷◌, Option, Some, None}
use Rattle.c_lexer.specs.declared.mark.Mark.{Mark}
use Rattle.c_lexer.specs.declared.mark.Mark.TheVariants.{OpenBracket, CloseBracket, OpenParenthesis, CloseParenthesis, OpenBrace, CloseBrace, Dot, Arrow, PlusPlus, MinusMinus, Ampersand, Star, Plus, Minus, Tilde, Exclamation, Slash, Percent, ShiftLeft, ShiftRight, Less, Greater, LessEquals, GreaterEquals, EqualsEquals, ExclamationEquals, Caret, Bar, AmpersandAmpersand, BarBar, Question, Colon, Semicolon, Equals, StarEquals, SlashEquals, PercentEquals, PlusEquals, MinusEquals, ShiftLeftEquals, ShiftRightEquals, AmpersandEquals, CaretEquals, BarEquals, Comma}

-- the mark that is this byte alone
abbrev pub mark_at : ℕ → Option Mark
mark_at b =
    cond (b == 91) (Some OpenBracket) (
    cond (b == 93) (Some CloseBracket) (
    cond (b == 40) (Some OpenParenthesis) (
    cond (b == 41) (Some CloseParenthesis) (
    cond (b == 123) (Some OpenBrace) (
    cond (b == 125) (Some CloseBrace) (
    cond (b == 46) (Some Dot) (
    cond (b == 38) (Some Ampersand) (
    cond (b == 42) (Some Star) (
    cond (b == 43) (Some Plus) (
    cond (b == 45) (Some Minus) (
    cond (b == 126) (Some Tilde) (
    cond (b == 33) (Some Exclamation) (
    cond (b == 47) (Some Slash) (
    cond (b == 37) (Some Percent) (
    cond (b == 60) (Some Less) (
    cond (b == 62) (Some Greater) (
    cond (b == 94) (Some Caret) (
    cond (b == 124) (Some Bar) (
    cond (b == 63) (Some Question) (
    cond (b == 58) (Some Colon) (
    cond (b == 59) (Some Semicolon) (
    cond (b == 61) (Some Equals) (
    cond (b == 44) (Some Comma) None)))))))))))))))))))))))

-- the mark with this byte behind it; `...` is no mark and a byte, as `..` is none
abbrev pub longer : Mark → ℕ → Option Mark
longer Ampersand b = cond (b == 38) (Some AmpersandAmpersand) (cond (b == 61) (Some AmpersandEquals) None)
longer Star b = cond (b == 61) (Some StarEquals) None
longer Plus b = cond (b == 43) (Some PlusPlus) (cond (b == 61) (Some PlusEquals) None)
longer Minus b = cond (b == 62) (Some Arrow) (cond (b == 45) (Some MinusMinus) (cond (b == 61) (Some MinusEquals) None))
longer Exclamation b = cond (b == 61) (Some ExclamationEquals) None
longer Slash b = cond (b == 61) (Some SlashEquals) None
longer Percent b = cond (b == 61) (Some PercentEquals) None
longer ShiftLeft b = cond (b == 61) (Some ShiftLeftEquals) None
longer ShiftRight b = cond (b == 61) (Some ShiftRightEquals) None
longer Less b = cond (b == 60) (Some ShiftLeft) (cond (b == 61) (Some LessEquals) None)
longer Greater b = cond (b == 62) (Some ShiftRight) (cond (b == 61) (Some GreaterEquals) None)
longer Caret b = cond (b == 61) (Some CaretEquals) None
longer Bar b = cond (b == 124) (Some BarBar) (cond (b == 61) (Some BarEquals) None)
longer Equals b = cond (b == 61) (Some EqualsEquals) None
longer _ b = None

abbrev pub is_slash : Mark → Bool
is_slash Slash = true
is_slash _ = false

abbrev pub is_dot : Mark → Bool
is_dot Dot = true
is_dot _ = false

-- no byte goes on with it
abbrev pub is_alone : Mark → Bool
is_alone OpenBracket = true
is_alone CloseBracket = true
is_alone OpenParenthesis = true
is_alone CloseParenthesis = true
is_alone OpenBrace = true
is_alone CloseBrace = true
is_alone Tilde = true
is_alone Question = true
is_alone Colon = true
is_alone Semicolon = true
is_alone Comma = true
is_alone _ = false

abbrev pub is_alone_mark : Option Mark → Bool
is_alone_mark (Some m) = is_alone m
is_alone_mark None = false

-- a mark with which no byte goes on
abbrev pub is_whole_mark : ℕ → Bool
is_whole_mark b = is_alone_mark (mark_at b)

-- the mark with these bytes behind it
abbrev pub grown : Option Mark → List ℕ → Option Mark
grown None bs = None
grown (Some m) [] = Some m
grown (Some m) (b ∷ bs) = grown (longer m b) bs

-- the mark that these bytes grow to
abbrev pub grown_mark : List ℕ → Option Mark
grown_mark [] = None
grown_mark (b ∷ bs) = grown (mark_at b) bs
