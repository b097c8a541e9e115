-- The class of a token of a text.
use Rattle.std.specs.Prelude.{ℕ, zero, suc, cond, List, [], ◌∷◌, Option, Some, None, map, codes, length, slice_range}
use Rattle.std.specs.Str.{bytes_eq}
use Rattle.c_grammar.specs.declared.class.Class.{Class}
use Rattle.c_grammar.specs.declared.class.Class.TheVariants as c
use Rattle.c_lexer.specs.declared.mark.Mark.{Mark}
use Rattle.c_lexer.specs.declared.mark.Mark.TheVariants as m
use Rattle.c_lexer.specs.declared.token.TokenKind.{TokenKind}
use Rattle.c_lexer.specs.declared.token.TokenKind.TheVariants as k
use Rattle.c_lexer.specs.declared.token.Token.{Token}
use Rattle.c_lexer.specs.Marks.{mark_of}

abbrev pub class_of_mark : Mark → Class
class_of_mark m.OpenBracket = c.OpenIndex
class_of_mark m.CloseBracket = c.CloseIndex
class_of_mark m.OpenParenthesis = c.Open
class_of_mark m.CloseParenthesis = c.Close
class_of_mark m.OpenBrace = c.OpenBlock
class_of_mark m.CloseBrace = c.CloseBlock
class_of_mark m.PlusPlus = c.Step
class_of_mark m.MinusMinus = c.Step
class_of_mark m.Ampersand = c.BitAnd
class_of_mark m.Star = c.Product
class_of_mark m.Plus = c.Sign
class_of_mark m.Minus = c.Sign
class_of_mark m.Tilde = c.Flip
class_of_mark m.Exclamation = c.Flip
class_of_mark m.Slash = c.Product
class_of_mark m.Percent = c.Product
class_of_mark m.ShiftLeft = c.Shift
class_of_mark m.ShiftRight = c.Shift
class_of_mark m.Less = c.Order
class_of_mark m.Greater = c.Order
class_of_mark m.LessEquals = c.Order
class_of_mark m.GreaterEquals = c.Order
class_of_mark m.EqualsEquals = c.Equality
class_of_mark m.ExclamationEquals = c.Equality
class_of_mark m.Caret = c.BitXor
class_of_mark m.Bar = c.BitOr
class_of_mark m.AmpersandAmpersand = c.AndThen
class_of_mark m.BarBar = c.OrElse
class_of_mark m.Question = c.Question
class_of_mark m.Colon = c.Colon
class_of_mark m.Semicolon = c.Semicolon
class_of_mark m.Equals = c.Equals
class_of_mark m.Comma = c.Comma
class_of_mark m.Dot = c.Foreign
class_of_mark m.Arrow = c.Foreign
class_of_mark m.Ellipsis = c.Foreign
class_of_mark _ = c.Update

abbrev pub class_of_found : Option Mark → Class
class_of_found (Some m) = class_of_mark m
class_of_found None = c.Foreign

-- a keyword of declarations
abbrev pub declaration_word : List ℕ → Class
declaration_word w =
    cond (bytes_eq (codes "int") w) c.Int
    (cond (bytes_eq (codes "char") w) c.Char
    (cond (bytes_eq (codes "long") w) c.Long
    (cond (bytes_eq (codes "signed") w) c.Signed
    (cond (bytes_eq (codes "unsigned") w) c.Unsigned
    (cond (bytes_eq (codes "void") w) c.Void
    (cond (bytes_eq (codes "static") w) c.Static
    (cond (bytes_eq (codes "const") w) c.Const
    (cond (bytes_eq (codes "enum") w) c.Enum c.Foreign))))))))

-- a keyword of statements
abbrev pub jump_word : List ℕ → Class
jump_word w =
    cond (bytes_eq (codes "goto") w) c.Goto
    (cond (bytes_eq (codes "return") w) c.Return
    (cond (bytes_eq (codes "break") w) c.Break
    (cond (bytes_eq (codes "continue") w) c.Continue
    (declaration_word w))))

-- the keywords that no production has are foreign
abbrev pub keyword_class : List ℕ → Class
keyword_class w =
    cond (bytes_eq (codes "if") w) c.If
    (cond (bytes_eq (codes "else") w) c.Else
    (cond (bytes_eq (codes "while") w) c.While
    (cond (bytes_eq (codes "do") w) c.Do
    (cond (bytes_eq (codes "for") w) c.For
    (cond (bytes_eq (codes "switch") w) c.Switch
    (cond (bytes_eq (codes "case") w) c.Case
    (cond (bytes_eq (codes "default") w) c.Default
    (jump_word w))))))))

abbrev pub class_of_bytes : TokenKind → List ℕ → Class
class_of_bytes k.Name w = c.Name
class_of_bytes k.Keyword w = keyword_class w
class_of_bytes k.Number w = c.Number
class_of_bytes k.Char w = c.Character
class_of_bytes k.Text w = c.Text
class_of_bytes k.Mark w = class_of_found (mark_of w)
class_of_bytes k.Directive w = c.Directive

abbrev pub class_of : List ℕ → Token → Class
class_of text token = class_of_bytes token.kind (slice_range text token.start token.end)

abbrev pub classes_of : List ℕ → List Token → List Class
classes_of text tokens = map (class_of text) tokens

-- the offset of a token by its number, and behind the last that of the end of the text
abbrev pub offset_of : List ℕ → List Token → ℕ → ℕ
offset_of text [] at = length text
offset_of text (token ∷ tokens) zero = token.start
offset_of text (token ∷ tokens) (suc at) = offset_of text tokens at
