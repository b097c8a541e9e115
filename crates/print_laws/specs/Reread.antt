-- What the lexer makes of printed pieces: its own pieces, the kinds and bytes of their tokens, and what keeps neighbours apart.
use Rattle.std.specs.Prelude.{◌≡◌, ◌⊎◌, ◌*◌, ◌+◌, ◌/◌, ◌%◌, ◌≤◌, ℕ, ℤ, nat_le, Bool, true, false, cond, ◌&&◌, ◌||◌, ◌==◌, nat_eq, List, [], ◌∷◌, ◌++◌, replicate, map, Option, is_some, unwrap_or, slice_range}
use Rattle.std.specs.List.{list_all}
use Rattle.std.specs.Fmt.{signed_decimal}
use Rattle.c_types.specs.declared.kinds.IntKind.{IntKind}
use Rattle.c_types.specs.Words.{is_word, is_word_byte}
use Rattle.c_tree.specs.TextPieces.{Piece, suffix, spelled, is_printing}
use Rattle.c_tree.specs.TextPieces as p
use Rattle.c_lexer.specs.declared.mark.Mark.{Mark}
use Rattle.c_lexer.specs.declared.mark.Mark.TheVariants.{Comma}
use Rattle.c_lexer.specs.declared.token.TokenKind.{TokenKind}
use Rattle.c_lexer.specs.declared.token.TokenKind.TheVariants as k
use Rattle.c_lexer.specs.Bytes.{is_run_byte, NotFirst}
use Rattle.c_lexer.specs.Numbers.{is_run, ends_with_power, integer_of}
use Rattle.c_lexer.specs.Characters.{Character, Plain, Simple, ThreeDigits}
use Rattle.c_lexer.specs.Marks.{mark_text, mark_of}
use Rattle.c_lexer.specs.MarkSteps.{longer, is_slash, is_dot}
use Rattle.c_lexer.specs.Pieces.{bare, word_kind}
use Rattle.c_lexer.specs.Pieces as l
use Rattle.c_resolved_defs.specs.Verbatims.{IsComment, IsDirective}
use Rattle.c_lexer.specs.declared.token.Token.{Token}
use Rattle.c_lexer.specs.declared.token.Span.{Span}
use Rattle.c_grammar.specs.declared.class.Class.{Class}
use Rattle.c_grammar.specs.declared.class.Class.TheVariants as c
use Rattle.c_grammar.specs.TokenClasses.{class_of_bytes, classes_of}

-- ---- the lexer's pieces

-- the mark of these bytes
abbrev pub mark_in : List ℕ → Mark
mark_in w = unwrap_or (mark_of w) Comma

-- a byte between quotes, as the printer spells it
abbrev pub character_in : ℕ → ℕ → Character
character_in quote b =
    cond (nat_eq b 10) (Simple 110)
    (cond (nat_eq b 9) (Simple 116)
    (cond (nat_eq b quote || nat_eq b 92) (Simple b)
    (cond (is_printing b) (Plain b)
    (ThreeDigits (48 + b / 64) (48 + b / 8 % 8) (48 + b % 8)))))

abbrev pub spaces : ℕ → List l.Piece
spaces n = replicate n (l.Space 32)

-- a directive begins with `#`, a comment of a line with `//`, a comment of lines with `/*`
abbrev pub verbatim_piece : List ℕ → l.Piece
verbatim_piece (a ∷ b ∷ w) = cond (nat_eq a 35) (l.Directive (b ∷ w)) (cond (nat_eq b 47) (l.Line w) (l.Block w))
verbatim_piece _ = l.Space 32

abbrev pub number_text : Option IntKind → ℤ → List ℕ
number_text kind n = signed_decimal n ++ suffix kind

-- the lexer's pieces of a printed piece, and then these
abbrev pub reread : Piece → List l.Piece → List l.Piece
reread p.Space r = l.Space 32 ∷ r
reread p.Newline r = l.Space 10 ∷ r
reread (p.Indentation depth) r = spaces (4 * depth) ++ r
reread (p.Word w) r = l.Word w ∷ r
reread (p.Punctuator w) r = l.Sign (mark_in w) ∷ r
reread (p.Number kind n) r = l.Number (number_text kind n) ∷ r
reread (p.Character b) r = l.Char (character_in 39 b) ∷ r
reread (p.Literal bs) r = l.Text (map (character_in 34) bs) ∷ r
reread (p.Verbatim bs) r = verbatim_piece bs ∷ r

abbrev pub reread_all : List Piece → List l.Piece
reread_all [] = []
reread_all (q ∷ qs) = reread q (reread_all qs)

-- ---- tokens

-- a token: its kind and its bytes
pub record Spelling : Type 0 where
  pub kind : TokenKind
  pub bytes : List ℕ

abbrev pub spelling : TokenKind → List ℕ → Spelling
spelling kind bytes = record { kind = kind; bytes = bytes }

-- the token that a piece of the lexer is, if it is one, by its bytes
abbrev pub spelling_of : l.Piece → List Spelling
spelling_of (l.Space b) = []
spelling_of (l.Line w) = []
spelling_of (l.Block w) = []
spelling_of (l.Word w) = spelling (word_kind w) w ∷ []
spelling_of (l.Number w) = spelling k.Number w ∷ []
spelling_of (l.Char c) = spelling k.Char (l.spelled (l.Char c) []) ∷ []
spelling_of (l.Text cs) = spelling k.Text (l.spelled (l.Text cs) []) ∷ []
spelling_of (l.Sign m) = spelling k.Mark (mark_text m) ∷ []
spelling_of (l.Directive w) = spelling k.Directive (35 ∷ bare w) ∷ []

abbrev pub spellings : List l.Piece → List Spelling
spellings [] = []
spellings (q ∷ qs) = spelling_of q ++ spellings qs

-- the comment that a piece of the lexer is, if it is one: its bytes
abbrev pub comment_bytes : l.Piece → List (List ℕ)
comment_bytes (l.Line w) = (47 ∷ 47 ∷ bare w) ∷ []
comment_bytes (l.Block w) = (47 ∷ 42 ∷ w) ∷ []
comment_bytes _ = []

abbrev pub class_of_spelling : Spelling → Class
class_of_spelling s = class_of_bytes s.kind s.bytes

-- the classes of the tokens of printed pieces, and the end behind them
abbrev pub classes : List Piece → List Class
classes ps = map class_of_spelling (spellings (reread_all ps)) ++ c.End ∷ []

-- comments, each with the classes of the tokens behind it, and the end
abbrev pub Comments : Type 0
Comments = List (List Class × List ℕ)

abbrev pub placed_comments : List l.Piece → Comments
placed_comments [] = []
placed_comments (q ∷ qs) = map (λ w. (map class_of_spelling (spellings qs) ++ c.End ∷ [], w)) (comment_bytes q) ++ placed_comments qs

-- the comments of printed pieces
abbrev pub noted : List Piece → Comments
noted ps = placed_comments (reread_all ps)

-- ---- tokens and comments of a text, by their bytes

abbrev pub read_at : List ℕ → Token → Spelling
read_at t token = spelling token.kind (slice_range t token.start token.end)

abbrev pub comment_at : List ℕ → Span → List ℕ
comment_at t span = slice_range t span.start span.end

-- the tokens that begin at this place or behind it
abbrev pub tokens_behind : ℕ → List Token → List Token
tokens_behind place [] = []
tokens_behind place (token ∷ tokens) = cond (nat_le place token.start) (token ∷ tokens_behind place tokens) (tokens_behind place tokens)

-- comments, each with the classes of the tokens behind it, and the end
abbrev pub placed_at : List ℕ → List Token → List Span → Comments
placed_at t tokens comments = map (λ (s : Span). (classes_of t (tokens_behind s.end tokens) ++ c.End ∷ [], comment_at t s)) comments

-- ---- what keeps printed pieces apart

-- a byte that would make a longer mark or a comment of a mark
abbrev pub grows : List ℕ → ℕ → Bool
grows w b = is_some (longer (mark_in w) b) || ((is_slash (mark_in w) && (b == 42 || b == 47)) || (is_dot (mark_in w) && b == 46))

-- a line ends with the next byte
abbrev pub EndsLine : List ℕ → Type 0
EndsLine [] = ⊥
EndsLine (b ∷ r) = b ≡ 10

-- Each piece is one of the lexer's, which the bytes behind it don't go on with. The flag says that nothing but white space stands before on the line.
abbrev pub AreApart : Bool → List Piece → Type 0
AreApart first [] = Unit {0}
AreApart first (p.Space ∷ ps) = AreApart first ps
AreApart first (p.Newline ∷ ps) = AreApart true ps
AreApart first (p.Indentation depth ∷ ps) = AreApart first ps
AreApart first (p.Word w ∷ ps) = (is_word w ≡ true) × NotFirst is_word_byte (spelled ps) × AreApart false ps
AreApart first (p.Punctuator w ∷ ps) = (mark_text (mark_in w) ≡ w) × NotFirst (grows w) (spelled ps) × AreApart false ps
AreApart first (p.Number kind n ∷ ps) =
    (is_run (number_text kind n) ≡ true) × (is_some (integer_of (number_text kind n)) ≡ true)
    × NotFirst (is_run_byte (ends_with_power (number_text kind n))) (spelled ps) × AreApart false ps
AreApart first (p.Character b ∷ ps) = (b ≤ 255) × AreApart false ps
AreApart first (p.Literal bs ∷ ps) = (list_all (λ b. nat_le b 255) bs ≡ true) × AreApart false ps
AreApart first (p.Verbatim bs ∷ ps) =
    ((first ≡ true) × IsDirective bs ⊎ IsComment bs) × EndsLine (spelled ps) × AreApart false ps
