-- A text as a list of pieces: white space, comments and tokens, each the longest at its byte.
use Rattle.std.specs.Prelude.{◌≡◌, ◌<◌, ◌≤◌, ◌+◌, ℕ, Bool, true, false, cond, not, ◌&&◌, ◌||◌, ◌==◌, List, [], ◌∷◌, ◌++◌, length, drop, reverse, codes, slice_index, nat_eq, is_some}
use Rattle.std.specs.List.{prefix_len, starts_with, list_all, flat_map}
use Rattle.c_lexer.specs.declared.mark.Mark.{Mark}
use Rattle.c_lexer.specs.declared.mark.Mark.TheVariants.{Slash}
use Rattle.c_lexer.specs.declared.token.TokenKind.{TokenKind}
use Rattle.c_lexer.specs.declared.token.TokenKind.TheVariants as k
use Rattle.c_lexer.specs.declared.token.Token.{Token}
use Rattle.c_lexer.specs.declared.token.Span.{Span}
use Rattle.c_lexer.specs.declared.token.Scanned.{Scanned}
use Rattle.c_types.specs.Words.{is_word, is_word_byte, is_keyword}
use Rattle.c_lexer.specs.Bytes.{is_space, is_white, is_blank, is_newline, is_return, is_run_byte, is_text_byte, is_character_byte, NotFirst}
use Rattle.c_lexer.specs.Numbers.{is_run, ends_with_power, integer_of}
use Rattle.c_lexer.specs.Characters.{Character, written, written_all, IsCharacter, AreCharacters}
use Rattle.c_lexer.specs.Marks.{mark_text}
use Rattle.c_lexer.specs.Includes.{ClosesComments}
use Rattle.c_lexer.specs.Behind.{each_behind}

pub data Piece : Type 0 where
  Space : ℕ → Piece
  -- a name or a keyword
  Word : List ℕ → Piece
  Number : List ℕ → Piece
  Char : Character → Piece
  Text : List Character → Piece
  Sign : Mark → Piece
  -- behind its `#`, to the end of the line, with the carriage returns there, which its token leaves out
  Directive : List ℕ → Piece
  -- behind its `//`, likewise
  Line : List ℕ → Piece
  -- behind its `/*`, to its `*/`
  Block : List ℕ → Piece

-- the bytes of a piece, and then these
abbrev pub spelled : Piece → List ℕ → List ℕ
spelled (Space b) r = b ∷ r
spelled (Word w) r = w ++ r
spelled (Number w) r = w ++ r
spelled (Char c) r = 39 ∷ written c (39 ∷ r)
spelled (Text cs) r = 34 ∷ written_all cs (34 ∷ r)
spelled (Sign m) r = mark_text m ++ r
spelled (Directive w) r = 35 ∷ w ++ r
spelled (Line w) r = 47 ∷ 47 ∷ w ++ r
spelled (Block w) r = 47 ∷ 42 ∷ w ++ r

abbrev pub text : List Piece → List ℕ → List ℕ
text [] r = r
text (p ∷ ps) r = spelled p (text ps r)

-- nothing but white space stands before the next newline or the end of the text
abbrev pub comes_to_newline : List ℕ → Bool
comes_to_newline [] = true
comes_to_newline (b ∷ r) = is_newline b || (is_space b && comes_to_newline r)

-- nothing but carriage returns stands before the next newline or the end of the text
abbrev pub returns_to_newline : List ℕ → Bool
returns_to_newline [] = true
returns_to_newline (b ∷ r) = is_newline b || (b == 13 && returns_to_newline r)

-- a line breaks off at this byte, in front of those: at a `\` by which it is continued, or at a carriage
-- return behind which it goes on, since compilers end it there
abbrev pub breaks_off : ℕ → List ℕ → Bool
breaks_off b r = (b == 92 && comes_to_newline r) || (b == 13 && not (returns_to_newline r))

-- a line ends here: with the text, at its newline, or where it breaks off
abbrev pub ends_line : List ℕ → Bool
ends_line [] = true
ends_line (b ∷ r) = is_newline b || breaks_off b r

-- the bytes of a line before its end
abbrev pub own_line : List ℕ → List ℕ
own_line [] = []
own_line (b ∷ r) = cond (ends_line (b ∷ r)) [] (b ∷ own_line r)

-- the newline of a line is next, or the end of the text
abbrev pub NewlineNext : List ℕ → Type 0
NewlineNext [] = Unit {0}
NewlineNext (b ∷ r) = is_newline b ≡ true

-- a line ends nowhere in these bytes, in front of those
abbrev pub runs_on : List ℕ → List ℕ → Bool
runs_on [] r = true
runs_on (b ∷ w) r = not (ends_line (b ∷ w ++ r)) && runs_on w r

-- continued line ends, possibly none, and then a `/`; a line end is continued by a `\`, with white space alone
-- between it and the newline, or the carriage return
pub data SlashFollows : List ℕ → Type 0 where
  slash_next : (r : List ℕ) → SlashFollows (47 ∷ r)
  line_end_next : (white : List ℕ) (b : ℕ) (r : List ℕ) → list_all is_white white ≡ true → (is_newline b || is_return b) ≡ true
      → SlashFollows r → SlashFollows (92 ∷ white ++ b ∷ r)

-- `*/` stands at the end, and before it no `*` and `/` with nothing, or continued line ends alone, between them
pub record Closes (w : List ℕ) : Type 0 where
  pub inside : List ℕ
  pub ended : w ≡ inside ++ 42 ∷ 47 ∷ []
  pub first : (before after : List ℕ) → w ≡ before ++ 42 ∷ after → SlashFollows after → after ≡ 47 ∷ []

-- the word `include`, which no letter, digit or `_` follows
abbrev pub begins_with_include : List ℕ → Bool
begins_with_include w = starts_with nat_eq w (codes "include") && not (is_word_byte (slice_index w 7))

-- behind a `#`: spaces or tabs, possibly none, and then that word
abbrev pub is_include : List ℕ → Bool
is_include w = begins_with_include (drop (prefix_len is_blank w) w)

-- an `#include` line, behind its `#`, behind which no comment is open
abbrev pub IsDirective : List ℕ → Type 0
IsDirective w = (is_include w ≡ true) × ClosesComments w

-- what a piece is; `first` says that nothing but white space stands before it on its line
abbrev pub Fits : Bool → Piece → Type 0
Fits first (Space b) = is_space b ≡ true
Fits first (Word w) = is_word w ≡ true
Fits first (Number w) = (is_run w ≡ true) × (is_some (integer_of w) ≡ true)
Fits first (Char c) = IsCharacter is_character_byte c
Fits first (Text cs) = AreCharacters is_text_byte cs (34 ∷ [])
Fits first (Sign m) = Unit {0}
Fits first (Directive w) = (first ≡ true) × IsDirective w
Fits first (Line w) = Unit {0}
Fits first (Block w) = Closes w

-- the text begins with these bytes
abbrev pub Begins : List ℕ → List ℕ → Type 0
Begins w t = (r : List ℕ) × (t ≡ w ++ r)

-- these bytes are a whole line in front of those
abbrev pub IsLine : List ℕ → List ℕ → Type 0
IsLine w r = (runs_on w r ≡ true) × NewlineNext r

-- the piece is the longest there: it ends where no byte goes on with it
abbrev pub Longest : Piece → List ℕ → Type 0
Longest (Word w) r = NotFirst is_word_byte r
Longest (Number w) r = NotFirst (is_run_byte (ends_with_power w)) r
Longest (Sign m) r = ((n : Mark) → Begins (mark_text n) (mark_text m ++ r) → length (mark_text n) ≤ length (mark_text m)) ×
    (m ≡ Slash → NotFirst (λ b. b == 42 || b == 47) r)
Longest (Directive w) r = IsLine w r
Longest (Line w) r = IsLine w r
Longest _ r = Unit {0}

-- these pieces, the last first, are white space up to a newline, or all
abbrev pub is_white_back : List Piece → Bool
is_white_back [] = true
is_white_back (Space b ∷ ps) = is_newline b || is_white_back ps
is_white_back (_ ∷ ps) = false

-- behind these pieces, nothing but white space stands before on the line
abbrev pub stands_first : List Piece → Bool
stands_first before = is_white_back (reverse before)

-- these are pieces, each the longest at its byte, in front of these bytes
abbrev pub AreGood : List Piece → List ℕ → Type 0
AreGood pieces r = (before : List Piece) (p : Piece) (after : List Piece) → pieces ≡ before ++ p ∷ after →
    Fits (stands_first before) p × Longest p (text after r)

-- the text is these pieces
pub record Spells (pieces : List Piece) (t : List ℕ) : Type 0 where
  pub spells : t ≡ text pieces []
  pub good : AreGood pieces []

-- the place behind a piece that begins at this one
abbrev pub behind : Piece → ℕ → ℕ
behind p at = at + length (spelled p [])

-- a byte in front of a line, but for a carriage return in front of none
abbrev pub onto_bare : ℕ → List ℕ → List ℕ
onto_bare b [] = cond (b == 13) [] (b ∷ [])
onto_bare b (c ∷ w) = b ∷ c ∷ w

-- a line without the carriage returns at its end
abbrev pub bare : List ℕ → List ℕ
bare [] = []
bare (b ∷ w) = onto_bare b (bare w)

abbrev pub word_kind : List ℕ → TokenKind
word_kind w = cond (is_keyword w) k.Keyword k.Name

abbrev pub token : TokenKind → ℕ → ℕ → Token
token kind start end = record { kind = kind; start = start; end = end }

abbrev pub span : ℕ → ℕ → Span
span start end = record { start = start; end = end }

-- the token that a piece is, if it is one
abbrev pub token_of : Piece → ℕ → List Token
token_of (Word w) at = token (word_kind w) at (behind (Word w) at) ∷ []
token_of (Number w) at = token k.Number at (behind (Number w) at) ∷ []
token_of (Char c) at = token k.Char at (behind (Char c) at) ∷ []
token_of (Text cs) at = token k.Text at (behind (Text cs) at) ∷ []
token_of (Sign m) at = token k.Mark at (behind (Sign m) at) ∷ []
token_of (Directive w) at = token k.Directive at (at + 1 + length (bare w)) ∷ []
token_of _ at = []

-- the comment that a piece is, if it is one
abbrev pub comment_of : Piece → ℕ → List Span
comment_of (Line w) at = span at (at + 1 + 1 + length (bare w)) ∷ []
comment_of (Block w) at = span at (behind (Block w) at) ∷ []
comment_of _ at = []

-- what each piece gives at its place, in order
abbrev pub each_at : {X : Type 0} → (Piece → ℕ → List X) → List Piece → List X
each_at f ps = flat_map (λ xs. xs) (each_behind (λ before p. f p (length (text before []))) ps)

abbrev pub tokens_of : List Piece → List Token
tokens_of ps = each_at token_of ps

abbrev pub comments_of : List Piece → List Span
comments_of ps = each_at comment_of ps

abbrev pub scanned_of : List Piece → Scanned
scanned_of ps = record { tokens = tokens_of ps; comments = comments_of ps }

-- these places are of a byte at least in the text
abbrev pub IsWithin : List ℕ → ℕ → ℕ → Type 0
IsWithin t start end = (start < end) × (end ≤ length t)
