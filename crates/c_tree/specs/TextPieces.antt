-- What a printed text is made of: tokens, directives and comments, and the white space between them.
use Rattle.std.specs.Prelude.{ℕ, ◌+◌, ◌*◌, ◌/◌, ◌%◌, ℤ, Bool, false, cond, ◌||◌, ◌&&◌, nat_eq, nat_le, List, [], ◌∷◌, ◌++◌, replicate, codes, Option, Some}
use Rattle.std.specs.Fmt.{signed_decimal}
use Rattle.c_types.specs.declared.kinds.IntKind.{IntKind}
use Rattle.c_types.specs.declared.kinds.IntKind.TheVariants as K

pub data Piece : Type 0 where
  -- one space
  Space : Piece
  Newline : Piece
  -- the spaces before a line, by its depth
  Indentation : ℕ → Piece
  -- a keyword or a name
  Word : List ℕ → Piece
  Punctuator : List ℕ → Piece
  -- an integer constant of a kind
  Number : Option IntKind → ℤ → Piece
  -- a character constant of a byte
  Character : ℕ → Piece
  -- a string literal of these bytes
  Literal : List ℕ → Piece
  -- a directive or a comment, which holds these bytes
  Verbatim : List ℕ → Piece

-- ---- how a piece is spelled, before the bytes that follow it

abbrev pub suffix : Option IntKind → List ℕ
suffix (Some K.UInt) = codes "U"
suffix (Some K.Long) = codes "L"
suffix (Some K.ULong) = codes "UL"
suffix _ = []

-- a byte as `\` and three octal digits
abbrev pub octal : ℕ → List ℕ
octal b = 92 ∷ (48 + b / 64) ∷ (48 + b / 8 % 8) ∷ (48 + b % 8) ∷ []

-- whether a byte stands for itself between quotes, with a `\` before it if it is the quote or a `\`
abbrev pub is_printing : ℕ → Bool
is_printing b = nat_le 32 b && nat_le b 126

-- a byte between quotes (ISO/IEC 9899:2011, 6.4.4.4)
abbrev pub escaped : ℕ → ℕ → List ℕ
escaped quote b =
    cond (nat_eq b 10) (codes "\\n")
    (cond (nat_eq b 9) (codes "\\t")
    (cond (nat_eq b quote || nat_eq b 92) (92 ∷ b ∷ [])
    (cond (is_printing b) (b ∷ [])
    (octal b))))

-- the bytes of a string literal between its quotes
abbrev pub escaped_bytes : List ℕ → List ℕ → List ℕ
escaped_bytes [] rest = rest
escaped_bytes (b ∷ bs) rest = escaped 34 b ++ escaped_bytes bs rest

abbrev pub spell : Piece → List ℕ → List ℕ
spell Space rest = 32 ∷ rest
spell Newline rest = 10 ∷ rest
spell (Indentation depth) rest = replicate (4 * depth) 32 ++ rest
spell (Word w) rest = w ++ rest
spell (Punctuator p) rest = p ++ rest
spell (Number kind n) rest = signed_decimal n ++ (suffix kind ++ rest)
spell (Character b) rest = 39 ∷ (escaped 39 b ++ 39 ∷ rest)
spell (Literal bs) rest = 34 ∷ escaped_bytes bs (34 ∷ rest)
spell (Verbatim bs) rest = bs ++ rest

-- the bytes of pieces one after another
abbrev pub spelled : List Piece → List ℕ
spelled [] = []
spelled (p ∷ ps) = spell p (spelled ps)

-- ---- texts

-- A text is what it makes of the pieces that follow it, so that texts joined in any order of brackets are the same.
abbrev pub Text : Type 0
Text = List Piece → List Piece

-- the text of no pieces
abbrev pub nothing : Text
nothing rest = rest

-- one text after another
infixr 20 ◌⨾◌
abbrev pub ◌⨾◌ : Text → Text → Text
(s ⨾ t) rest = s (t rest)

abbrev pub space : Text
space rest = Space ∷ rest

abbrev pub newline : Text
newline rest = Newline ∷ rest

abbrev pub indentation : ℕ → Text
indentation depth rest = Indentation depth ∷ rest

abbrev pub word : List ℕ → Text
word w rest = Word w ∷ rest

abbrev pub punctuator : List ℕ → Text
punctuator p rest = Punctuator p ∷ rest

abbrev pub number : Option IntKind → ℤ → Text
number kind n rest = Number kind n ∷ rest

abbrev pub character : ℕ → Text
character b rest = Character b ∷ rest

abbrev pub literal : List ℕ → Text
literal bs rest = Literal bs ∷ rest

abbrev pub verbatim : List ℕ → Text
verbatim bs rest = Verbatim bs ∷ rest

-- a text where a condition holds
abbrev pub only_if : Bool → Text → Text
only_if b t rest = cond b (t rest) rest

-- a punctuator with a space on both sides
abbrev pub spaced : List ℕ → Text
spaced p = space ⨾ punctuator p ⨾ space

-- a comma and a space
abbrev pub comma : Text
comma = punctuator (codes ",") ⨾ space

-- texts after others, each with a comma before it
abbrev pub more : List Text → Text
more [] = nothing
more (t ∷ ts) = comma ⨾ t ⨾ more ts

-- texts with commas between them
abbrev pub listed : List Text → Text
listed [] = nothing
listed (t ∷ ts) = t ⨾ more ts

-- texts one after another
abbrev pub joined : List Text → Text
joined [] = nothing
joined (t ∷ ts) = t ⨾ joined ts

-- the bytes of a whole text
abbrev pub bytes_of : Text → List ℕ
bytes_of t = spelled (t [])

-- whether a text begins with a byte
abbrev pub starts : List ℕ → ℕ → Bool
starts [] b = false
starts (c ∷ cs) b = nat_eq b c

abbrev pub begins_with : ℕ → Text → Bool
begins_with b t = starts (bytes_of t) b
