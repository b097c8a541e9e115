-- What is known along a text: within a comment, before each piece, and at its place.
use Rattle.std.specs.Prelude.{ℕ, Bool, true, false, cond, ◌&&◌, ◌||◌, ◌==◌, List, [], ◌∷◌, ◌++◌}
use Rattle.c_lexer.specs.Bytes.{is_space, is_newline}
use Rattle.c_lexer.specs.Pieces.{Piece, Space, text, Fits, Longest, behind}

-- continued line ends, possibly none, and then a `/`; each is a `\`, white space and a newline or a
-- carriage return, and the flag says that these bytes begin between the two
abbrev pub slash_follows : Bool → List ℕ → Bool
slash_follows inside [] = false
slash_follows false (b ∷ r) = b == 47 || (b == 92 && slash_follows true r)
slash_follows true (b ∷ r) = cond (is_newline b) (slash_follows false r) (is_space b && (slash_follows true r || (b == 13 && slash_follows false r)))

abbrev pub is_single : List ℕ → Bool
is_single (b ∷ []) = true
is_single _ = false

-- `*/` stands at the end, and before it no `*` and `/` with nothing, or continued line ends alone, between them
abbrev pub closes : List ℕ → Bool
closes [] = false
closes (b ∷ w) = cond (b == 42 && slash_follows false w) (is_single w) (closes w)

-- behind a piece, whether nothing but white space stands before on the line
abbrev pub first_behind : Bool → Piece → Bool
first_behind first (Space b) = is_newline b || first
first_behind first _ = false

abbrev pub first_behind_all : Bool → List Piece → Bool
first_behind_all first [] = first
first_behind_all first (p ∷ ps) = first_behind_all (first_behind first p) ps

-- these are pieces, each the longest at its byte, in front of these bytes, from that knowledge on
abbrev pub Good : Bool → List Piece → List ℕ → Type 0
Good first [] r = Unit {0}
Good first (p ∷ ps) r = Fits first p × Longest p (text ps r) × Good (first_behind first p) ps r

-- what each piece gives, in order, from this place on
abbrev pub all_of : {X : Type 0} → (Piece → ℕ → List X) → List Piece → ℕ → List X
all_of f [] at = []
all_of f (p ∷ ps) at = f p at ++ all_of f ps (behind p at)
