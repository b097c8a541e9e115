-- The first lexical fault of a text, and its place.
use Rattle.std.specs.Prelude.{◌≡◌, ◌+◌, ℕ, Bool, false, cond, not, ◌&&◌, ◌||◌, ◌==◌, List, [], ◌∷◌, length, take, count_by, Decides}
use Rattle.std.specs.List.{suffix_len}
use Rattle.c_types.specs.declared.refusal.Refusal.{Refusal}
use Rattle.c_types.specs.Words.{is_digit}
use Rattle.c_lexer.specs.Bytes.{is_newline}
use Rattle.c_lexer.specs.Pieces.{Piece, spelled, text, Fits, Longest, AreGood, own_line, IsDirective, stands_first}

-- lines and columns are counted from 1, lines by newlines and columns by bytes
abbrev pub line_of : List ℕ → ℕ
line_of before = 1 + count_by is_newline before

abbrev pub column_of : List ℕ → ℕ
column_of before = 1 + suffix_len (λ b. not (is_newline b)) before

abbrev pub refusal_of : ℕ → List ℕ → ℕ → Refusal
refusal_of reason t at = record { reason = reason; line = line_of (take at t); column = column_of (take at t); at = at }

abbrev pub begins_star : List ℕ → Bool
begins_star [] = false
begins_star (b ∷ _) = b == 42

abbrev pub begins_slash : List ℕ → Bool
begins_slash [] = false
begins_slash (b ∷ _) = b == 47

-- why no piece begins with this byte, in front of these; `include` says that its line is a directive but for where it
-- breaks off
abbrev pub reason_of : Bool → Bool → ℕ → List ℕ → ℕ
reason_of first include b r =
    cond (b == 47 && begins_star r) 3
    (cond (b == 39 || b == 34) 4
    (cond (is_digit b) 5
    (cond (b == 35 && first && not include) 6 2)))

-- how far behind this byte the fault lies: the line of a comment `//` or a directive is at fault where it breaks off
abbrev pub reach_of : Bool → Bool → ℕ → List ℕ → ℕ
reach_of first include b r = cond ((b == 47 && begins_slash r) || (b == 35 && first && include)) (1 + length (own_line r)) 0

-- no piece begins these bytes
abbrev pub HasNoPiece : Bool → List ℕ → Type 0
HasNoPiece first t = (p : Piece) (r : List ℕ) → t ≡ spelled p r → Fits first p → Longest p r → ⊥

-- pieces reach up to a byte at which none begins
pub record IsFirstFault (t : List ℕ) (fault : Refusal) : Type 0 where
  pub pieces : List Piece
  pub byte : ℕ
  pub rest : List ℕ
  pub spells : t ≡ text pieces (byte ∷ rest)
  pub good : AreGood pieces (byte ∷ rest)
  pub stuck : HasNoPiece (stands_first pieces) (byte ∷ rest)
  pub include : Bool
  pub include_is : Decides include (IsDirective (own_line rest))
  pub refusal : fault
      ≡ refusal_of (reason_of (stands_first pieces) include byte rest) t (length (text pieces []) + reach_of (stands_first pieces) include byte rest)
