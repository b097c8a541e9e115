-- How the code finds the `#include` lines of Pieces: what stands before each byte.
use Rattle.std.specs.Prelude.{ℕ, Bool, true, false, cond, not, ◌&&◌, ◌||◌, ◌==◌, List, [], ◌∷◌}
use Rattle.c_lexer.specs.declared.directive.Before.{Before}
use Rattle.c_lexer.specs.declared.directive.Before.TheVariants.{Outside, Name, Comment, Line, Doubt}
use Rattle.c_lexer.specs.Pieces.{is_include}

-- a quote behind the name, or a `'` or `<` there, is read in more than one way
abbrev pub outside : Bool → Bool → ℕ → Before
outside named slashed b =
    cond (slashed && b == 42) (Comment named false)
    (cond (slashed && b == 47) Line
    (cond (b == 39 || (named && (b == 34 || b == 60))) (Doubt false false false)
    (cond (b == 60) (Name 62 false)
    (cond (b == 34) (Name 34 false) (Outside named (b == 47))))))

-- what a name with a quote, a `\` or `/*` in it means is undefined
abbrev pub in_name : ℕ → Bool → ℕ → Before
in_name end slashed b =
    cond (b == end) (Outside true false)
    (cond (slashed && b == 42) (Doubt true false false)
    (cond (b == 34 || b == 39 || b == 92) (Doubt false false false) (Name end (b == 47))))

abbrev pub in_comment : Bool → Bool → ℕ → Before
in_comment named starred b = cond (starred && b == 47) (Outside named false) (Comment named (b == 42))

-- where each `/*` may begin a comment, and each `*/` ends one
abbrev pub in_doubt : Bool → Bool → Bool → ℕ → Before
in_doubt opened slashed starred b =
    cond (slashed && b == 42) (Doubt true false false)
    (cond (starred && b == 47) (Doubt false true false) (Doubt opened (b == 47) (b == 42)))

-- what stands before the next byte
abbrev pub past : Before → ℕ → Before
past (Outside named slashed) b = outside named slashed b
past (Name end slashed) b = in_name end slashed b
past (Comment named starred) b = in_comment named starred b
past Line b = Line
past (Doubt opened slashed starred) b = in_doubt opened slashed starred b

-- a comment `/*` may be open
abbrev pub is_open : Before → Bool
is_open (Comment named starred) = true
is_open (Doubt opened slashed starred) = opened
is_open _ = false

-- a comment may be open behind these bytes
abbrev pub open_behind : Before → List ℕ → Bool
open_behind before [] = is_open before
open_behind before (b ∷ w) = open_behind (past before b) w

-- a comment `/*` that begins on the line, behind its `#`, may go on over the next
abbrev pub leaves_open : List ℕ → Bool
leaves_open w = open_behind (Outside false false) w

-- an `#include` line, behind its `#`, behind which no comment is open
abbrev pub is_directive : List ℕ → Bool
is_directive w = is_include w && not (leaves_open w)
