-- The text of a list of moves: one line for each, with the function, the kind, the label and the path.
use Rattle.std.specs.Prelude.{◌≡◌, ◌≢◌, ℕ, ◌+◌, ◌≤◌, Bool, true, false, cond, ◌&&◌, not, ◌==◌, length, List, [], ◌∷◌, ◌++◌, Option, Some, None, codes}
use Rattle.std.specs.Fmt.{decimal}
use Rattle.std.specs.Str.{bytes_eq}
use Rattle.c_types.specs.Words.{is_word, is_keyword}
use Rattle.c_tree.specs.declared.tree.Branch.{Branch}
use Rattle.c_tree.specs.declared.tree.Branch.TheVariants as B
use Rattle.c_tree.specs.declared.tree.Step.{Step}
use Rattle.c_tree.specs.declared.tree.Path.{Path}
use Rattle.report_moves.specs.declared.moves.MoveKind.{MoveKind}
use Rattle.report_moves.specs.declared.moves.MoveKind.TheVariants.{Out, Lift, Inward, Join, Z1, Z2, Z3, Z4, Z5}
use Rattle.report_moves.specs.declared.moves.Move.{Move}

-- ---- the text of each part, before the rest of the text

-- the word of a kind
abbrev pub kind_text : MoveKind → List ℕ
kind_text Out = codes "out"
kind_text Lift = codes "lift"
kind_text Inward = codes "in"
kind_text Join = codes "join"
kind_text Z1 = codes "z1"
kind_text Z2 = codes "z2"
kind_text Z3 = codes "z3"
kind_text Z4 = codes "z4"
kind_text Z5 = codes "z5"

-- the simplification that is spelled so
abbrev pub kind_of_z : List ℕ → Option MoveKind
kind_of_z w =
    cond (bytes_eq w (codes "z1")) (Some Z1)
    (cond (bytes_eq w (codes "z2")) (Some Z2) (cond (bytes_eq w (codes "z3")) (Some Z3)
    (cond (bytes_eq w (codes "z4")) (Some Z4) (cond (bytes_eq w (codes "z5")) (Some Z5) None))))

-- the kind that is spelled so
abbrev pub kind_of : List ℕ → Option MoveKind
kind_of w =
    cond (bytes_eq w (codes "out")) (Some Out) (cond (bytes_eq w (codes "lift")) (Some Lift)
    (cond (bytes_eq w (codes "in")) (Some Inward) (cond (bytes_eq w (codes "join")) (Some Join) (kind_of_z w))))

-- the name of the label, or `-` where the move has none
abbrev pub label_text : Option (List ℕ) → List ℕ
label_text None = codes "-"
label_text (Some name) = name

-- `b` for the body of a loop, `t` and `e` for the lists of an `if`, `s2` for the third section of a switch
abbrev pub branch_text : Branch → List ℕ
branch_text B.Body = codes "b"
branch_text B.Then = codes "t"
branch_text B.Else = codes "e"
branch_text (B.Section k) = 115 ∷ decimal k

-- a number, a dot, a branch and a dot for each step
abbrev pub steps_text : List Step → List ℕ → List ℕ
steps_text [] rest = rest
steps_text (s ∷ ss) rest = decimal s.item ++ 46 ∷ (branch_text s.branch ++ 46 ∷ steps_text ss rest)

-- a path: its steps, then the number of the item
abbrev pub path_text : Path → List ℕ → List ℕ
path_text p rest = steps_text p.steps (decimal p.item ++ rest)

-- the line of one move: its four parts with a space between them, and a newline
abbrev pub move_text : Move → List ℕ → List ℕ
move_text m rest = m.function ++ 32 ∷ (kind_text m.kind ++ 32 ∷ (label_text m.label ++ 32 ∷ path_text m.path (10 ∷ rest)))

-- the lines of a list of moves
abbrev pub moves_text : List Move → List ℕ → List ℕ
moves_text [] rest = rest
moves_text (m ∷ ms) rest = move_text m (moves_text ms rest)

-- the whole report
abbrev pub report_text : List Move → List ℕ
report_text ms = moves_text ms []

-- ---- the moves that have a line

-- whether a word is a name of C, and no keyword
abbrev pub is_name : List ℕ → Bool
is_name word = is_word word && not (is_keyword word)

-- simplifications of tests and of nested `if`s name no label; every other move names one
abbrev pub names_label : MoveKind → Bool
names_label Z1 = false
names_label Z4 = false
names_label _ = true

-- a label is named where it should be, and nowhere else
abbrev pub HasLabel : Bool → Option (List ℕ) → Type 0
HasLabel true (Some name) = is_name name ≡ true
HasLabel true None = ⊥
HasLabel false label = label ≡ None

-- numbers of a path fit 32 bits
abbrev pub IsNumber : ℕ → Type 0
IsNumber n = n ≤ 4294967295

-- a section has such a number
abbrev pub IsBranch : Branch → Type 0
IsBranch (B.Section k) = IsNumber k
IsBranch _ = Unit {0}

-- each step has such numbers
abbrev pub AreSteps : List Step → Type 0
AreSteps [] = Unit {0}
AreSteps (s ∷ ss) = IsNumber s.item × IsBranch s.branch × AreSteps ss

-- each number of a path is one
abbrev pub IsPath : Path → Type 0
IsPath p = AreSteps p.steps × IsNumber p.item

-- the names are names, and a label is named exactly where the kind has one
pub record IsReportable (m : Move) : Type 0 where
  pub function : is_name m.function ≡ true
  pub label : HasLabel (names_label m.kind) m.label
  pub path : IsPath m.path

-- each of these moves has a line
abbrev pub AreReportable : List Move → Type 0
AreReportable [] = Unit {0}
AreReportable (m ∷ ms) = IsReportable m × AreReportable ms

-- ---- bytes of a class

-- each byte is of the class
abbrev pub Of : (ℕ → Bool) → List ℕ → Type 0
Of d [] = Unit {0}
Of d (c ∷ cs) = (d c ≡ true) × Of d cs

-- whether a byte is none of the spaces between the parts of a line
abbrev pub is_no_space : ℕ → Bool
is_no_space c = not (c == 32)

-- whether it is no dot of a path
abbrev pub is_no_dot : ℕ → Bool
is_no_dot c = not (c == 46)

-- whether it is not the end of a line
abbrev pub is_no_newline : ℕ → Bool
is_no_newline c = not (c == 10)

-- ---- texts that are no report

-- line n, counted from 1, is the first that is the line of no move: the lines before it are those of moves
pub record IsBadLine (n : ℕ) (text : List ℕ) : Type 0 where
  pub before : List Move
  pub rest : List ℕ
  pub number : n ≡ length before + 1
  pub lines : AreReportable before
  pub split : text ≡ moves_text before rest
  pub more : rest ≢ []
  pub bad : (m : Move) (after : List ℕ) → IsReportable m → rest ≢ move_text m after
