-- The items that stand in the place of others in a looser body: what exits become, assignments of
-- initialisers, the tests and the labels of a switch that is dissolved.
use Rattle.std.specs.Prelude.{ℕ, zero, suc, ℤ, pos, Bool, true, false, List, [], ◌∷◌, Option, Some, None, ◌≡◌, Ok}
use Rattle.std.specs.Option.{option_map_or}
use Rattle.c_types.specs.declared.kinds.IntKind.{IntKind}
use Rattle.c_types.specs.declared.kinds.IntKind.TheVariants.{Int}
use Rattle.c_tree.specs.declared.tree.Home.TheVariants as H
use Rattle.c_tree.specs.declared.tree.BinaryOp.TheVariants.{Equal, Arith}
use Rattle.c_tree.specs.ExpressionTrees.{ExpressionTree, Typed, Var, Cell, Number, Read, Assign, Unary, Binary}
use Rattle.c_tree.specs.Cases.{case_number}
use Rattle.c_tree.specs.TestTrees.{Source}
use Rattle.c_tree.specs.Trees.{Tree, Forest, Nil, Then, Sections, NoSection, Section, Evaluate, If, While, Do, For, Block, Goto, Mark, Arrival, join}
use Rattle.c_tree.specs.Changed.{one}
use Rattle.c_tree.specs.declared.tree.UnaryOp.{UnaryOp}
use Rattle.c_types.specs.declared.kinds.ArithOp.{ArithOp}
use Rattle.c_tree.specs.Operators.{unary_result, binary_result}
use Rattle.c_tree.specs.Constants.{kind_of}
use Rattle.jump_meaning.specs.Operations.{operand_kind}
use Rattle.jump_meaning.specs.Search.{Goal, is_goal, or_else}

-- what a `break` or a `continue` becomes: itself, or a goto to a made label; or there is none
pub data Aim : Type 0 where
  Stays : Aim
  Becomes : ℕ → Aim
  Absent : Aim

-- the made label, where there is one
abbrev pub mark_of : Aim → Forest
mark_of Stays = Nil
mark_of (Becomes l) = one (Mark l)
mark_of Absent = Nil

-- an exit that does not stay as it is
abbrev pub IsMoved : Aim → Type 0
IsMoved Stays = ⊥
IsMoved _ = Unit {0}

-- ---- loops

-- the test of a `for`, 1 where it has none
abbrev pub test_or_one : Option ExpressionTree → ExpressionTree
test_or_one None = Typed (Some Int) (Number (pos 1))
test_or_one (Some e) = e

-- the third part of a `for` as items
abbrev pub third_items : Option ExpressionTree → Forest
third_items None = Nil
third_items (Some e) = one (Evaluate e)

-- the body of a `for` as that of a `while`: `continue` goes before the third part, which stands last
abbrev pub with_third : Forest → Aim → Option ExpressionTree → Forest
with_third a c u = join a (join (mark_of c) (third_items u))

-- ---- declarations

-- `x = e` of a slot that is a number of the kind
abbrev pub assign_number : IntKind → ℕ → ExpressionTree → ExpressionTree
assign_number k x e = Typed (Some k) (Assign (Var (H.Slot x)) e)

-- `x[i] = e` of a slot that is an array of the kind
abbrev pub assign_cell : IntKind → ℕ → ℕ → ExpressionTree → ExpressionTree
assign_cell k x i e = Typed (Some k) (Assign (Cell (H.Slot x) (Typed (Some Int) (Number (pos i)))) e)

-- 0 as an int
abbrev pub zero_tree : ExpressionTree
zero_tree = Typed (Some Int) (Number (pos 0))

-- assignments to the cells of slot x from i on: the initialisers in order, then 0 to m more
abbrev pub assigned_cells : IntKind → ℕ → ℕ → List ExpressionTree → ℕ → Forest
assigned_cells k x i (e ∷ es) m = Then (Evaluate (assign_cell k x i e)) (assigned_cells k x (suc i) es m)
assigned_cells k x i [] zero = Nil
assigned_cells k x i [] (suc m) = Then (Evaluate (assign_cell k x i zero_tree)) (assigned_cells k x (suc i) [] m)

-- ---- a switch that is dissolved

-- the label of each case and of the default
abbrev pub Names : Type 0
Names = Option ExpressionTree → ℕ

-- the label, if the test holds
abbrev pub label_if : Bool → ℕ → Option ℕ
label_if true l = Some l
label_if false l = None

-- the label of the first of these cases that is the goal, else of the default, if it is
abbrev pub wanted_case : Goal → Names → List ExpressionTree → Bool → Option ℕ
wanted_case g names [] false = None
wanted_case g names [] true = label_if (is_goal g (Arrival None)) (names None)
wanted_case g names (e ∷ es) default = or_else (label_if (is_goal g (Arrival (Some e))) (names (Some e))) (wanted_case g names es default)

abbrev mutual
  -- the label of the first Arrival of a list that is the goal, in text order
  pub wanted : Goal → Names → Forest → Option ℕ
  wanted g names Nil = None
  wanted g names (Then x xs) = or_else (wanted_in g names x) (wanted g names xs)

  -- in an item; the labels in a switch inside are not those of this one
  pub wanted_in : Goal → Names → Tree → Option ℕ
  wanted_in g names (If t a b) = or_else (wanted g names a) (wanted g names b)
  wanted_in g names (While t a) = wanted g names a
  wanted_in g names (Do a t) = wanted g names a
  wanted_in g names (For f t u a) = wanted g names a
  wanted_in g names (Block a) = wanted g names a
  wanted_in g names (Arrival e) = label_if (is_goal g (Arrival e)) (names e)
  wanted_in g names _ = None

-- of the first case, default or Arrival of the sections that is
abbrev pub wanted_among : Goal → Names → Sections → Option ℕ
wanted_among g names NoSection = None
wanted_among g names (Section cases default a ends c) = or_else (wanted_case g names cases default) (or_else (wanted g names a) (wanted_among g names c))

-- the expression is the number, spelled by numbers and marks
pub data Spells : ExpressionTree → ℤ → Type 0 where
  sp_number : (k : Option IntKind) (n : ℤ) → Spells (Typed k (Number n)) n
  sp_unary : (op : UnaryOp) (k : Option IntKind) {a : ExpressionTree} {m n : ℤ} → Spells a m → unary_result op (operand_kind (kind_of a)) m ≡ Ok n →
      Spells (Typed k (Unary op a)) n
  sp_binary : (op : ArithOp) (k : Option IntKind) {a b : ExpressionTree} {m i n : ℤ} → Spells a m → Spells b i →
      binary_result (Arith op) (operand_kind (kind_of a)) (operand_kind (kind_of b)) m i ≡ Ok n → Spells (Typed k (Binary (Arith op) a b)) n

-- it is the number n as a constant of kind k
pub record IsNumber (e : ExpressionTree) (k : IntKind) (n : ℤ) : Type 0 where
  pub kind : kind_of e ≡ Some k
  pub spelled : Spells e n

-- `v == c`, c the number of the case
abbrev pub is_number : IntKind → ℕ → ExpressionTree → ExpressionTree
is_number k v c = Typed (Some Int) (Binary Equal (Typed (Some k) (Read (Var (H.Slot v)))) c)

-- the tests of a switch: `number k n` is the number n as a constant of kind k, and `names` has the labels of the cases
module _ (number : IntKind → ℤ → ExpressionTree) (k : IntKind) (v : ℕ) (names : Names) where
  -- `if (v == c) goto` the label of the case
  abbrev pub test_for : ExpressionTree → Forest
  test_for e = option_map_or (λ n. one (If (Source (is_number k v (number k n))) (one (Goto (names (Some e)))) Nil)) (case_number k e) Nil

  -- for each of these cases
  abbrev pub tests_for : List ExpressionTree → Forest
  tests_for [] = Nil
  tests_for (e ∷ es) = join (test_for e) (tests_for es)

  abbrev mutual
    -- for each case of a list that is bound to the switch, in text order
    pub tests : Forest → Forest
    tests Nil = Nil
    tests (Then x xs) = join (tests_in x) (tests xs)

    -- of an item
    pub tests_in : Tree → Forest
    tests_in (If t a b) = join (tests a) (tests b)
    tests_in (While t a) = tests a
    tests_in (Do a t) = tests a
    tests_in (For f t u a) = tests a
    tests_in (Block a) = tests a
    tests_in (Arrival (Some e)) = test_for e
    tests_in _ = Nil

  -- of sections
  abbrev pub tests_among : Sections → Forest
  tests_among NoSection = Nil
  tests_among (Section cases default a ends c) = join (tests_for cases) (join (tests a) (tests_among c))

-- the labels of a section: of its cases, then of its default
abbrev pub case_marks : Names → List ExpressionTree → Bool → Forest
case_marks names [] true = one (Mark (names None))
case_marks names [] false = Nil
case_marks names (e ∷ es) default = Then (Mark (names (Some e))) (case_marks names es default)
