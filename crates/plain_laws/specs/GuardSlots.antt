-- Guards as variables, on plain trees: `slot l` is the number of the variable that stands for the guard of l.
use Rattle.std.specs.Prelude.{ℕ, pos, Bool, true, false, cond, Option, Some, None}
use Rattle.c_types.specs.declared.kinds.IntKind.{IntKind}
use Rattle.c_types.specs.declared.kinds.IntKind.TheVariants.{Int}
use Rattle.c_tree.specs.declared.tree.Home.TheVariants as H
use Rattle.c_tree.specs.declared.tree.UnaryOp.TheVariants.{Not}
use Rattle.c_tree.specs.declared.tree.BinaryOp.{BinaryOp}
use Rattle.c_tree.specs.declared.tree.BinaryOp.TheVariants.{Arith, Unequal, AndThen, OrElse}
use Rattle.c_tree.specs.ExpressionTrees.{ExpressionTree, NodeTree, Typed, Var, Read, Unary, Binary, Conditional, Assign}
use Rattle.c_tree.specs.Numerals.{number, constant}
use Rattle.c_tree.specs.TestTrees.{TestTree, Source, On, Off, AndOff, OrOn, SelectorTree, Selects, Pick}
use Rattle.c_tree.specs.Trees.{Tree, Forest, Nil, Then, Sections, NoSection, Section, Evaluate, If, While, Do, For, Switch, Block, Arm, Land}
use Rattle.jump_meaning.specs.Step.{switch_kind}

-- ---- expressions

-- the value of the variable in slot x
abbrev pub guard : ℕ → ExpressionTree
guard x = Typed (Some Int) (Read (Var (H.Slot x)))

-- whether it is 0
abbrev pub guard_off : ℕ → ExpressionTree
guard_off x = Typed (Some Int) (Unary Not (guard x))

-- the statement that sets it
abbrev pub guard_set : ℕ → ExpressionTree → Tree
guard_set x e = Evaluate (Typed (Some Int) (Assign (Var (H.Slot x)) e))

-- whether the value of a mark is 0 or 1
abbrev pub is_truth_mark : BinaryOp → Bool
is_truth_mark (Arith op) = false
is_truth_mark _ = true

-- whether the outermost mark of a node is a comparison, `!`, `&&` or `||`
abbrev pub is_truth_node : NodeTree → Bool
is_truth_node (Unary Not a) = true
is_truth_node (Binary op a b) = is_truth_mark op
is_truth_node _ = false

-- whether the outermost mark of an expression is a comparison, `!`, `&&` or `||`
abbrev pub is_truth : ExpressionTree → Bool
is_truth (Typed kind node) = is_truth_node node

-- `e != 0`
abbrev pub unequal_zero : ExpressionTree → ExpressionTree
unequal_zero e = Typed (Some Int) (Binary Unequal e (number Int (pos 0)))

-- whether an expression isn't 0, as a number that is 0 or 1
abbrev pub truth : ExpressionTree → ExpressionTree
truth e = cond (is_truth e) e (unequal_zero e)

-- ---- tests and selectors

-- a test as an expression: `g`, `!g`, `!g && t`, `g || t`
abbrev pub plain_test : (ℕ → ℕ) → TestTree → ExpressionTree
plain_test slot (Source e) = e
plain_test slot (On l) = guard (slot l)
plain_test slot (Off l) = guard_off (slot l)
plain_test slot (AndOff l t) = Typed (Some Int) (Binary AndThen (guard_off (slot l)) (plain_test slot t))
plain_test slot (OrOn l t) = Typed (Some Int) (Binary OrElse (guard (slot l)) (plain_test slot t))

-- `g ? n : s` for each guard, in the kind k
abbrev pub picked : (ℕ → ℕ) → IntKind → SelectorTree → ExpressionTree
picked slot k (Selects e) = e
picked slot k (Pick l n s) = Typed (Some k) (Conditional (guard (slot l)) (constant k n) (picked slot k s))

-- a selector as an expression, with the constants in its promoted kind
abbrev pub plain_selector : (ℕ → ℕ) → SelectorTree → ExpressionTree
plain_selector slot s = picked slot (switch_kind s) s

-- ---- items

-- what a guard is set to where its jump is taken
abbrev pub armed : Option ExpressionTree → ExpressionTree
armed None = number Int (pos 1)
armed (Some e) = truth e

abbrev mutual
  -- a list without guards
  pub plain_list : (ℕ → ℕ) → Forest → Forest
  plain_list slot Nil = Nil
  plain_list slot (Then x xs) = Then (plain_item slot x) (plain_list slot xs)

  -- an item: an Arm or a Land sets a variable, and each test and selector is an expression
  pub plain_item : (ℕ → ℕ) → Tree → Tree
  plain_item slot (If t a b) = If (Source (plain_test slot t)) (plain_list slot a) (plain_list slot b)
  plain_item slot (While t a) = While (Source (plain_test slot t)) (plain_list slot a)
  plain_item slot (Do a t) = Do (plain_list slot a) (Source (plain_test slot t))
  plain_item slot (For first t u a) = For (plain_list slot first) t u (plain_list slot a)
  plain_item slot (Switch s c) = Switch (Selects (plain_selector slot s)) (plain_sections slot c)
  plain_item slot (Block a) = Block (plain_list slot a)
  plain_item slot (Arm l e) = guard_set (slot l) (armed e)
  plain_item slot (Land l) = guard_set (slot l) (number Int (pos 0))
  plain_item slot x = x

  -- the sections of a switch
  pub plain_sections : (ℕ → ℕ) → Sections → Sections
  plain_sections slot NoSection = NoSection
  plain_sections slot (Section cases default a ends c) = Section cases default (plain_list slot a) ends (plain_sections slot c)
