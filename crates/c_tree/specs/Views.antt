-- The one layer of an item and of a section as plain data: a contract that says what an item gives by its tree can be
-- proved arm by arm where it takes the tree in this form.
use Rattle.std.specs.Prelude.{ℕ, ◌+◌, ◌<◌, ◌≡◌, List, length, get_or, drop, option_map}
use Rattle.c_tree.specs.declared.tree.Item.{Item, Item-F, out-Item}
use Rattle.c_tree.specs.declared.tree.Item.TheOpen as O
use Rattle.c_tree.specs.declared.tree.Section as Real
use Rattle.c_tree.specs.ExpressionTrees.{expression_tree}
use Rattle.c_tree.specs.TestTrees.{test_tree, selector_tree}
use Rattle.c_tree.specs.Trees.{Tree, Then, Sections, Section, Evaluate, Return, If, While, Do, For, Switch, Block, Local, Break, Continue, Goto, Mark, Arm, Leap, Land, Arrival, Note, expression_trees, tree_of, trees_of, sections_of}

abbrev pub layer_at : Item-F Item Real.Section → Tree
layer_at (O.Evaluate e) = Evaluate (expression_tree e)
layer_at (O.Return e) = Return (option_map expression_tree e)
layer_at (O.If t a b) = If (test_tree t) (trees_of a) (trees_of b)
layer_at (O.While t a) = While (test_tree t) (trees_of a)
layer_at (O.Do a t) = Do (trees_of a) (test_tree t)
layer_at (O.For f t u a) = For (trees_of f) (option_map expression_tree t) (option_map expression_tree u) (trees_of a)
layer_at (O.Switch s cs) = Switch (selector_tree s) (sections_of cs)
layer_at (O.Block a) = Block (trees_of a)
layer_at (O.Local x es) = Local x (option_map expression_trees es)
layer_at O.Break = Break
layer_at O.Continue = Continue
layer_at (O.Goto l) = Goto l
layer_at (O.Mark l) = Mark l
layer_at (O.Arm l e) = Arm l (option_map expression_tree e)
layer_at (O.Leap l) = Leap l
layer_at (O.Land l) = Land l
layer_at (O.Arrival e) = Arrival (option_map expression_tree e)
layer_at (O.Note bs) = Note bs

-- the tree of an item
abbrev pub tree_at : Item → Tree
tree_at x = layer_at (out-Item x)

-- a section before others
abbrev pub before : Real.Section → Sections → Sections
before c d = let o = Real.out-Section c in Section (expression_trees o.cases) o.default (trees_of o.list) o.ends d

pub record ViewLaws : Type 0 where
  -- it is the tree of the item
  pub same : (x : Item) → tree_of x ≡ tree_at x
  -- a list and a list of sections from one place on
  pub items : (xs : List Item) (i : ℕ) (x : Item) → i < length xs → x ≡ get_or xs i x → trees_of (drop i xs) ≡ Then (tree_at x) (trees_of (drop (i + 1) xs))
  pub sections : (cs : List Real.Section) (i : ℕ) (c : Real.Section) → i < length cs → c ≡ get_or cs i c →
      sections_of (drop i cs) ≡ before c (sections_of (drop (i + 1) cs))
