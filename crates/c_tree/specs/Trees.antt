-- Items as plain data: a tree, a list of trees, the sections of a switch.
use Rattle.std.specs.Prelude.{ℕ, Bool, List, [], ◌∷◌, map, Option, option_map}
use Rattle.c_tree.specs.declared.tree.Item.{Item, Item-F, fold-Item}
use Rattle.c_tree.specs.declared.tree.Item.TheOpen as Open
use Rattle.c_tree.specs.declared.tree.Section as Real
use Rattle.c_tree.specs.declared.tree.Expression.{Expression}
use Rattle.c_tree.specs.ExpressionTrees.{ExpressionTree, expression_tree}
use Rattle.c_tree.specs.TestTrees.{TestTree, SelectorTree, test_tree, selector_tree}

mutual
  pub data Tree : Type 0 where
    Evaluate : ExpressionTree → Tree
    Return : Option ExpressionTree → Tree
    If : TestTree → Forest → Forest → Tree
    While : TestTree → Forest → Tree
    Do : Forest → TestTree → Tree
    For : Forest → Option ExpressionTree → Option ExpressionTree → Forest → Tree
    Switch : SelectorTree → Sections → Tree
    Block : Forest → Tree
    Local : ℕ → Option (List ExpressionTree) → Tree
    Break : Tree
    Continue : Tree
    Goto : ℕ → Tree
    Mark : ℕ → Tree
    Arm : ℕ → Option ExpressionTree → Tree
    Leap : ℕ → Tree
    Land : ℕ → Tree
    Arrival : Option ExpressionTree → Tree
    Note : List ℕ → Tree

  pub data Forest : Type 0 where
    Nil : Forest
    Then : Tree → Forest → Forest

  -- the cases of the first section, its default, its list, whether it ends, and the later sections
  pub data Sections : Type 0 where
    NoSection : Sections
    Section : List ExpressionTree → Bool → Forest → Bool → Sections → Sections

-- one section
pub record SectionTree : Type 0 where
  pub cases : List ExpressionTree
  pub default : Bool
  pub list : Forest
  pub ends : Bool

abbrev pub forest : List Tree → Forest
forest [] = Nil
forest (x ∷ xs) = Then x (forest xs)

abbrev pub sections : List SectionTree → Sections
sections [] = NoSection
sections (c ∷ cs) = Section c.cases c.default c.list c.ends (sections cs)

abbrev pub expression_trees : List Expression → List ExpressionTree
expression_trees es = map expression_tree es

abbrev pub layer : Item-F Tree SectionTree → Tree
layer (Open.Evaluate e) = Evaluate (expression_tree e)
layer (Open.Return e) = Return (option_map expression_tree e)
layer (Open.If t a b) = If (test_tree t) (forest a) (forest b)
layer (Open.While t a) = While (test_tree t) (forest a)
layer (Open.Do a t) = Do (forest a) (test_tree t)
layer (Open.For f t u a) = For (forest f) (option_map expression_tree t) (option_map expression_tree u) (forest a)
layer (Open.Switch s cs) = Switch (selector_tree s) (sections cs)
layer (Open.Block a) = Block (forest a)
layer (Open.Local x es) = Local x (option_map expression_trees es)
layer Open.Break = Break
layer Open.Continue = Continue
layer (Open.Goto l) = Goto l
layer (Open.Mark l) = Mark l
layer (Open.Arm l e) = Arm l (option_map expression_tree e)
layer (Open.Leap l) = Leap l
layer (Open.Land l) = Land l
layer (Open.Arrival e) = Arrival (option_map expression_tree e)
layer (Open.Note bs) = Note bs

abbrev pub section_layer : Real.Section-F Tree SectionTree → SectionTree
section_layer c = record { cases = expression_trees c.cases; default = c.default; list = forest c.list; ends = c.ends }

unfoldable pub tree_of : Item → Tree
tree_of x = fold-Item Tree SectionTree layer section_layer x

unfoldable pub section_tree : Real.Section → SectionTree
section_tree c = Real.fold-Section Tree SectionTree layer section_layer c

-- the trees of a list of items
unfoldable pub trees_of : List Item → Forest
trees_of xs = forest (map tree_of xs)

-- the trees of the sections of a switch
unfoldable pub sections_of : List Real.Section → Sections
sections_of cs = sections (map section_tree cs)

-- one list after another
abbrev pub join : Forest → Forest → Forest
join Nil ys = ys
join (Then x xs) ys = Then x (join xs ys)
