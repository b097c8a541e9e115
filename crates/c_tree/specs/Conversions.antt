-- Conversion on plain trees: gotos become an Arm and a Leap, and labels become Lands.
use Rattle.std.specs.Prelude.{ℕ, Option, Some, None}
use Rattle.std.specs.Option.{option_map_or}
use Rattle.c_tree.specs.ExpressionTrees.{ExpressionTree}
use Rattle.c_tree.specs.TestTrees.{TestTree, Source}
use Rattle.c_tree.specs.Trees.{Tree, Forest, Nil, Then, Sections, NoSection, Section, If, While, Do, For, Switch, Block, Goto, Mark, Arm, Leap, Land, join}
use Rattle.c_tree.specs.Changed.{one}

-- the guard is set, by the value of the condition if there is one, and the jump is made
abbrev pub jump_tree : ℕ → Option ExpressionTree → Forest
jump_tree l e = Then (Arm l e) (one (Leap l))

-- the expression of a test of the source
abbrev pub source_tree : TestTree → Option ExpressionTree
source_tree (Source e) = Some e
source_tree _ = None

-- the label of a list that is one goto
abbrev pub lone_goto : Forest → Option ℕ
lone_goto (Then (Goto l) Nil) = Some l
lone_goto _ = None

-- the label of `if (c) goto L`, without else
abbrev pub conditional_goto : TestTree → Forest → Forest → Option ℕ
conditional_goto (Source e) a Nil = lone_goto a
conditional_goto _ _ _ = None

abbrev mutual
  pub convert : Forest → Forest
  convert Nil = Nil
  convert (Then x a) = join (convert_item x) (convert a)

  pub convert_item : Tree → Forest
  convert_item (If t a b) = option_map_or (λ l. jump_tree l (source_tree t)) (conditional_goto t a b) (one (If t (convert a) (convert b)))
  convert_item (While t a) = one (While t (convert a))
  convert_item (Do a t) = one (Do (convert a) t)
  convert_item (For first t u a) = one (For (convert first) t u (convert a))
  convert_item (Switch s c) = one (Switch s (convert_sections c))
  convert_item (Block a) = one (Block (convert a))
  convert_item (Goto l) = jump_tree l None
  convert_item (Mark l) = one (Land l)
  convert_item x = one x

  pub convert_sections : Sections → Sections
  convert_sections NoSection = NoSection
  convert_sections (Section cases default a ends c) = Section cases default (convert a) ends (convert_sections c)
