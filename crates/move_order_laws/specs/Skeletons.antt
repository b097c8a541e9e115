-- The skeleton of a body: its source statements and source tests, each in its own construct, without what
-- jumps and the rewriting put there.
use Rattle.std.specs.Prelude.{Option, Some, None}
use Rattle.c_tree.specs.ExpressionTrees.{ExpressionTree}
use Rattle.c_tree.specs.TestTrees.{TestTree, Source, On, Off, AndOff, OrOn, SelectorTree, Selects}
use Rattle.c_tree.specs.Trees.{Tree, Forest, Nil, Then, Sections, NoSection, Section, Evaluate, If, While, Do, For, Switch, Block, Goto, Mark, Arm, Leap, Land, join}
use Rattle.c_tree.specs.Cases.{selector_source}
use Rattle.c_tree.specs.Changed.{one}

-- the source expression of a test, if it has one
abbrev pub test_source : TestTree → Option ExpressionTree
test_source (Source e) = Some e
test_source (On l) = None
test_source (Off l) = None
test_source (AndOff l t) = test_source t
test_source (OrOn l t) = test_source t

-- a selector is reduced to its source expression
abbrev pub reduced_selector : SelectorTree → SelectorTree
reduced_selector s = Selects (selector_source s)

-- a test is reduced to its source expression
abbrev pub reduced : TestTree → TestTree
reduced (Source e) = Source e
reduced (On l) = On l
reduced (Off l) = Off l
reduced (AndOff l t) = reduced t
reduced (OrOn l t) = reduced t

-- an `if` by the source expression of its test and the skeletons of its lists: a made one gives way to them
abbrev pub if_skeleton : Option ExpressionTree → Forest → Forest → Forest
if_skeleton None a b = join a b
if_skeleton (Some e) a b = one (If (Source e) a b)

-- a made `do` gives way to its list
abbrev pub do_skeleton : Option ExpressionTree → Forest → Forest
do_skeleton None a = a
do_skeleton (Some e) a = one (Do a (Source e))

-- the condition of `if (c) goto L`, without else
abbrev pub goto_condition : TestTree → Forest → Forest → Option ExpressionTree
goto_condition (Source e) (Then (Goto l) Nil) Nil = Some e
goto_condition _ _ _ = None

-- which stays as a statement; any other item is as it is
abbrev pub or_statement : Option ExpressionTree → Forest → Forest
or_statement None xs = xs
or_statement (Some e) xs = one (Evaluate e)

-- an Arm with a condition gives the condition, as a statement
abbrev pub arm_skeleton : Option ExpressionTree → Forest
arm_skeleton None = Nil
arm_skeleton (Some e) = one (Evaluate e)

abbrev mutual
  -- the skeleton of a list
  pub skeleton : Forest → Forest
  skeleton Nil = Nil
  skeleton (Then x xs) = join (skeleton_of x) (skeleton xs)

  -- what stands in the place of an item
  pub skeleton_of : Tree → Forest
  skeleton_of (If t a b) = or_statement (goto_condition t a b) (if_skeleton (test_source t) (skeleton a) (skeleton b))
  skeleton_of (While t a) = one (While (reduced t) (skeleton a))
  skeleton_of (Do a t) = do_skeleton (test_source t) (skeleton a)
  skeleton_of (For f t u a) = one (For (skeleton f) t u (skeleton a))
  skeleton_of (Switch s c) = one (Switch (reduced_selector s) (skeleton_in c))
  skeleton_of (Block a) = one (Block (skeleton a))
  skeleton_of (Goto l) = Nil
  skeleton_of (Mark l) = Nil
  skeleton_of (Arm l e) = arm_skeleton e
  skeleton_of (Leap l) = Nil
  skeleton_of (Land l) = Nil
  skeleton_of x = one x

  -- sections with the skeletons of their lists
  pub skeleton_in : Sections → Sections
  skeleton_in NoSection = NoSection
  skeleton_in (Section cases default a ends c) = Section cases default (skeleton a) ends (skeleton_in c)
