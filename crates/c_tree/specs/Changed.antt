-- Lists that are equal but for one place.
use Rattle.std.specs.Prelude.{Bool, List, Option}
use Rattle.c_tree.specs.ExpressionTrees.{ExpressionTree}
use Rattle.c_tree.specs.TestTrees.{TestTree, SelectorTree}
use Rattle.c_tree.specs.Trees.{Tree, Forest, Nil, Then, Sections, Section, If, While, Do, For, Switch, Block, join}

abbrev pub one : Tree → Forest
one x = Then x Nil

mutual
  -- R holds of a list that stands in the first, at any depth, and of the one that stands there in the second
  pub data Changed (R : Forest → Forest → Type 0) : Forest → Forest → Type 0 where
    here : {xs ys : Forest} → R xs ys → Changed R xs ys
    within : (a b : Forest) {xs ys : Forest} → Changed R xs ys → Changed R (join a (join xs b)) (join a (join ys b))
    in_then : (t : TestTree) (b : Forest) {xs ys : Forest} → Changed R xs ys → Changed R (one (If t xs b)) (one (If t ys b))
    in_else : (t : TestTree) (a : Forest) {xs ys : Forest} → Changed R xs ys → Changed R (one (If t a xs)) (one (If t a ys))
    in_while : (t : TestTree) {xs ys : Forest} → Changed R xs ys → Changed R (one (While t xs)) (one (While t ys))
    in_do : (t : TestTree) {xs ys : Forest} → Changed R xs ys → Changed R (one (Do xs t)) (one (Do ys t))
    in_for : (f : Forest) (t u : Option ExpressionTree) {xs ys : Forest} → Changed R xs ys → Changed R (one (For f t u xs)) (one (For f t u ys))
    in_switch : (s : SelectorTree) {c d : Sections} → ChangedSections R c d → Changed R (one (Switch s c)) (one (Switch s d))
    in_block : {xs ys : Forest} → Changed R xs ys → Changed R (one (Block xs)) (one (Block ys))

  pub data ChangedSections (R : Forest → Forest → Type 0) : Sections → Sections → Type 0 where
    in_section : (cases : List ExpressionTree) (default ends : Bool) (c : Sections) {xs ys : Forest} → Changed R xs ys
        → ChangedSections R (Section cases default xs ends c) (Section cases default ys ends c)
    in_later : (cases : List ExpressionTree) (default ends : Bool) (xs : Forest) {c d : Sections} → ChangedSections R c d
        → ChangedSections R (Section cases default xs ends c) (Section cases default xs ends d)
