-- Facts of the expressions of items, by what their values are used for.
use Rattle.std.specs.Prelude.{ℕ, List, [], ◌∷◌, Option, Some, None, IfSome}
use Rattle.std.specs.List.{AllByRecursion}
use Rattle.c_tree.specs.Cases.{selector_source, all_cases}
use Rattle.c_tree.specs.ExpressionTrees.{ExpressionTree}
use Rattle.c_tree.specs.TestTrees.{TestTree, Source, On, Off, AndOff, OrOn}
use Rattle.c_tree.specs.Trees.{Tree, Evaluate, Return, If, While, Do, For, Switch, Block, Local, Break, Continue, Goto, Mark, Arm, Leap, Land, Arrival, Note}
use Rattle.c_resolved_defs.specs.Within.{TestExpression}

-- no fact of comments
abbrev pub AnyNote : List ℕ → Type 0
AnyNote bs = Unit {0}

-- V holds of each expression of an item whose value is used, O of each whose value is dropped, C of each constant of a
-- case of a section, R of what is returned, and N of the bytes of a comment, apart from the items that stand in it
abbrev pub ItemHas : (V O C : ExpressionTree → Type 0) → (Option ExpressionTree → Type 0) → (List ℕ → Type 0) → Tree → Type 0
ItemHas V O C R N (Evaluate e) = O e
ItemHas V O C R N (Return e) = R e
ItemHas V O C R N (If t a b) = TestExpression V t
ItemHas V O C R N (While t a) = TestExpression V t
ItemHas V O C R N (Do a t) = TestExpression V t
ItemHas V O C R N (For first t u a) = IfSome t V × IfSome u O
ItemHas V O C R N (Switch s c) = V (selector_source s) × AllByRecursion C (all_cases c)
ItemHas V O C R N (Local x es) = IfSome es (AllByRecursion V)
ItemHas V O C R N (Arm l e) = IfSome e V
ItemHas V O C R N (Note bs) = N bs
ItemHas V O C R N _ = Unit {0}

-- ---- facts from others

module _ (P Q : ExpressionTree → Type 0) (f : (e : ExpressionTree) → P e → Q e) where
  pub test_map : (t : TestTree) → TestExpression P t → TestExpression Q t
  test_map (Source e) h = f e h
  test_map (On l) h = tt
  test_map (Off l) h = tt
  test_map (AndOff l t) h = test_map t h
  test_map (OrOn l t) h = test_map t h

  pub list_map : (es : List ExpressionTree) → AllByRecursion P es → AllByRecursion Q es
  list_map [] h = tt
  list_map (e ∷ es) h = (f e h.0, list_map es h.1)

  pub some_map : (o : Option ExpressionTree) → IfSome o P → IfSome o Q
  some_map None h = tt
  some_map (Some e) h = f e h

  pub listed_map : (o : Option (List ExpressionTree)) → IfSome o (AllByRecursion P) → IfSome o (AllByRecursion Q)
  listed_map None h = tt
  listed_map (Some es) h = list_map es h

module _ (V O C V' O' C' : ExpressionTree → Type 0) (R R' : Option ExpressionTree → Type 0) (v : (e : ExpressionTree) → V e → V' e)
    (o : (e : ExpressionTree) → O e → O' e) (c : (e : ExpressionTree) → C e → C' e)
    (r : (e : Option ExpressionTree) → R e → R' e) (N N' : List ℕ → Type 0) (n : (bs : List ℕ) → N bs → N' bs) where
  pub facts_map : (x : Tree) → ItemHas V O C R N x → ItemHas V' O' C' R' N' x
  facts_map (Evaluate e) h = o e h
  facts_map (Return e) h = r e h
  facts_map (If t a b) h = test_map V V' v t h
  facts_map (While t a) h = test_map V V' v t h
  facts_map (Do a t) h = test_map V V' v t h
  facts_map (For first t u a) h = (some_map V V' v t h.0, some_map O O' o u h.1)
  facts_map (Switch s d) h = (v (selector_source s) h.0, list_map C C' c (all_cases d) h.1)
  facts_map (Local x es) h = listed_map V V' v es h
  facts_map (Arm l e) h = some_map V V' v e h
  facts_map (Arrival e) h = tt
  facts_map (Block a) h = tt
  facts_map Break h = tt
  facts_map Continue h = tt
  facts_map (Goto l) h = tt
  facts_map (Mark l) h = tt
  facts_map (Leap l) h = tt
  facts_map (Land l) h = tt
  facts_map (Note bs) h = n bs h
