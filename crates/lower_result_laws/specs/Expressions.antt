-- Where the full expressions of a lowered function come from, and how many counted tokens they have.
use Rattle.std.specs.Prelude.{◌≡◌, ◌⊎◌, ◌+◌, ◌≤◌, List, [], ◌∷◌, Some}
use Rattle.std.specs.List.{Contains}
use Rattle.c_tree.specs.declared.tree.Top.{Top}
use Rattle.c_tree.specs.declared.tree.Top.TheVariants as T
use Rattle.c_tree.specs.declared.tree.Program.{Program}
use Rattle.c_tree.specs.Cases.{selector_source}
use Rattle.c_tree.specs.Everywhere.{Everywhere}
use Rattle.c_tree.specs.ExpressionTrees.{ExpressionTree}
use Rattle.c_tree.specs.InRange.{body_of}
use Rattle.c_tree.specs.TestTrees.{TestTree, Source, AndOff, OrOn}
use Rattle.c_tree.specs.Trees.{Tree, Forest, Nil, Then, Sections, NoSection, Section, Evaluate, Return, If, While, Do, For, Switch, Block, Local, Arm}
use Rattle.c_resolved_defs.specs.PrintableExpressions.{counted, counted_at}

-- ---- the full expressions of an item by itself

-- e is the source expression of a test
abbrev pub IsTested : ExpressionTree → TestTree → Type 0
IsTested e (Source d) = e ≡ d
IsTested e (AndOff l t) = IsTested e t
IsTested e (OrOn l t) = IsTested e t
IsTested e _ = ⊥

-- e is an initialiser
abbrev pub IsInitialiser : ExpressionTree → Tree → Type 0
IsInitialiser e (Local k (Some es)) = Contains es e
IsInitialiser e _ = ⊥

-- e is a selector
abbrev pub IsSelector : ExpressionTree → Tree → Type 0
IsSelector e (Switch s c) = e ≡ selector_source s
IsSelector e _ = ⊥

-- e is another one, but no constant of a case
abbrev pub IsOther : ExpressionTree → Tree → Type 0
IsOther e (Evaluate d) = e ≡ d
IsOther e (Return d) = d ≡ Some e
IsOther e (If t a b) = IsTested e t
IsOther e (While t a) = IsTested e t
IsOther e (Do a t) = IsTested e t
IsOther e (For first t u a) = (t ≡ Some e) ⊎ (u ≡ Some e)
IsOther e (Arm l d) = d ≡ Some e
IsOther e _ = ⊥

-- ---- those of a list

abbrev mutual
  -- a fact holds of some item of a list, at any depth
  pub Somewhere : (Tree → Type 0) → Forest → Type 0
  Somewhere P Nil = ⊥
  Somewhere P (Then x xs) = SomewhereOf P x ⊎ Somewhere P xs

  -- of an item, or of one of those that stand in it
  pub SomewhereOf : (Tree → Type 0) → Tree → Type 0
  SomewhereOf P (If t a b) = P (If t a b) ⊎ Somewhere P a ⊎ Somewhere P b
  SomewhereOf P (While t a) = P (While t a) ⊎ Somewhere P a
  SomewhereOf P (Do a t) = P (Do a t) ⊎ Somewhere P a
  SomewhereOf P (For first t u a) = P (For first t u a) ⊎ Somewhere P first ⊎ Somewhere P a
  SomewhereOf P (Switch s c) = P (Switch s c) ⊎ SomewhereIn P c
  SomewhereOf P (Block a) = P (Block a) ⊎ Somewhere P a
  SomewhereOf P x = P x

  -- of one of the items in sections
  pub SomewhereIn : (Tree → Type 0) → Sections → Type 0
  SomewhereIn P NoSection = ⊥
  SomewhereIn P (Section cases default a ends c) = Somewhere P a ⊎ SomewhereIn P c

-- ---- a lowered function

-- where a full expression comes from when a body is lowered
pub data ComesFrom (body : Forest) (e : ExpressionTree) : Type 0 where
  -- it is one of the body
  stays : Somewhere (IsOther e) body → ComesFrom body e
  -- it has at most two counted tokens more than an initialiser of the body
  initialises : (d : ExpressionTree) → Somewhere (IsInitialiser d) body → counted e ≤ counted_at 2 d + 2 → ComesFrom body e
  -- or than a selector
  selects : (d : ExpressionTree) → Somewhere (IsSelector d) body → counted e ≤ counted d + 2 → ComesFrom body e
  -- it tests for a case, or fills a cell of an array with 0
  made : counted e ≤ 3 → ComesFrom body e

-- each expression of an item comes from the body
abbrev pub ComeFrom : Forest → Tree → Type 0
ComeFrom body x = (e : ExpressionTree) → IsInitialiser e x ⊎ IsSelector e x ⊎ IsOther e x → ComesFrom body e

-- of what stands at file scope, before and after
abbrev pub TopComesFrom : Top → Top → Type 0
TopComesFrom (T.Function f) (T.Function h) = Everywhere (ComeFrom (body_of f)) (body_of h)
TopComesFrom _ _ = Unit {0}

abbrev pub TopsComeFrom : List Top → List Top → Type 0
TopsComeFrom [] [] = Unit {0}
TopsComeFrom (t ∷ ts) (u ∷ us) = TopComesFrom t u × TopsComeFrom ts us
TopsComeFrom _ _ = ⊥

-- the functions of p with those of q, in file order: a full expression of q is one of p, has at most two counted tokens more
-- than an initialiser or a selector of p, or is made and has at most three
abbrev pub KeepsExpressions : Program → Program → Type 0
KeepsExpressions p q = TopsComeFrom p.tops q.tops
