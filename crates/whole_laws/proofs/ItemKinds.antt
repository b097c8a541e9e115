-- Kinds that agree in the items of a function, as facts of their expressions, and back.
use Rattle.std.proofs.Common.{List, [], ◌∷◌, ◌++◌, Option, Some, None}
use Rattle.std.specs.Prelude.{IfSome}
use Rattle.c_types.specs.declared.kinds.IntKind.{IntKind}
use Rattle.c_tree.specs.declared.tree.Function.{Function}
use Rattle.c_tree.specs.Cases.{all_cases}
use Rattle.c_tree.specs.ExpressionTrees.{ExpressionTree}
use Rattle.c_tree.specs.TestTrees.{TestTree, Source, On, Off, AndOff, OrOn}
use Rattle.c_tree.specs.Trees.{Tree, Sections, NoSection, Section, Evaluate, Return, If, While, Do, For, Switch, Block, Local, Break, Continue, Goto, Mark, Arm, Leap, Land, Arrival, Note}
use Rattle.c_resolved_defs.specs.Within.{Each, Within, TestExpression, CaseExpressions}
use Rattle.c_resolved_defs.specs.Names.{Names}
use Rattle.c_resolved_defs.specs.Kinds.{IsOperand, HasValue, KindsAgree, WritesNoConst, ItemAgrees, ReturnFits, KeepsConsts}
use Rattle.c_resolved_defs.specs.Form.{HasSourceForm}
use Rattle.whole_laws.proofs.Unlabelled.{IsPlainItem}
use Rattle.whole_laws.proofs.Facts.{AnyNote, ItemHas}
use Rattle.whole_laws.proofs.MadeKinds.{Known, Value, Operand}

-- ---- cases

pub each_join : (P : ExpressionTree → Type 0) (xs ys : List ExpressionTree) → Each P xs → Each P ys → Each P (xs ++ ys)
each_join P [] ys h i = i
each_join P (x ∷ xs) ys h i = (h.0, each_join P xs ys h.1 i)

pub each_front : (P : ExpressionTree → Type 0) (xs ys : List ExpressionTree) → Each P (xs ++ ys) → Each P xs
each_front P [] ys h = tt
each_front P (x ∷ xs) ys h = (h.0, each_front P xs ys h.1)

pub each_back : (P : ExpressionTree → Type 0) (xs ys : List ExpressionTree) → Each P (xs ++ ys) → Each P ys
each_back P [] ys h = h
each_back P (x ∷ xs) ys h = each_back P xs ys h.1

pub cases_all : (P : ExpressionTree → Type 0) (c : Sections) → CaseExpressions P c → Each P (all_cases c)
cases_all P NoSection h = tt
cases_all P (Section cases default a ends c) h = each_join P cases (all_cases c) h.0 (cases_all P c h.1)

pub all_in_cases : (P : ExpressionTree → Type 0) (c : Sections) → Each P (all_cases c) → CaseExpressions P c
all_in_cases P NoSection h = tt
all_in_cases P (Section cases default a ends c) h = (each_front P cases (all_cases c) h, all_in_cases P c (each_back P cases (all_cases c) h))

-- ---- two facts and one of both

module _ (P Q : ExpressionTree → Type 0) where
  abbrev Both : ExpressionTree → Type 0
  Both e = P e × Q e

  pub both_tests : (t : TestTree) → TestExpression P t → TestExpression Q t → TestExpression Both t
  both_tests (Source e) h i = (h, i)
  both_tests (On l) h i = tt
  both_tests (Off l) h i = tt
  both_tests (AndOff l t) h i = both_tests t h i
  both_tests (OrOn l t) h i = both_tests t h i

  pub both_each : (es : List ExpressionTree) → Each P es → Each Q es → Each Both es
  both_each [] h i = tt
  both_each (e ∷ es) h i = ((h.0, i.0), both_each es h.1 i.1)

  pub both_some : (o : Option ExpressionTree) → IfSome o P → IfSome o Q → IfSome o Both
  both_some None h i = tt
  both_some (Some e) h i = (h, i)

  pub both_listed : (o : Option (List ExpressionTree)) → IfSome o (Each P) → IfSome o (Each Q) → IfSome o (Each Both)
  both_listed None h i = tt
  both_listed (Some es) h i = both_each es h i

  pub firsts_test : (t : TestTree) → TestExpression Both t → TestExpression P t
  firsts_test (Source e) h = h.0
  firsts_test (On l) h = tt
  firsts_test (Off l) h = tt
  firsts_test (AndOff l t) h = firsts_test t h
  firsts_test (OrOn l t) h = firsts_test t h

  pub seconds_test : (t : TestTree) → TestExpression Both t → TestExpression Q t
  seconds_test (Source e) h = h.1
  seconds_test (On l) h = tt
  seconds_test (Off l) h = tt
  seconds_test (AndOff l t) h = seconds_test t h
  seconds_test (OrOn l t) h = seconds_test t h

  pub firsts : (es : List ExpressionTree) → Each Both es → Each P es
  firsts [] h = tt
  firsts (e ∷ es) h = (h.0.0, firsts es h.1)

  pub seconds : (es : List ExpressionTree) → Each Both es → Each Q es
  seconds [] h = tt
  seconds (e ∷ es) h = (h.0.1, seconds es h.1)

  pub first_some : (o : Option ExpressionTree) → IfSome o Both → IfSome o P
  first_some None h = tt
  first_some (Some e) h = h.0

  pub second_some : (o : Option ExpressionTree) → IfSome o Both → IfSome o Q
  second_some None h = tt
  second_some (Some e) h = h.1

  pub firsts_listed : (o : Option (List ExpressionTree)) → IfSome o (Each Both) → IfSome o (Each P)
  firsts_listed None h = tt
  firsts_listed (Some es) h = firsts es h

  pub seconds_listed : (o : Option (List ExpressionTree)) → IfSome o (Each Both) → IfSome o (Each Q)
  seconds_listed None h = tt
  seconds_listed (Some es) h = seconds es h

-- ---- of items

abbrev IsNoReturn : Tree → Type 0
IsNoReturn (Return e) = ⊥
IsNoReturn _ = Unit {0}

pub other_fits : (result : Option IntKind) (x : Tree) → IsNoReturn x → ReturnFits result x
other_fits None (Return e) i = absurd i
other_fits (Some k) (Return e) i = absurd i
other_fits _ x i = tt

-- what is returned: a value where the function gives one
abbrev pub Returned : Names → Option IntKind → Option ExpressionTree → Type 0
Returned n result e = IfSome e (Value n) × ReturnFits result (Return e)

module _ (n : Names) (result : Option IntKind) where
  abbrev K : ExpressionTree → Type 0
  K e = KindsAgree n e

  abbrev W : ExpressionTree → Type 0
  W e = Within (WritesNoConst n) e

  abbrev pub HasKinds : Tree → Type 0
  HasKinds x = ItemHas (Value n) (Operand n) (Known n) (Returned n result) AnyNote x

  -- the facts of an item of a source
  abbrev pub Agrees : Tree → Type 0
  Agrees x = ItemAgrees n x × (KeepsConsts n x × ReturnFits result x)

  value_some : (o : Option ExpressionTree) → IfSome o K → IfSome o W → IfSome o HasValue → IfSome o (Value n)
  value_some o k w v = both_some (Known n) HasValue o (both_some K W o k w) v

  pub to_kinds : (f : Function) (x : Tree) → Agrees x × HasSourceForm f x → HasKinds x
  to_kinds f (Evaluate e) h = ((h.0.0.kinds, h.0.1.0), h.0.0.values)
  to_kinds f (Return e) h = (value_some e h.0.0.kinds h.0.1.0 h.0.0.values, h.0.1.1)
  to_kinds f (If t a b) h = both_tests (Known n) HasValue t (both_tests K W t h.0.0.kinds h.0.1.0) h.0.0.values
  to_kinds f (While t a) h = both_tests (Known n) HasValue t (both_tests K W t h.0.0.kinds h.0.1.0) h.0.0.values
  to_kinds f (Do a t) h = both_tests (Known n) HasValue t (both_tests K W t h.0.0.kinds h.0.1.0) h.0.0.values
  to_kinds f (For first t u a) h =
      let k = h.0.0.kinds in
      let v = h.0.0.values in
      let w = h.0.1.0 in (value_some t k.0 w.0 v.0, both_some (Known n) IsOperand u (both_some K W u k.1 w.1) v.1)
  to_kinds f (Switch s c) h =
      let k = h.0.0.kinds in
      let w = h.0.1.0 in (((k.0, w.0), h.0.0.values), both_each K W (all_cases c) (cases_all K c k.1) (cases_all W c w.1))
  to_kinds f (Local x es) h = both_listed (Known n) HasValue es (both_listed K W es h.0.0.kinds h.0.1.0) h.0.0.values
  to_kinds f (Arm l e) h = absurd h.1
  to_kinds f _ h = tt

  of_test : (t : TestTree) → TestExpression (Value n) t → (TestExpression K t × TestExpression HasValue t) × TestExpression W t
  of_test t h = let k = firsts_test (Known n) HasValue t h in ((firsts_test K W t k, seconds_test (Known n) HasValue t h), seconds_test K W t k)

  of_some : (o : Option ExpressionTree) → IfSome o (Value n) → (IfSome o K × IfSome o HasValue) × IfSome o W
  of_some o h = let k = first_some (Known n) HasValue o h in ((first_some K W o k, second_some (Known n) HasValue o h), second_some K W o k)

  -- of an item that is no nested case label
  pub from_kinds : (x : Tree) → HasKinds x → IsPlainItem x → Agrees x
  from_kinds (Evaluate e) h i = (record { kinds = h.0.0; values = h.1 }, (h.0.1, other_fits result (Evaluate e) tt))
  from_kinds (Return e) h i = let s = of_some e h.0 in (record { kinds = s.0.0; values = s.0.1 }, (s.1, h.1))
  from_kinds (If t a b) h i = let s = of_test t h in (record { kinds = s.0.0; values = s.0.1 }, (s.1, other_fits result (If t a b) tt))
  from_kinds (While t a) h i = let s = of_test t h in (record { kinds = s.0.0; values = s.0.1 }, (s.1, other_fits result (While t a) tt))
  from_kinds (Do a t) h i = let s = of_test t h in (record { kinds = s.0.0; values = s.0.1 }, (s.1, other_fits result (Do a t) tt))
  from_kinds (For first t u a) h i =
      let s = of_some t h.0 in
      let k = first_some (Known n) IsOperand u h.1 in (
        record { kinds = (s.0.0, first_some K W u k); values = (s.0.1, second_some (Known n) IsOperand u h.1) },
        ((s.1, second_some K W u k), other_fits result (For first t u a) tt),
      )
  from_kinds (Switch s c) h i = (
    record { kinds = (h.0.0.0, all_in_cases K c (firsts K W (all_cases c) h.1)); values = h.0.1 },
    ((h.0.0.1, all_in_cases W c (seconds K W (all_cases c) h.1)), other_fits result (Switch s c) tt),
  )
  from_kinds (Local x es) h i =
      let k = firsts_listed (Known n) HasValue es h in (
        record { kinds = firsts_listed K W es k; values = seconds_listed (Known n) HasValue es h },
        (seconds_listed K W es k, other_fits result (Local x es) tt),
      )
  from_kinds (Arm l e) h i = let s = of_some e h in (record { kinds = s.0.0; values = tt }, (s.1, other_fits result (Arm l e) tt))
  from_kinds (Arrival e) h i = absurd i
  from_kinds (Block a) h i = (record { kinds = tt; values = tt }, (tt, other_fits result (Block a) tt))
  from_kinds Break h i = (record { kinds = tt; values = tt }, (tt, other_fits result Break tt))
  from_kinds Continue h i = (record { kinds = tt; values = tt }, (tt, other_fits result Continue tt))
  from_kinds (Goto l) h i = (record { kinds = tt; values = tt }, (tt, other_fits result (Goto l) tt))
  from_kinds (Mark l) h i = (record { kinds = tt; values = tt }, (tt, other_fits result (Mark l) tt))
  from_kinds (Leap l) h i = (record { kinds = tt; values = tt }, (tt, other_fits result (Leap l) tt))
  from_kinds (Land l) h i = (record { kinds = tt; values = tt }, (tt, other_fits result (Land l) tt))
  from_kinds (Note bs) h i = (record { kinds = tt; values = tt }, (tt, other_fits result (Note bs) tt))
