-- The full expressions of a lowered function come from those of the source.
use Rattle.std.proofs.Common.{◌≡◌, inl, inr, ℕ, zero, suc, ◌+◌, ◌≤◌, arith, ℤ, pos, Bool, true, false, cond, List, [], ◌∷◌, length, Option, Some, None, refl, sym, ap, subst, ◌∙◌}
use Rattle.std.specs.Prelude.{IfSome, int_le, neg_ℤ}
use Rattle.std.specs.Option.{option_map_or}
use Rattle.std.specs.List.{AllByRecursion, Contains}
use Rattle.std.proofs.lemmas.List.Elements.{All-contains_itself, recursion_from_All}
use Rattle.c_types.specs.declared.kinds.IntKind.{IntKind}
use Rattle.c_types.specs.Numbers.{converted, least}
use Rattle.c_copies.specs.Names.{names, file_names}
use Rattle.c_tree.specs.declared.tree.Function.{Function}
use Rattle.c_tree.specs.declared.tree.Item.{Item}
use Rattle.c_tree.specs.declared.tree.Top.{Top}
use Rattle.c_tree.specs.declared.tree.Top.TheVariants as T
use Rattle.c_tree.specs.declared.tree.Program.{Program}
use Rattle.c_tree.specs.Cases.{selector_source, all_cases}
use Rattle.c_tree.specs.Everywhere.{Everywhere, EverywhereOf, EverywhereIn}
use Rattle.c_tree.specs.ExpressionTrees.{ExpressionTree, Typed, Unary}
use Rattle.c_tree.specs.declared.tree.UnaryOp.TheVariants.{Minus}
use Rattle.c_tree.specs.InRange.{body_of}
use Rattle.c_tree.specs.Numerals.{number, least_constant, constant}
use Rattle.c_tree.specs.TestTrees.{TestTree, Source, AndOff, OrOn, SelectorTree}
use Rattle.c_tree.specs.Trees.{Tree, Forest, Nil, Then, Sections, NoSection, Section, Evaluate, Return, If, While, Do, For, Switch, Block, Local, Goto, Mark, Arm, Note, join, trees_of}
use Rattle.c_tree.proofs.WellMoved.{everywhere_map, everywhere_both}
use Rattle.c_resolved_defs.specs.Limits.{FlatCounts}
use Rattle.c_resolved_defs.specs.PrintableExpressions.{level_of, counted, counted_at}
use Rattle.c_resolved_defs.specs.Resolved.{IsResolvedFunction, IsResolvedTop, IsResolvedWith}
use Rattle.c_resolved_defs.specs.Within.{Each, TestExpression}
use Rattle.flat_laws.specs.FlatForm.{assigned}
use Rattle.flat_names.specs.FlatNames.{with_known}
use Rattle.jump_meaning.specs.Code.{function_tree}
use Rattle.jump_meaning.specs.Step.{switch_kind}
use Rattle.flat_laws.specs.Pieces.{assign_number, assigned_cells, is_number}
use Rattle.lower_laws.specs.Straight.{jump_if}
use Rattle.lower_laws.specs.Functions.{AreFlat}
use Rattle.lower_laws.proofs.LoweredPrograms.{lowered_laws}
use Rattle.lower_laws.specs.Lowering.{IsBodyLowered, IsLoweredFunction, IsTopLowered, LoweredTops, lt_none, lt_more, IsLoweredProgram}
use Rattle.whole_laws.proofs.Facts.{AnyNote, ItemHas}
use Rattle.whole_laws.proofs.PlainLists.{each_map}
use Rattle.whole_laws.proofs.Wrappers.{bracket_most}
use Rattle.lower_result_laws.proofs.Lowered.{body_is, result, is_lowered}
use Rattle.lower_result_laws.proofs.FactsLowered.{AreH, Tests}
use Rattle.lower_result_laws.proofs.LoweredFacts.{front, list, facts_lowered}
use Rattle.lower_result_laws.proofs.LoweredFacts as L
use Rattle.lower_result_laws.proofs.Numbered.{FlatView, fv_evaluate, fv_return, fv_note, fv_local, fv_goto, fv_mark, fv_jump, view}
use Rattle.lower_result_laws.proofs.Tops.{either}
use Rattle.lower_result_laws.specs.Expressions.{IsTested, IsInitialiser, IsSelector, IsOther, Somewhere, SomewhereOf, SomewhereIn, ComesFrom, stays, initialises, selects, made, ComeFrom, TopComesFrom, TopsComeFrom, KeepsExpressions}

-- ---- what some item of a list has

module _ (P : ExpressionTree → Tree → Type 0) where
  abbrev Implies : (ExpressionTree → Type 0) → Tree → Type 0
  Implies Q x = (e : ExpressionTree) → P e x → Q e

  mutual
    -- what holds of each expression that some item has holds of those of each item
    everywhere_some : (Q : ExpressionTree → Type 0) (a : Forest) → ((e : ExpressionTree) → Somewhere (P e) a → Q e) → Everywhere (Implies Q) a
    everywhere_some Q Nil k = tt
    everywhere_some Q (Then x xs) k = (item_some Q x (λ e s. k e (inl s)), everywhere_some Q xs (λ e s. k e (inr s)))

    item_some : (Q : ExpressionTree → Type 0) (x : Tree) → ((e : ExpressionTree) → SomewhereOf (P e) x → Q e) → EverywhereOf (Implies Q) x
    item_some Q (If t a b) k = (λ e s. k e (inl s), everywhere_some Q a (λ e s. k e (inr (inl s))), everywhere_some Q b (λ e s. k e (inr (inr s))))
    item_some Q (While t a) k = (λ e s. k e (inl s), everywhere_some Q a (λ e s. k e (inr s)))
    item_some Q (Do a t) k = (λ e s. k e (inl s), everywhere_some Q a (λ e s. k e (inr s)))
    item_some Q (For first t u a) k = (λ e s. k e (inl s), everywhere_some Q first (λ e s. k e (inr (inl s))), everywhere_some Q a (λ e s. k e (inr (inr s))))
    item_some Q (Switch s c) k = (λ e s. k e (inl s), sections_some Q c (λ e s. k e (inr s)))
    item_some Q (Block a) k = (λ e s. k e (inl s), everywhere_some Q a (λ e s. k e (inr s)))
    item_some Q _ k = k

    sections_some : (Q : ExpressionTree → Type 0) (c : Sections) → ((e : ExpressionTree) → SomewhereIn (P e) c → Q e) → EverywhereIn (Implies Q) c
    sections_some Q NoSection k = tt
    sections_some Q (Section cases default a ends c) k = (everywhere_some Q a (λ e s. k e (inl s)), sections_some Q c (λ e s. k e (inr s)))

-- ---- counted tokens

test_counted : (k : IntKind) (v : ℕ) (z : ℤ) → counted (is_number k v (constant k z)) ≤ 3
test_counted k v z = at (int_le (pos 0) z) (int_le z (least k))
  where
    at : (c b : Bool) → counted (is_number k v (cond c (number k z) (cond b (least_constant k) (Typed (Some k) (Unary Minus (number k (neg_ℤ z))))))) ≤ 3
    at true b = omega arith
    at false true = omega arith
    at false false = omega arith

-- ---- the items of a body, and what they become

module _ (a : Forest) where
  abbrev V : ExpressionTree → Type 0
  V e = ComesFrom a e

  abbrev R : Option ExpressionTree → Type 0
  R o = IfSome o V

  -- nothing is said of a case
  abbrev C : ExpressionTree → Type 0
  C e = Unit {0}

  -- each expression that has not many more counted tokens comes from the body
  abbrev OfInitialiser : ExpressionTree → Type 0
  OfInitialiser d = (e : ExpressionTree) → counted e ≤ counted_at 2 d + 2 → V e

  abbrev OfSelector : ExpressionTree → Type 0
  OfSelector d = (e : ExpressionTree) → counted e ≤ counted d + 2 → V e

  abbrev Given : Tree → Type 0
  Given x = Implies IsOther V x × (Implies IsInitialiser OfInitialiser x × Implies IsSelector OfSelector x)

  given : Everywhere Given a
  given =
      everywhere_both (Implies IsOther V) (λ x. Implies IsInitialiser OfInitialiser x × Implies IsSelector OfSelector x) a
      (everywhere_some IsOther V a (λ e s. stays s))
      (everywhere_both (Implies IsInitialiser OfInitialiser) (Implies IsSelector OfSelector) a
      (everywhere_some IsInitialiser OfInitialiser a (λ d s e h. initialises d s h))
      (everywhere_some IsSelector OfSelector a (λ d s e h. selects d s h)))

  tested : (t : TestTree) → ((e : ExpressionTree) → IsTested e t → V e) → TestExpression V t
  tested (Source e) k = k e refl
  tested (AndOff l t) k = tested t k
  tested (OrOn l t) k = tested t k
  tested _ k = tt

  optional : (o : Option ExpressionTree) → ((e : ExpressionTree) → o ≡ Some e → V e) → IfSome o V
  optional None k = tt
  optional (Some e) k = k e refl

  no_fact : (es : List ExpressionTree) → AllByRecursion C es
  no_fact [] = tt
  no_fact (e ∷ es) = (tt, no_fact es)

  all_initialisers : (es : List ExpressionTree) → ((d : ExpressionTree) → Contains es d → OfInitialiser d) → AllByRecursion OfInitialiser es
  all_initialisers es k = each_map (Contains es) OfInitialiser k es (recursion_from_All (Contains es) es (All-contains_itself es))

  cells_have : (k : IntKind) (x i : ℕ) (es : List ExpressionTree) (n : ℕ) → AllByRecursion OfInitialiser es → AreH V V C R AnyNote (assigned_cells k x i es n)
  cells_have k x i (e ∷ es) n w = ((w.0 _ (omega arith), tt), cells_have k x (suc i) es n w.1)
  cells_have k x i [] zero w = tt
  cells_have k x i [] (suc n) w = ((made (omega arith), tt), cells_have k x (suc i) [] n tt)

  assigned_have : (k : IntKind) (x : ℕ) (o : Option ℕ) (es : List ExpressionTree) → AllByRecursion OfInitialiser es → AreH V V C R AnyNote (assigned k x o es)
  assigned_have k x None [] w = tt
  assigned_have k x None (e ∷ es) w = ((w.0 _ (omega arith), tt), tt)
  assigned_have k x (Some n) es w = cells_have k x 0 es _ w

  chosen : (t : SelectorTree) → OfSelector (selector_source t) → (v : ℕ) →
      V (assign_number (switch_kind t) v (selector_source t)) × Tests V V C R AnyNote constant (switch_kind t) v
  chosen t i v =
      let b = bracket_most (level_of (selector_source t)) 2 in
      (i (assign_number (switch_kind t) v (selector_source t)) (omega (arith, b)), λ z. made (test_counted (switch_kind t) v (converted (switch_kind t) z)))

  module _ (f : Function) (params : f.params ≤ length f.slots) (used taken : List (List ℕ)) where
    abbrev FromSource : Tree → Type 0
    FromSource x = L.Source f params used taken a V V C R AnyNote x

    from_given : (x : Tree) → Given x → FromSource x
    from_given (Evaluate e) g = (g.0 e refl, tt)
    from_given (Return e) g = (optional e g.0, tt)
    from_given (If t x y) g = (tested t g.0, tt)
    from_given (While t x) g = (tested t g.0, tt)
    from_given (Do x t) g = (tested t g.0, tt)
    from_given (For first t u x) g = ((optional t (λ e i. g.0 e (inl i)), optional u (λ e i. g.0 e (inr i))), tt)
    from_given (Switch s c) g =
        let k = g.1.1 (selector_source s) refl in
        ((k (selector_source s) (omega arith), no_fact (all_cases c)), λ v w b. chosen s k v)
    from_given (Local x None) g = (tt, tt)
    from_given (Local x (Some es)) g =
        let w = all_initialisers es g.1.0 in
        (each_map OfInitialiser V (λ d i. i d (omega arith)) es w, assigned_have _ x _ es w)
    from_given (Arm l e) g = (optional e g.0, tt)
    from_given _ g = (tt, tt)

    have : Everywhere (ItemHas V V C R AnyNote) (join (front f params used taken a) (list f params used taken a))
    have = facts_lowered f params used taken a V V C R AnyNote (everywhere_map Given FromSource from_given a given)

  -- ---- each item of the flat list

  others : (x : Tree) → ((e : ExpressionTree) → IsInitialiser e x → ⊥) → ((e : ExpressionTree) → IsSelector e x → ⊥) →
      ((e : ExpressionTree) → IsOther e x → V e) → ComeFrom a x
  others x n m k e (inl i) = absurd (n e i)
  others x n m k e (inr (inl i)) = absurd (m e i)
  others x n m k e (inr (inr i)) = k e i

  none : (x : Tree) → ((e : ExpressionTree) → IsInitialiser e x → ⊥) → ((e : ExpressionTree) → IsSelector e x → ⊥) →
      ((e : ExpressionTree) → IsOther e x → ⊥) → ComeFrom a x
  none x n m k = others x n m (λ e i. absurd (k e i))

  come : (xs : Forest) → AreFlat xs → Everywhere (ItemHas V V C R AnyNote) xs → Everywhere (ComeFrom a) xs
  come Nil w h = tt
  come (Then x xs) w h = (at (view x w.0) h.0, come xs w.1 h.1)
    where
      at : {y : Tree} → FlatView y → EverywhereOf (ItemHas V V C R AnyNote) y → EverywhereOf (ComeFrom a) y
      at (fv_evaluate d) i = others (Evaluate d) (λ e n. n) (λ e n. n) (λ e o. subst V (sym o) i)
      at (fv_return d) i = others (Return d) (λ e n. n) (λ e n. n) (λ e o. subst R o i)
      at (fv_note bs) i = none (Note bs) (λ e n. n) (λ e n. n) (λ e n. n)
      at (fv_local x) i = none (Local x None) (λ e n. n) (λ e n. n) (λ e n. n)
      at (fv_goto l) i = none (Goto l) (λ e n. n) (λ e n. n) (λ e n. n)
      at (fv_mark l) i = none (Mark l) (λ e n. n) (λ e n. n) (λ e n. n)
      at (fv_jump t l) i = (
        others (jump_if (Source t) l) (λ e n. n) (λ e n. n) (λ e o. subst V (sym o) i.0),
        (none (Goto l) (λ e n. n) (λ e n. n) (λ e n. n), tt),
        tt,
      )

-- ---- functions

bodiless : (f : Function) → f.body ≡ None → body_of f ≡ Nil
bodiless f e = ap (λ o. option_map_or trees_of o Nil) e

module _ (counts : FlatCounts) (ts : List Top) (names file : List (List ℕ)) where
  abbrev used : List (List ℕ)
  used = with_known names

  abbrev taken : List (List ℕ)
  taken = with_known file

  lowered_comes : (f h : Function) → IsResolvedFunction counts ts f → (body : List Item) → f.body ≡ Some body → IsBodyLowered used taken f body h →
      TopComesFrom (T.Function f) (T.Function h)
  lowered_comes f h r body e i =
      let a = trees_of body in
      let k = result counts ts f r used taken body e i.new in
      let flat = subst AreFlat i.trees (lowered_laws.flat (function_tree f) (function_tree k) (is_lowered counts ts f r used taken body e i.new i.trees)) in
      let new = come a (join (front f r.form.parameters used taken a) (list f r.form.parameters used taken a)) flat (have a f r.form.parameters used taken) in
      subst (λ z. Everywhere (ComeFrom z) (body_of h)) (sym (body_is f body e)) (subst (Everywhere (ComeFrom a)) (sym (ap body_of i.whole ∙ i.trees)) new)

  function_comes : (f h : Function) → IsResolvedFunction counts ts f → IsLoweredFunction names file f h → TopComesFrom (T.Function f) (T.Function h)
  function_comes f h r w =
      either used taken f h (TopComesFrom (T.Function f) (T.Function h))
      (λ e i. subst (Everywhere (ComeFrom (body_of f))) (sym (ap body_of i ∙ bodiless f e)) tt) (lowered_comes f h r) w

  top_comes : (t u : Top) → IsResolvedTop counts ts t → IsTopLowered names file t u → TopComesFrom t u
  top_comes (T.Function f) (T.Function h) r w = function_comes f h r w.0
  top_comes (T.Include bytes) u r w = tt
  top_comes (T.Enum xs) u r w = tt
  top_comes (T.Global g) u r w = tt
  top_comes (T.Note bytes) u r w = tt
  top_comes (T.Function f) _ r w = absurd w

  tops_come : {us vs : List Top} → Each (IsResolvedTop counts ts) us → LoweredTops names file us vs → TopsComeFrom us vs
  tops_come r lt_none = tt
  tops_come r (lt_more {t = t} {u = u} w ws) = (top_comes t u r.0 w, tops_come r.1 ws)

pub expressions : (counts : FlatCounts) (p q : Program) → IsResolvedWith counts p → IsLoweredProgram p q → KeepsExpressions p q
expressions counts p q r w = tops_come counts p.tops (names p) (file_names p) r.tops w.tops
