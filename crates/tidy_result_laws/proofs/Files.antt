-- Files of which each function becomes another of the same declaration, and of which all else stays.
use Rattle.std.proofs.Common.{◌≡◌, ◌+◌, ◌≤◌, ℤ, List, [], ◌∷◌, take, Option, Some, None, refl, sym, ap, ◌∙◌, subst}
use Rattle.std.specs.Prelude.{IfSome}
use Rattle.std.specs.Option.{option_map_or}
use Rattle.c_types.specs.Words.{is_known}
use Rattle.c_tree.specs.declared.tree.EnumItem.{EnumItem}
use Rattle.c_tree.specs.declared.tree.Expression.{Expression}
use Rattle.c_tree.specs.declared.tree.Function.{Function}
use Rattle.c_tree.specs.declared.tree.GlobalVariable.{GlobalVariable}
use Rattle.c_tree.specs.declared.tree.Item.{Item}
use Rattle.c_tree.specs.declared.tree.Top.{Top}
use Rattle.c_tree.specs.declared.tree.Top.TheVariants as T
use Rattle.c_tree.specs.Cases.{selector_source}
use Rattle.c_tree.specs.ExpressionTrees.{ExpressionTree, expression_tree}
use Rattle.c_tree.specs.TestTrees.{TestTree, Source, On, Off, AndOff, OrOn}
use Rattle.c_tree.specs.Trees.{Tree, Nil, Sections, NoSection, Section, Evaluate, Return, If, While, Do, For, Switch, Local, Arm, Arrival, trees_of}
use Rattle.c_tree.specs.InRange.{body_of}
use Rattle.c_tree.proofs.WellMoved.{everywhere_map}
use Rattle.whole_laws.specs.Rewritten.{IsNoFunction}
use Rattle.c_resolved_defs.specs.Files.{IsConstantOf, HasNextValue, HaveValues, IsGlobal}
use Rattle.c_resolved_defs.specs.Kinds.{KindsAgree, ItemAgrees, WritesNoConst, KeepsConsts}
use Rattle.c_resolved_defs.specs.Names.{Names}
use Rattle.c_resolved_defs.specs.PrintableExpressions.{IsName}
use Rattle.c_resolved_defs.specs.PrintableStatements.{most, depth}
use Rattle.c_resolved_defs.specs.PrintablePrograms.{ParametersPrint}
use Rattle.c_resolved_defs.specs.Resolved.{names_in}
use Rattle.c_resolved_defs.specs.Scopes.{Scope, inside, bind, AFunction, AreBound, with_parameters, AreNewParameters, BodyIsBound, behind_top, IsFunctionName, FunctionIsBound, TopsAreBound}
use Rattle.c_resolved_defs.specs.Spelling.{AreSpelled, BodyIsSpelled, HasName, FunctionIsSpelled, TopIsSpelled}
use Rattle.c_resolved_defs.specs.Within.{Each, AllDiffer, Within, TestExpression, CaseExpressions, ItemExpressions}
use Rattle.c_resolved_laws.proofs.Ranged.{each_map, if_some_map}
use Rattle.whole_laws.proofs.NamesKept.{KeepsNames, names_kept, keeps_self, kinds_over, consts_over}
use Rattle.whole_laws.proofs.SameFile.{SameDeclaration, SameFile, sf_none, sf_function, sf_other, global_over, callee_over}
use Rattle.whole_laws.proofs.ScopeLists.{new_take}
use Rattle.whole_laws.proofs.FileSpelled.{spelled_body}
use Rattle.tidy_result_laws.proofs.FileScopes.{AreBelow, below_top}
use Rattle.tidy_result_laws.proofs.Loose.{IsLoose, TopIsLoose}

pub data Over (R : Function → Function → Type 0) : List Top → List Top → Type 0 where
  o_none : Over R [] []
  o_function : {f h : Function} {ts us : List Top} → SameDeclaration f h → R f h → Over R ts us → Over R (T.Function f ∷ ts) (T.Function h ∷ us)
  o_other : (t : Top) {ts us : List Top} → IsNoFunction t → Over R ts us → Over R (t ∷ ts) (t ∷ us)

pub over_same : (R : Function → Function → Type 0) {ts us : List Top} → Over R ts us → SameFile ts us
over_same R o_none = sf_none
over_same R (o_function d r o) = sf_function d (over_same R o)
over_same R (o_other t n o) = sf_other t n (over_same R o)

-- ---- names

body_items : (f : Function) (ss : List Scope) (o : Option (List Item)) → f.body ≡ o → BodyIsBound f ss f.body →
    AreBound f.slots (with_parameters f.params 0 f.slots (inside ss)) (body_of f)
body_items f ss None e h = subst (AreBound f.slots (with_parameters f.params 0 f.slots (inside ss))) (sym (ap (λ b. option_map_or trees_of b Nil) e)) tt
body_items f ss (Some a) e h = subst (AreBound f.slots (with_parameters f.params 0 f.slots (inside ss)))
    (sym (ap (λ b. option_map_or trees_of b Nil) e)) (subst (BodyIsBound f ss) e h)

items_body : (f : Function) (ss : List Scope) (o : Option (List Item)) → f.body ≡ o →
    AreBound f.slots (with_parameters f.params 0 f.slots (inside ss)) (body_of f) → BodyIsBound f ss o
items_body f ss None e h = tt
items_body f ss (Some a) e h = subst (AreBound f.slots (with_parameters f.params 0 f.slots (inside ss))) (ap (λ b. option_map_or trees_of b Nil) e) h

-- the items of the second are bound where those of the first are
abbrev pub KeepsBound : Function → Function → Type 0
KeepsBound f h = (ss : List Scope) → AreBelow 0 ss → AreBound f.slots (with_parameters f.params 0 f.slots (inside ss)) (body_of f) →
    AreBound h.slots (with_parameters h.params 0 h.slots (inside ss)) (body_of h)

function_bound : (f h : Function) (ss : List Scope) → AreBelow 0 ss → SameDeclaration f h → KeepsBound f h → FunctionIsBound f ss → FunctionIsBound h ss
function_bound f h ss z d k b = record {
  named = subst (λ n. IsFunctionName n ss) (sym d.name) b.named;
  unknown = ap is_known d.name ∙ b.unknown;
  parameters = subst (λ n. AreNewParameters h.params 0 h.slots (inside (bind n AFunction ss))) (sym d.name)
      (subst (λ n. AreNewParameters n 0 h.slots (inside (behind_top ss (T.Function f)))) (sym d.params)
      (new_take f.params 0 f.slots h.slots (inside (behind_top ss (T.Function f))) (ap (λ n. take n h.slots) (sym d.params) ∙ d.parameters) b.parameters));
  body = subst (λ n. BodyIsBound h (bind n AFunction ss) h.body) (sym d.name)
      (items_body h (behind_top ss (T.Function f)) h.body refl
      (k (behind_top ss (T.Function f)) (below_top 0 (T.Function f) ss z) (body_items f (behind_top ss (T.Function f)) f.body refl b.body)));
}

module _ (R : Function → Function → Type 0) (all : List Top) where
  pub tops_bound : ((f h : Function) → R f h → IsLoose all f → KeepsBound f h) → {ts us : List Top} (ss : List Scope) → AreBelow 0 ss → Over R ts us →
      Each (TopIsLoose all) ts → TopsAreBound ss ts → TopsAreBound ss us
  tops_bound k ss z o_none l b = tt
  tops_bound k ss z (o_function {f = f} {h = h} {us = us} d r o) l b = (
    function_bound f h ss z d (k f h r l.0) b.0,
    subst (λ n. TopsAreBound (bind n AFunction ss) us) (sym d.name) (tops_bound k (behind_top ss (T.Function f)) (below_top 0 (T.Function f) ss z) o l.1 b.1),
  )
  tops_bound k ss z (o_other t n o) l b = (b.0, tops_bound k (behind_top ss t) (below_top 0 t ss z) o l.1 b.1)

-- ---- spelling

items_spelled : (f : Function) (o : Option (List Item)) → f.body ≡ o → AreSpelled f (body_of f) → 1 + depth (body_of f) ≤ most → IfSome o (BodyIsSpelled f)
items_spelled f None e h d = tt
items_spelled f (Some a) e h d =
    let there = ap (λ b. option_map_or trees_of b Nil) e in record { items = subst (AreSpelled f) there h; shallow = subst (λ b. 1 + depth b ≤ most) there d }

-- the items of the second are spelled, and nest no deeper than a text may, where those of the first do
pub record KeepsSpelling (f h : Function) : Type 0 where
  pub labels : h.labels ≡ []
  pub items : AreSpelled f (body_of f) → AreSpelled h (body_of h)
  pub depth : 1 + depth (body_of f) ≤ most → 1 + depth (body_of h) ≤ most

function_spelled : (f h : Function) → SameDeclaration f h → KeepsSpelling f h → FunctionIsSpelled f → FunctionIsSpelled h
function_spelled f h d k s =
    let b = spelled_body f f.body refl s.body in
    record {
      named = subst IsName (sym d.name) s.named;
      parameters = subst ParametersPrint (sym d.parameters) s.parameters;
      all_named = λ some. subst (Each HasName) (sym d.parameters) (s.all_named (sym d.body ∙ some));
      labels = subst AllDiffer (sym k.labels) tt;
      body = items_spelled h h.body refl (k.items b.0) (k.depth b.1);
    }

module _ (R : Function → Function → Type 0) (all : List Top) where
  pub tops_spelled : ((f h : Function) → R f h → IsLoose all f → KeepsSpelling f h) → {ts us : List Top} → Over R ts us → Each (TopIsLoose all) ts →
      Each TopIsSpelled ts → Each TopIsSpelled us
  tops_spelled k o_none l s = tt
  tops_spelled k (o_function {f = f} {h = h} d r o) l s = (function_spelled f h d (k f h r l.0) s.0, tops_spelled k o l.1 s.1)
  tops_spelled k (o_other t n o) l s = (s.0, tops_spelled k o l.1 s.1)

-- ---- kinds, in a file with the same declarations

module _ (P Q : ExpressionTree → Type 0) (f : (e : ExpressionTree) → P e → Q e) where
  test_map : (t : TestTree) → TestExpression P t → TestExpression Q t
  test_map (Source e) h = f e h
  test_map (On l) h = tt
  test_map (Off l) h = tt
  test_map (AndOff l t) h = test_map t h
  test_map (OrOn l t) h = test_map t h

  cases_map : (c : Sections) → CaseExpressions P c → CaseExpressions Q c
  cases_map NoSection h = tt
  cases_map (Section cases default a ends c) h = (each_map P Q f cases h.0, cases_map c h.1)

  expressions_map : (x : Tree) → ItemExpressions P x → ItemExpressions Q x
  expressions_map (Evaluate e) h = f e h
  expressions_map (Return e) h = if_some_map P Q f e h
  expressions_map (If t a b) h = test_map t h
  expressions_map (While t a) h = test_map t h
  expressions_map (Do a t) h = test_map t h
  expressions_map (For first t u a) h = (if_some_map P Q f t h.0, if_some_map P Q f u h.1)
  expressions_map (Switch s c) h = (f (selector_source s) h.0, cases_map c h.1)
  expressions_map (Local x es) h = if_some_map (Each P) (Each Q) (each_map P Q f) es h
  expressions_map (Arm l e) h = if_some_map P Q f e h
  expressions_map (Arrival e) h = if_some_map P Q f e h
  expressions_map x h = tt

module _ (all us : List Top) (same : SameFile all us) where
  names_over : (f : Function) → KeepsNames (names_in all f) (names_in us f)
  names_over f = names_kept (names_in all f) (names_in us f) (keeps_self f.slots) (λ m. global_over m same) (λ m. callee_over m f.slots f.slots same)

  item_agrees : (f : Function) (x : Tree) → ItemAgrees (names_in all f) x → ItemAgrees (names_in us f) x
  item_agrees f x h = record {
    kinds = expressions_map (KindsAgree (names_in all f)) (KindsAgree (names_in us f))
        (kinds_over (names_in all f) (names_in us f) (names_over f)) x h.kinds;
    values = h.values;
  }

  item_keeps : (f : Function) (x : Tree) → KeepsConsts (names_in all f) x → KeepsConsts (names_in us f) x
  item_keeps f x h = expressions_map (Within (WritesNoConst (names_in all f))) (Within (WritesNoConst (names_in us f)))
      (consts_over (names_in all f) (names_in us f) (names_over f)) x h

  pub loose_over : (f : Function) → IsLoose all f → IsLoose us f
  loose_over f l = record {
    unflat = l.unflat;
    labels = l.labels;
    parameters = l.parameters;
    prototype = l.prototype;
    structured = l.structured;
    unguarded = l.unguarded;
    entries = l.entries;
    firsts = l.firsts;
    slots = l.slots;
    exits = l.exits;
    kinds = everywhere_map (ItemAgrees (names_in all f)) (ItemAgrees (names_in us f)) (item_agrees f) (body_of f) l.kinds;
    returns = l.returns;
    cases = l.cases;
    consts = everywhere_map (KeepsConsts (names_in all f)) (KeepsConsts (names_in us f)) (item_keeps f) (body_of f) l.consts;
    lengths = l.lengths;
    initialised = l.initialised;
  }

  -- ---- constants and variables of the file

  constant_over : (e : ExpressionTree) → IsConstantOf all e → IsConstantOf us e
  constant_over e h =
      let n : Names = record { tops = all; slots = [] } in
      let k : Names = record { tops = us; slots = [] } in
      (h.0, kinds_over n k (names_kept n k (keeps_self []) (λ m. global_over m same) (λ m. callee_over m [] [] same)) e h.1)

  next_over : (before : ℤ) (x : EnumItem) (o : Option Expression) → HasNextValue all before x o → HasNextValue us before x o
  next_over before x None h = h
  next_over before x (Some e) h = (constant_over (expression_tree e) h.0, h.1)

  values_over : (before : ℤ) (xs : List EnumItem) → HaveValues all before xs → HaveValues us before xs
  values_over before [] h = tt
  values_over before (x ∷ xs) h = (next_over before x x.given h.0, h.1, values_over x.value xs h.2)

  global_top : (g : GlobalVariable) (o : Option (List ExpressionTree)) → IsGlobal all g o → IsGlobal us g o
  global_top g o h = record {
    length = h.length;
    values = h.values;
    constant = if_some_map (Each (IsConstantOf all)) (Each (IsConstantOf us))
        (each_map (IsConstantOf all) (IsConstantOf us) constant_over) o h.constant;
  }

  pub other_over : (t : Top) → IsNoFunction t → TopIsLoose all t → TopIsLoose us t
  other_over (T.Function f) n h = absurd n
  other_over (T.Include bytes) n h = tt
  other_over (T.Enum xs) n h = values_over _ xs h
  other_over (T.Global g) n h = global_top g _ h
  other_over (T.Note bytes) n h = tt
