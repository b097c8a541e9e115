-- What a resolved program is lowered to is resolved.
use Rattle.std.proofs.Common.{◌≡◌, ℕ, ◌≤◌, List, [], ◌∷◌, length, Option, Some, None, refl, sym, ap, subst, ◌∙◌}
use Rattle.std.specs.Prelude.{ℤ, IfSome}
use Rattle.std.specs.Option.{option_map_or}
use Rattle.c_copies.specs.Names.{top_names, tops_names, names, file_names}
use Rattle.c_copies.proofs.Rising.{rising-members}
use Rattle.c_tree.specs.declared.tree.EnumItem.{EnumItem}
use Rattle.c_tree.specs.declared.tree.Expression.{Expression}
use Rattle.c_tree.specs.declared.tree.Function.{Function}
use Rattle.c_tree.specs.declared.tree.GlobalVariable.{GlobalVariable}
use Rattle.c_tree.specs.declared.tree.Program.{Program}
use Rattle.c_tree.specs.declared.tree.Top.{Top}
use Rattle.c_tree.specs.declared.tree.Top.TheVariants as T
use Rattle.c_tree.specs.ExpressionTrees.{ExpressionTree, expression_tree}
use Rattle.c_tree.specs.Everywhere.{Everywhere}
use Rattle.c_tree.specs.InRange.{body_of}
use Rattle.c_tree.specs.Trees.{Nil, trees_of}
use Rattle.flat_names.specs.FlatNames.{with_known}
use Rattle.c_resolved_defs.specs.Within.{Each}
use Rattle.c_resolved_defs.specs.Files.{IsConstantOf, HasNextValue, HaveValues, IsGlobal}
use Rattle.c_resolved_defs.specs.Kinds.{ItemAgrees, KeepsConsts}
use Rattle.c_resolved_defs.specs.Limits.{FlatCounts, IsUntangled}
use Rattle.c_resolved_defs.specs.Names.{Names}
use Rattle.c_resolved_defs.specs.Resolved.{IsResolvedFunction, IsResolvedTop, IsResolvedWith, names_in}
use Rattle.c_resolved_defs.specs.Scopes.{AFunction, Scope, bind, behind_top, FunctionIsBound, TopIsBound, TopsAreBound, at_start}
use Rattle.c_resolved_defs.specs.Spelling.{FunctionIsSpelled, TopIsSpelled}
use Rattle.whole_laws.specs.Names.{TopIsOther, IsFreeIn}
use Rattle.whole_laws.proofs.NamesKept.{names_kept, keeps_self, kinds_over}
use Rattle.whole_laws.proofs.SameFile.{SameDeclaration, SameFile, sf_none, sf_function, sf_other, declarations_over, main_over, global_over, callee_over}
use Rattle.whole_laws.proofs.SameTops.{self_declared}
use Rattle.lower_result_laws.proofs.OwnNames.{AreAmong, among_left, among_right}
use Rattle.lower_laws.specs.Lowering.{most_held, IsTopLowered, LoweredTops, lt_none, lt_more, IsLoweredProgram}
use Rattle.lower_result_laws.proofs.Tops.{either}
use Rattle.lower_result_laws.specs.Modest.{IsModestTop}
use Rattle.lower_result_laws.specs.LoweredResolvedLaws.{IsTopUntangled}
use Rattle.whole_laws.proofs.FileScopes.{IsFree, AreOfFile, top_file, start_file, body_bound, function_over}
use Rattle.lower_result_laws.proofs.LoweredFunctions as F

-- ---- lists of tops, with facts of the source

module _ (counts : FlatCounts) (p : Program) (few : length (names p) ≤ most_held) where
  -- what is known of a top of the source
  pub record Known (t : Top) : Type 0 where
    pub resolved : IsResolvedTop counts p.tops t
    pub spelled : TopIsSpelled t
    pub among : AreAmong (top_names t) (names p)
    pub modest : IsModestTop t

  pub known : (ts : List Top) → Each (IsResolvedTop counts p.tops) ts → Each TopIsSpelled ts → Each IsModestTop ts →
      AreAmong (tops_names ts) (names p) → Each Known ts
  known [] r s m a = tt
  known (t ∷ ts) r s m a = (
    record { resolved = r.0; spelled = s.0; among = among_left (top_names t) (tops_names ts) (names p) a; modest = m.0 },
    known ts r.1 s.1 m.1 (among_right (top_names t) (tops_names ts) (names p) a),
  )

  abbrev used : List (List ℕ)
  used = with_known (names p)

  abbrev taken : List (List ℕ)
  taken = with_known (file_names p)

  -- ---- declarations

  function_declared : (f h : Function) → IsTopLowered (names p) (file_names p) (T.Function f) (T.Function h) → Known (T.Function f) → SameDeclaration f h
  function_declared f h w k =
      either used taken f h (SameDeclaration f h) (λ e i. subst (SameDeclaration f) (sym i) (self_declared f))
      (λ old there b. subst (SameDeclaration f) (sym b.whole) (F.same_declaration counts p f k.resolved k.spelled k.among few old there b.new b.trees)) w.0

  same_top : (t u : Top) {ts us : List Top} → IsTopLowered (names p) (file_names p) t u → Known t → SameFile ts us → SameFile (t ∷ ts) (u ∷ us)
  same_top (T.Function f) (T.Function h) w k r = sf_function (function_declared f h w k) r
  same_top (T.Function f) (T.Include bytes) w k r = absurd w
  same_top (T.Function f) (T.Enum xs) w k r = absurd w
  same_top (T.Function f) (T.Global g) w k r = absurd w
  same_top (T.Function f) (T.Note bytes) w k r = absurd w
  same_top (T.Include bytes) u {ts = ts} {us = us} w k r = subst (λ x. SameFile (T.Include bytes ∷ ts) (x ∷ us)) (sym w) (sf_other (T.Include bytes) tt r)
  same_top (T.Enum xs) u {ts = ts} {us = us} w k r = subst (λ x. SameFile (T.Enum xs ∷ ts) (x ∷ us)) (sym w) (sf_other (T.Enum xs) tt r)
  same_top (T.Global g) u {ts = ts} {us = us} w k r = subst (λ x. SameFile (T.Global g ∷ ts) (x ∷ us)) (sym w) (sf_other (T.Global g) tt r)
  same_top (T.Note bytes) u {ts = ts} {us = us} w k r = subst (λ x. SameFile (T.Note bytes ∷ ts) (x ∷ us)) (sym w) (sf_other (T.Note bytes) tt r)

  pub same_file : {ts us : List Top} → LoweredTops (names p) (file_names p) ts us → Each Known ts → SameFile ts us
  same_file lt_none k = sf_none
  same_file (lt_more {t = t} {u = u} w ws) k = same_top t u w k.0 (same_file ws k.1)

  -- ---- each top by itself

  module _ (us : List Top) (file : SameFile p.tops us) (counts' : FlatCounts) where
    constant_over : (e : ExpressionTree) → IsConstantOf p.tops e → IsConstantOf us e
    constant_over e h =
        let n : Names = record { tops = p.tops; slots = [] } in
        let k : Names = record { tops = us; slots = [] } in
        (h.0, kinds_over n k (names_kept n k (keeps_self []) (λ m. global_over m file) (λ m. callee_over m [] [] file)) e h.1)

    next_over : (before : ℤ) (x : EnumItem) (o : Option Expression) → HasNextValue p.tops before x o → HasNextValue us before x o
    next_over before x None h = h
    next_over before x (Some e) h = (constant_over (expression_tree e) h.0, h.1)

    values_over : (before : ℤ) (xs : List EnumItem) → HaveValues p.tops before xs → HaveValues us before xs
    values_over before [] h = tt
    values_over before (x ∷ xs) h = (next_over before x x.given h.0, h.1, values_over x.value xs h.2)

    each_constant : (es : List ExpressionTree) → Each (IsConstantOf p.tops) es → Each (IsConstantOf us) es
    each_constant [] h = tt
    each_constant (e ∷ es) h = (constant_over e h.0, each_constant es h.1)

    given_over : (o : Option (List ExpressionTree)) → IfSome o (Each (IsConstantOf p.tops)) → IfSome o (Each (IsConstantOf us))
    given_over None h = tt
    given_over (Some es) h = each_constant es h

    global_top : (g : GlobalVariable) (o : Option (List ExpressionTree)) → IsGlobal p.tops g o → IsGlobal us g o
    global_top g o h = record { length = h.length; values = h.values; constant = given_over o h.constant }

    -- a prototype
    declared_function : (f : Function) → f.body ≡ None → IsResolvedFunction counts p.tops f → IsUntangled counts' f → IsResolvedFunction counts' us f
    declared_function f e g untangled =
        let nothing : body_of f ≡ Nil = ap (λ o. option_map_or trees_of o Nil) e in
        record {
          form = g.form;
          kinds = subst (Everywhere (ItemAgrees (names_in us f))) (sym nothing) tt;
          returns = g.returns;
          cases = g.cases;
          consts = subst (Everywhere (KeepsConsts (names_in us f))) (sym nothing) tt;
          lengths = g.lengths;
          initialised = g.initialised;
          untangled = untangled;
        }

    function_resolved : (f h : Function) → IsTopLowered (names p) (file_names p) (T.Function f) (T.Function h) → Known (T.Function f) →
        IsUntangled counts' h → IsResolvedFunction counts' us h
    function_resolved f h w k =
        either used taken f h (IsUntangled counts' h → IsResolvedFunction counts' us h)
        (λ e i. subst (λ j. IsUntangled counts' j → IsResolvedFunction counts' us j) (sym i) (declared_function f e k.resolved))
        (λ old there b. subst (λ j. IsUntangled counts' j → IsResolvedFunction counts' us j) (sym b.whole)
        (F.function_resolved counts p f k.resolved k.spelled k.among few old there b.new b.trees us file counts')) w.0

    top_resolved : (t u : Top) → IsTopLowered (names p) (file_names p) t u → Known t → IsTopUntangled counts' u → IsResolvedTop counts' us u
    top_resolved (T.Function f) (T.Function h) w k o = function_resolved f h w k o
    top_resolved (T.Function f) _ w k o = absurd w
    top_resolved (T.Include bytes) u w k o = subst (IsResolvedTop counts' us) (sym w) tt
    top_resolved (T.Enum xs) u w k o = subst (IsResolvedTop counts' us) (sym w) (values_over _ xs k.resolved)
    top_resolved (T.Global g) u w k o = subst (IsResolvedTop counts' us) (sym w) (global_top g _ k.resolved)
    top_resolved (T.Note bytes) u w k o = subst (IsResolvedTop counts' us) (sym w) tt

    tops_resolved : {ts vs : List Top} → LoweredTops (names p) (file_names p) ts vs → Each Known ts → Each (IsTopUntangled counts') vs →
        Each (IsResolvedTop counts' us) vs
    tops_resolved lt_none k o = tt
    tops_resolved (lt_more {t = t} {u = u} w ws) k o = (top_resolved t u w k.0 o.0, tops_resolved ws k.1 o.1)

  -- ---- names and limits

  function_spelled : (f h : Function) → IsTopLowered (names p) (file_names p) (T.Function f) (T.Function h) → Known (T.Function f) → FunctionIsSpelled h
  function_spelled f h w k =
      either used taken f h (length h.slots ≤ most_held → length h.labels ≤ most_held → FunctionIsSpelled h)
      (λ e i held labels. subst FunctionIsSpelled (sym i) k.spelled)
      (λ old there b. subst (λ j. length j.slots ≤ most_held → length j.labels ≤ most_held → FunctionIsSpelled j) (sym b.whole)
      (λ held labels. F.function_spelled counts p f k.resolved k.spelled k.among few old there b.new b.trees held labels k.modest)) w.0 w.1 w.2

  top_spelled : (t u : Top) → IsTopLowered (names p) (file_names p) t u → Known t → TopIsSpelled u
  top_spelled (T.Function f) (T.Function h) w k = function_spelled f h w k
  top_spelled (T.Function f) _ w k = absurd w
  top_spelled (T.Include bytes) u w k = subst TopIsSpelled (sym w) k.spelled
  top_spelled _ u w k = subst TopIsSpelled (sym w) k.spelled

  tops_spelled : {ts vs : List Top} → LoweredTops (names p) (file_names p) ts vs → Each Known ts → Each TopIsSpelled vs
  tops_spelled lt_none k = tt
  tops_spelled (lt_more {t = t} {u = u} w ws) k = (top_spelled t u w k.0, tops_spelled ws k.1)

  -- ---- scopes

  module _ (ss : List Scope) (o : AreOfFile p.tops ss) where
    function_bound : (f h : Function) → IsTopLowered (names p) (file_names p) (T.Function f) (T.Function h) → Known (T.Function f) →
        ((n : List ℕ) → IsFree p.tops n → TopIsOther n (T.Function f)) → FunctionIsBound f ss → FunctionIsBound h ss
    function_bound f h w k d b =
        either used taken f h (length h.slots ≤ most_held → FunctionIsBound h ss) (λ e i held. subst (λ j. FunctionIsBound j ss) (sym i) b)
        (λ old there l. subst (λ j. length j.slots ≤ most_held → FunctionIsBound j ss) (sym l.whole) (λ held. (
        let file = behind_top ss (T.Function f) in
        let scope = top_file p.tops (T.Function f) ss d o in
        let body = F.function_bound counts p f k.resolved k.spelled k.among few old there l.new l.trees held file scope.no_slots
        (λ n free unknown. scope.unbound n (free, unknown)) (body_bound f file f.body refl b.body) in
        function_over f (F.h counts p f k.resolved k.spelled k.among few old there l.new l.trees) ss
        (F.same_declaration counts p f k.resolved k.spelled k.among few old there l.new l.trees) b body))) w.0 w.1

    top_bound : (t u : Top) → IsTopLowered (names p) (file_names p) t u → Known t → ((n : List ℕ) → IsFree p.tops n → TopIsOther n t) →
        TopIsBound ss t → TopIsBound ss u
    top_bound (T.Function f) (T.Function h) w k d b = function_bound f h w k d b
    top_bound (T.Function f) _ w k d b = absurd w
    top_bound (T.Include bytes) u w k d b = subst (TopIsBound ss) (sym w) b
    top_bound _ u w k d b = subst (TopIsBound ss) (sym w) b

    same_behind : (t u : Top) → IsTopLowered (names p) (file_names p) t u → Known t → behind_top ss u ≡ behind_top ss t
    same_behind (T.Function f) (T.Function h) w k = let d = function_declared f h w k in ap (λ n. bind n AFunction ss) d.name
    same_behind (T.Function f) _ w k = absurd w
    same_behind (T.Include bytes) u w k = ap (behind_top ss) w
    same_behind _ u w k = ap (behind_top ss) w

  tops_bound : {ts us : List Top} (ss : List Scope) → AreOfFile p.tops ss → LoweredTops (names p) (file_names p) ts us → Each Known ts →
      ((n : List ℕ) → IsFree p.tops n → IsFreeIn ts n) → TopsAreBound ss ts → TopsAreBound ss us
  tops_bound ss o lt_none k d b = tt
  tops_bound ss o (lt_more {t = t} {u = u} {us = us} w ws) k d b = (
    top_bound ss o t u w k.0 (λ n f. (d n f).0) b.0,
    subst (λ sc. TopsAreBound sc us) (sym (same_behind ss o t u w k.0))
        (tops_bound (behind_top ss t) (top_file p.tops t ss (λ n f. (d n f).0) o) ws k.1 (λ n f. (d n f).1) b.1),
  )

-- ---- the whole

pub lowered_is_resolved : (counts counts' : FlatCounts) (p q : Program) → IsResolvedWith counts p → IsLoweredProgram p q → Each IsModestTop p.tops →
    Each (IsTopUntangled counts') q.tops → IsResolvedWith counts' q
lowered_is_resolved counts counts' p q r w modest untangled =
    let ks = known counts p w.held p.tops r.tops r.spelled modest (λ n h. rising-members (tops_names p.tops) n ∙ h) in
    let same = same_file counts p w.held w.tops ks in
    record {
      spelled = tops_spelled counts p w.held w.tops ks;
      bound = tops_bound counts p w.held at_start (start_file p.tops) w.tops ks (λ n f. f.0) r.bound;
      declarations = declarations_over same r.declarations;
      main = main_over same r.main;
      tops = tops_resolved counts p w.held q.tops same counts' w.tops ks untangled;
    }
