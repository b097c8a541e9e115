-- The labels of a switch, nested ones among them: constants, one default at most, and distinct after conversion.
use Rattle.std.proofs.Common.{ℕ, Bool, true, false, cond, List, [], ◌∷◌, ◌++◌, append_assoc, map, length, Option, Some, None, option_map, append_assoc, true≢false, arith, ◌≡◌, refl, sym, ap, subst, ◌∙◌}
use Rattle.std.specs.Prelude.{ℤ, ◌+◌, ◌≤◌}
use Rattle.c_tree.specs.declared.tree.Item as item
use Rattle.c_tree.specs.declared.tree.Section.{Section}
use Rattle.c_tree.specs.declared.tree.Test as test
use Rattle.c_tree.specs.declared.tree.Selector as selector
use Rattle.c_tree.specs.ExpressionTrees.{ExpressionTree}
use Rattle.c_tree.specs.Trees.{SectionTree, expression_trees, trees_of, section_tree, sections, sections_of}
use Rattle.c_tree.proofs.TreeLaws.{tree-Evaluate, tree-Return, tree-If, tree-While, tree-Do, tree-For, tree-Switch, tree-Block, tree-Break, tree-Continue, tree-Goto, trees-none, trees-append}
use Rattle.c_types.specs.declared.kinds.IntKind.{IntKind}
use Rattle.c_tree.specs.SectionLabels.{labels_passed}
use Rattle.c_grammar.specs.Items.{Declarator, Declaration, Label, Named, Case, Default, Start, NoStart, StartValue, StartNames, Item, Declares, States, Plain, From, Statement, Null, Evaluate, If, IfElse, While, DoWhile, For, Switch, Block, Goto, Break, Continue, Return, Unread, Body, Braces, Lone, Items, NoItem}
use Rattle.c_grammar.specs.Items as items
use Rattle.c_statements.specs.declared.anchors.Anchor.TheVariants.{Before, AtEnd, AtSection}
use Rattle.c_statements.specs.Context.{Context, Walk, env_at, enter, notes_at, number_in, Around, in_loop}
use Rattle.c_statements.specs.Declarations.{kinded, locals, value_at}
use Rattle.c_statements.specs.Labels.{has_case, labels_items, section_marks, section_cases, has_default}
use Rattle.c_statements.specs.Sections.{Reading, extended, closed}
use Rattle.c_statements.specs.Statements.{behind_start, behind_item, behind_plain, behind_body, behind_items, declared_by, dropped_at, test_at, start_items, begun, a_switch, item_items, plain_items, statement_items, body_items, list_items, switch_sections, sections_from, sections_at}
use Rattle.c_statements.specs.Statements as statements
use Rattle.c_statements.specs.Violations.{is_null, item_faults, plain_faults, statement_faults, body_faults, list_faults, switch_body_faults, outside_faults}
use Rattle.c_resolved_defs.specs.Within.{Each}
use Rattle.c_resolving_laws.proofs.Parts.{states_parts, list_parts, if_parts, if_else_parts, while_parts, do_parts, for_parts, Outside, outside_declares, outside_parts, outside_alone}
use Rattle.c_resolving_laws.proofs.Readings.{longer, beginning, sections_alone}
use Rattle.c_resolving_laws.proofs.SectionTrees.{ended_tree, passed_trees, passed_same, ended_same, sections_are}
use Rattle.c_tree.specs.Constants.{constant_value}
use Rattle.c_statements.specs.declared.entries.Entry.{Entry}
use Rattle.c_statements.specs.Cases.{label_entries, item_entries, plain_entries, statement_entries, body_entries, list_entries}
use Rattle.c_resolved_defs.specs.Switches.{arrivals, switch_labels, cases_among, defaults_among, IsConstantValue}
use Rattle.c_resolving_laws.specs.Read.{label_cases, item_cases, plain_cases, statement_cases, body_cases, list_cases}
use Rattle.std.proofs.lemmas.List.{append-nil}
use Rattle.std.specs.Prelude.{◌≢◌, ◌<◌}
use Rattle.c_types.specs.Numbers.{converted}
use Rattle.c_tree.specs.Cases.{case_number}
use Rattle.c_statements.specs.Cases.{entry_faults}
use Rattle.c_resolved_defs.specs.Switches.{AreLabels}
use Rattle.c_resolved_defs.specs.Within.{AllDiffer}
use Rattle.c_resolving_laws.proofs.Entries.{cases-append, defaults-append, arrivals-join, Adds, adds_none, adds_both, adds_as, C, D, AddsItems, none_of, both_of, one_of, still, front, back, more_of, notes_of, behind_notes, marks_of, locals_of, labels_of, section_of_labels}
use Rattle.c_resolving_laws.proofs.Numbered.{flag, compared, CS, DS, cs_cons, ds_cons, Passes, passed_labels, finished}
use Rattle.c_resolving_laws.proofs.Fronts.{no_front}

module _ (ctx : Context) where
  -- ---- readings

  RC : Option Reading → List ExpressionTree
  RC None = []
  RC (Some r) = expression_trees r.cases ++ C ctx r.list

  RD : Option Reading → ℕ
  RD None = 0
  RD (Some r) = cond r.default 1 0 + D ctx r.list

  abbrev SC : List Section → List ExpressionTree
  SC cs = CS (map section_tree cs)

  abbrev SD : List Section → ℕ
  SD cs = DS (map section_tree cs)

  closed_cases : (o : Option Reading) (more : List Section) → SC (closed o ++ more) ≡ RC o ++ SC more
  unfolding RC
  closed_cases None more = refl
  closed_cases (Some r) more =
      let f = finished (expression_trees r.cases) r.default (trees_of r.list) in
      ap (λ s. CS (s ∷ map section_tree more)) (ended_same r)
      ∙ (cs_cons (ended_tree (expression_trees r.cases) r.default (trees_of r.list)) (map section_tree more)
      ∙ ((λ i. f.cases i ++ (cases_among (f.list i) ++ SC more)) ∙ sym (append_assoc (expression_trees r.cases) (C ctx r.list) (SC more))))

  closed_defaults : (o : Option Reading) (more : List Section) → SD (closed o ++ more) ≡ RD o + SD more
  unfolding RD
  closed_defaults None more = omega arith
  closed_defaults (Some r) more =
      let f = finished (expression_trees r.cases) r.default (trees_of r.list) in
      let x = ended_tree (expression_trees r.cases) r.default (trees_of r.list) in
      let a = ap (λ s. DS (s ∷ map section_tree more)) (ended_same r) ∙ ds_cons x (map section_tree more) in
      let b : flag x.default ≡ flag r.default = ap flag f.default in
      let c : defaults_among (arrivals x.list) ≡ D ctx r.list = ap defaults_among f.list in
      omega arith

  C_both : (xs ys : List item.Item) → C ctx (xs ++ ys) ≡ C ctx xs ++ C ctx ys
  C_both xs ys = ap cases_among (ap arrivals (trees-append xs ys) ∙ arrivals-join (trees_of xs) (trees_of ys)) ∙
      cases-append (arrivals (trees_of xs)) (arrivals (trees_of ys))

  D_both : (xs ys : List item.Item) → D ctx (xs ++ ys) ≡ D ctx xs + D ctx ys
  D_both xs ys = ap defaults_among (ap arrivals (trees-append xs ys) ∙ arrivals-join (trees_of xs) (trees_of ys)) ∙
      defaults-append (arrivals (trees_of xs)) (arrivals (trees_of ys))

  C_none : C ctx [] ≡ []
  C_none = ap (λ a. cases_among (arrivals a)) trees-none

  D_none : D ctx [] ≡ 0
  D_none = ap (λ a. defaults_among (arrivals a)) trees-none

  none_first : (xs : List ExpressionTree) → RC None ++ xs ≡ xs
  unfolding RC
  none_first xs = refl

  none_default : RD None ≡ 0
  unfolding RD
  none_default = refl

  extended_cases : (r : Reading) (xs : List item.Item) → RC (extended (Some r) xs) ≡ RC (Some r) ++ C ctx xs
  unfolding RC
  extended_cases r xs = ap (λ l. expression_trees r.cases ++ l) (C_both r.list xs) ∙ sym (append_assoc (expression_trees r.cases) (C ctx r.list) (C ctx xs))

  extended_defaults : (r : Reading) (xs : List item.Item) → RD (extended (Some r) xs) ≡ RD (Some r) + D ctx xs
  unfolding RD
  extended_defaults r xs = let h = D_both r.list xs in omega arith

  -- what sections have behind the one that is being read
  record Ahead (found es : List Entry) (o : Option Reading) (cs : List Section) (k : ℕ) : Type 0 where
    more : List ExpressionTree
    d : ℕ
    cases : SC cs ≡ RC o ++ more
    defaults : SD cs ≤ RD o + d
    adds : Adds found es more d k

  empty_list : {A : Type 0} (xs : List A) → length xs ≤ 0 → xs ≡ []
  empty_list [] h = refl
  empty_list (x ∷ xs) h = absurd (omega arith)

  quiet_cases : (found : List Entry) (xs : List item.Item) → AddsItems ctx found found xs 0 → C ctx xs ≡ []
  quiet_cases found xs h = empty_list (C ctx xs) h.few

  quiet_defaults : (found : List Entry) (xs : List item.Item) → AddsItems ctx found found xs 0 → D ctx xs ≡ 0
  quiet_defaults found xs h = let a = h.rest in let b = h.defaults in omega arith

  nothing_read : SC [] ≡ RC None ++ []
  unfolding RC
  nothing_read = refl

  end_from : (found : List Entry) (o : Option Reading) (notes : List item.Item) → AddsItems ctx found found notes 0 →
      Ahead found found o (statements.sections_of o notes) 0
  end_from found None notes h = record { more = []; d = 0; cases = nothing_read; defaults = omega arith; adds = adds_none found }
  end_from found (Some r) notes h =
      let o = extended (Some r) notes in
      let q = ap SC (sym (append-nil (closed o))) ∙ closed_cases o [] in
      let s = ap SD (sym (append-nil (closed o))) ∙ closed_defaults o [] in
      record {
        more = [];
        d = 0;
        cases = q ∙ ap (λ x. x ++ []) (extended_cases r notes ∙ (ap (λ x. RC (Some r) ++ x) (quiet_cases found notes h) ∙ append-nil (RC (Some r))));
        defaults = let a = s in let b = extended_defaults r notes in let c = quiet_defaults found notes h in omega arith;
        adds = adds_none found;
      }

  -- items at the end of the section
  next_from : (found mid es : List Entry) (r : Reading) (new : List item.Item) (cs : List Section) (k l : ℕ) → AddsItems ctx found mid new k →
      Ahead mid es (extended (Some r) new) cs l → Ahead found es (Some r) cs (k + l)
  next_from found mid es r new cs k l h a = record {
    more = C ctx new ++ a.more;
    d = D ctx new + a.d;
    cases = a.cases ∙ (ap (λ x. x ++ a.more) (extended_cases r new) ∙ append_assoc (RC (Some r)) (C ctx new) a.more);
    defaults = let b = a.defaults in let c = extended_defaults r new in omega arith;
    adds = adds_both found mid es (C ctx new) a.more (D ctx new) a.d k l h a.adds;
  }

  -- a new section
  begun_from : (found mid es : List Entry) (o new : Option Reading) (cs : List Section) (k l : ℕ) → Adds found mid (RC new) (RD new) k →
      Ahead mid es new cs l → Ahead found es o (closed o ++ cs) (k + l)
  begun_from found mid es o new cs k l h r = record {
    more = RC new ++ r.more;
    d = RD new + r.d;
    cases = closed_cases o cs ∙ ap (λ x. RC o ++ x) r.cases;
    defaults = let a = closed_defaults o cs in let b = r.defaults in omega arith;
    adds = adds_both found mid es (RC new) r.more (RD new) r.d k l h r.adds;
  }

  from_more : (found es : List Entry) (o : Option Reading) (cs : List Section) (k l : ℕ) → k ≤ l → Ahead found es o cs k → Ahead found es o cs l
  from_more found es o cs k l h r = record {
    more = r.more;
    d = r.d;
    cases = r.cases;
    defaults = r.defaults;
    adds = adds_as found es r.more r.more r.d r.d k l refl (omega arith) h r.adds;
  }

  from_by : (found es : List Entry) (o : Option Reading) (b : Bool) (xs ys : List Section) (k : ℕ) → Ahead found es o (closed o ++ xs) k →
      Ahead found es o ys k → Ahead found es o (elim b [ true ↦ closed o ++ xs | false ↦ ys ]) k
  from_by found es o true xs ys k h i = h
  from_by found es o false xs ys k h i = i

  begun_adds : (found mid es : List Entry) (w : Walk) (ls : List Label) (ps : List item.Item) (k l : ℕ) →
      Adds found mid (expression_trees (section_cases (env_at ctx w) ls)) (cond (has_default ls) 1 0) k → AddsItems ctx mid es ps l
      → let o = begun ctx (env_at ctx w) ls ps in Adds found es (RC o) (RD o) (k + l)
  unfolding RC RD
  begun_adds found mid es w ls ps k l h i =
      let front_items = notes_at ctx (AtSection (items.first_label ls)) ++ section_marks ctx ls in
      adds_both found mid es (expression_trees (section_cases (env_at ctx w) ls)) (C ctx (front_items ++ ps)) (cond (has_default ls) 1 0)
      (D ctx (front_items ++ ps)) k l h
      (front ctx mid es front_items ps l (behind_notes ctx mid mid (AtSection (items.first_label ls)) (section_marks ctx ls) 0 (marks_of ctx mid ls)) i)

  -- ---- statements

  mutual
    item_adds : (around : Around) (x : Item) (w : Walk) (found : List Entry) → item_faults ctx around x w [] ≡ [] →
        AddsItems ctx found (item_entries ctx x w found) (item_items ctx x w) (item_cases x)
    item_adds around (Declares first after d) w found e = behind_notes ctx found found (Before first) (locals ctx.word (kinded ctx.word d) d.names w)
        0 (locals_of ctx found (kinded ctx.word d) d.names w)
    item_adds around (States ls p) w found e =
        let q = states_parts ctx around w ls p e in
        let mid = label_entries (env_at ctx w) ls found in
        both_of ctx found mid (plain_entries ctx p w mid) (labels_items ctx (env_at ctx w) ls) (plain_items ctx p w) (label_cases ls) (plain_cases p)
        (labels_of ctx w around.switch ls found q.0) (plain_adds around p w mid q.1)

    plain_adds : (around : Around) (p : Plain) (w : Walk) (found : List Entry) → plain_faults ctx around p w [] ≡ [] →
        AddsItems ctx found (plain_entries ctx p w found) (plain_items ctx p w) (plain_cases p)
    plain_adds around (From first after s) w found e = behind_notes ctx found (statement_entries ctx s w found) (Before first)
        (statement_items ctx s w) (statement_cases s) (statement_adds around first s w found e)

    statement_adds : (around : Around) (first : ℕ) (s : Statement) (w : Walk) (found : List Entry) → statement_faults ctx around first s w [] ≡ [] →
        AddsItems ctx found (statement_entries ctx s w found) (statement_items ctx s w) (statement_cases s)
    statement_adds around first Null w found e = none_of ctx found
    statement_adds around first (Evaluate t) w found e = still ctx found _ _ (tree-Evaluate (dropped_at (env_at ctx w) t)) refl
    statement_adds around first (If t b) w found e =
        let p = if_parts ctx around w first t b e in
        let x = test.Source (value_at (env_at ctx w) t) in
        let a = body_items ctx b w in
        let es = body_entries ctx b w found in
        one_of ctx found es (item.If x a []) _ (body_cases b) (tree-If x a [])
        (subst (λ ls. Adds found es (cases_among ls) (defaults_among ls) (body_cases b))
        (sym (ap (λ l. arrivals (trees_of a) ++ l) (ap arrivals trees-none) ∙ append-nil (arrivals (trees_of a)))) (body_adds around b w found p.1))
    statement_adds around first (IfElse t b k) w found e =
        let p = if_else_parts ctx around w first t b k e in
        let x = test.Source (value_at (env_at ctx w) t) in
        let u = behind_body ctx b w in
        let a = body_items ctx b w in
        let c = body_items ctx k u in
        let mid = body_entries ctx b w found in
        let es = body_entries ctx k u mid in
        one_of ctx found es (item.If x a c) _ (body_cases b + body_cases k) (tree-If x a c)
        (subst (λ ls. Adds found es (cases_among ls) (defaults_among ls) (body_cases b + body_cases k))
        (ap arrivals (trees-append a c) ∙ arrivals-join (trees_of a) (trees_of c))
        (both_of ctx found mid es a c (body_cases b) (body_cases k) (body_adds around b w found p.1) (body_adds around k u mid p.2)))
    statement_adds around first (While t b) w found e =
        let p = while_parts ctx around w first t b e in
        let x = test.Source (value_at (env_at ctx w) t) in
        one_of ctx found (body_entries ctx b w found) (item.While x (body_items ctx b w)) _ (body_cases b) (tree-While x (body_items ctx b w))
        (body_adds (in_loop around) b w found p.1)
    statement_adds around first (DoWhile b t) w found e =
        let p = do_parts ctx around w first b t e in
        let x = test.Source (value_at (env_at ctx w) t) in
        one_of ctx found (body_entries ctx b w found) (item.Do (body_items ctx b w) x) _ (body_cases b) (tree-Do (body_items ctx b w) x)
        (body_adds (in_loop around) b w found p.1)
    statement_adds around first (For start t u b) w found e =
        let p = for_parts ctx around w first start t u b e in
        let inner = behind_start ctx start (enter w) in
        let env = env_at ctx inner in
        one_of ctx found (body_entries ctx b inner found) _ _ (body_cases b)
        (tree-For (start_items ctx start (enter w)) (option_map (value_at env) t) (option_map (dropped_at env) u) (body_items ctx b inner))
        (body_adds (in_loop around) b inner found p.3)
    statement_adds around first (Switch t b) w found e =
        more_of ctx found found _ 0 (body_cases b) (omega arith)
        (still ctx found _ _ (tree-Switch (selector.Source (value_at (env_at ctx w) t)) (labels_passed (switch_sections ctx b w))) refl)
    statement_adds around first (Block b) w found e = one_of ctx found (body_entries ctx b w found) (item.Block (body_items ctx b w)) _ (body_cases b)
        (tree-Block (body_items ctx b w)) (body_adds around b w found e)
    statement_adds around first (Goto at) w found e = still ctx found _ _ (tree-Goto (number_in ctx.labels (ctx.word at))) refl
    statement_adds around first Break w found e = still ctx found _ _ tree-Break refl
    statement_adds around first Continue w found e = still ctx found _ _ tree-Continue refl
    statement_adds around first (Return t) w found e = still ctx found _ _ (tree-Return (option_map (value_at (env_at ctx w)) t)) refl
    statement_adds around first Unread w found e = none_of ctx found

    body_adds : (around : Around) (b : Body) (w : Walk) (found : List Entry) → body_faults ctx around b w [] ≡ [] →
        AddsItems ctx found (body_entries ctx b w found) (body_items ctx b w) (body_cases b)
    body_adds around (Braces first after xs) w found e =
        let es = list_entries ctx xs (enter w) found in back ctx found es (list_items ctx xs (enter w)) (notes_at ctx (AtEnd first)) (list_cases xs)
        (list_adds around xs (enter w) found e) (notes_of ctx es (AtEnd first))
    body_adds around (Lone first after x) w found e =
        let es = item_entries ctx x (enter w) found in back ctx found es (item_items ctx x (enter w)) (notes_at ctx (AtEnd first)) (item_cases x)
        (item_adds around x (enter w) found e) (notes_of ctx es (AtEnd first))

    list_adds : (around : Around) (xs : Items) (w : Walk) (found : List Entry) → list_faults ctx around xs w [] ≡ [] →
        AddsItems ctx found (list_entries ctx xs w found) (list_items ctx xs w) (list_cases xs)
    list_adds around NoItem w found e = none_of ctx found
    list_adds around (items.Then x xs) w found e =
        let p = list_parts ctx around w x xs e in
        let v = behind_item ctx x w in
        let mid = item_entries ctx x w found in
        both_of ctx found mid (list_entries ctx xs v mid) (item_items ctx x w) (list_items ctx xs v) (item_cases x) (list_cases xs)
        (item_adds around x w found p.0) (list_adds around xs v mid p.1)

  -- ---- sections

  -- a statement that begins a section
  begins_from : (around : Around) (ls : List Label) (p : Plain) (w : Walk) (o : Option Reading) (found es : List Entry) (cs : List Section) (l : ℕ) →
      item_faults ctx around (States ls p) w [] ≡ []
      → Ahead (item_entries ctx (States ls p) w found) es (Some (beginning ctx w ls (plain_items ctx p w))) cs l →
      Ahead found es o (closed o ++ cs) (item_cases (States ls p) + l)
  begins_from around ls p w o found es cs l e f =
      let q = states_parts ctx around w ls p e in
      let env = env_at ctx w in
      let ps = plain_items ctx p w in
      let one = label_entries env ls found in
      let mid = plain_entries ctx p w one in
      begun_from found mid es o (begun ctx env ls ps) cs (label_cases ls + plain_cases p) l
      (begun_adds found one mid w ls ps (label_cases ls) (plain_cases p) (section_of_labels ctx w around.switch ls found q.0) (plain_adds around p w one q.1)) f

  -- in sections
  inside_from : (around : Around) (xs : Items) (r : Reading) (notes : List item.Item) (w : Walk) (found : List Entry) →
      ((es : List Entry) → AddsItems ctx es es notes 0) → list_faults ctx around xs w [] ≡ []
      → Ahead found (list_entries ctx xs w found) (Some r) (sections_from ctx (Some r) xs notes w) (list_cases xs)
  inside_from around NoItem r notes w found h e = end_from found (Some r) notes (h found)
  inside_from around (items.Then (Declares first after d) xs) r notes w found h e =
      let p = list_parts ctx around w (Declares first after d) xs e in
      let v = declared_by ctx d w in
      let l = locals ctx.word (kinded ctx.word d) d.names w in
      let new = notes_at ctx (Before first) ++ l in
      next_from found found (list_entries ctx xs v found) r new (sections_from ctx (extended (Some r) new) xs notes v) 0 (list_cases xs)
      (behind_notes ctx found found (Before first) l 0 (locals_of ctx found (kinded ctx.word d) d.names w))
      (inside_from around xs (longer r new) notes v found h p.1)
  inside_from around (items.Then (States ls p) xs) r notes w found h e =
      let q = list_parts ctx around w (States ls p) xs e in
      let v = behind_plain ctx p w in
      let env = env_at ctx w in
      let ps = plain_items ctx p w in
      let new = labels_items ctx env ls ++ ps in
      let mid = item_entries ctx (States ls p) w found in
      let es = list_entries ctx xs v mid in
      from_by found es (Some r) (has_case ls) (sections_from ctx (begun ctx env ls ps) xs notes v)
      (sections_from ctx (extended (Some r) new) xs notes v) (item_cases (States ls p) + list_cases xs)
      (begins_from around ls p w (Some r) found es (sections_from ctx (begun ctx env ls ps) xs notes v) (list_cases xs) q.0
      (inside_from around xs (beginning ctx w ls ps) notes v mid h q.1))
      (next_from found mid es r new (sections_from ctx (extended (Some r) new) xs notes v) (item_cases (States ls p)) (list_cases xs)
      (item_adds around (States ls p) w found q.0) (inside_from around xs (longer r new) notes v mid h q.1))

  -- a null statement without labels has no cases
  null_from : (ls : List Label) (p : Plain) (xs : Items) (w : Walk) (found : List Entry) (cs : List Section) → is_null ls p ≡ true
      → Ahead found (list_entries ctx xs (behind_plain ctx p w) found) None cs (list_cases xs) →
      Ahead found (list_entries ctx (items.Then (States ls p) xs) w found) None cs (list_cases (items.Then (States ls p) xs))
  null_from [] (From first after Null) xs w found cs e a = from_more found (list_entries ctx xs w found) None cs (list_cases xs)
      (list_cases (items.Then (States [] (From first after Null)) xs)) (omega arith) a
  null_from ls p xs w found cs e a = absurd (true≢false (sym e))

  -- in front of the first section
  outside_from : (around : Around) (xs : Items) (notes : List item.Item) (w : Walk) (found : List Entry) →
      ((es : List Entry) → AddsItems ctx es es notes 0) → outside_faults ctx around xs w [] ≡ []
      → Ahead found (list_entries ctx xs w found) None (sections_from ctx None xs notes w) (list_cases xs)
  outside_from around NoItem notes w found h e = end_from found None notes (h found)
  outside_from around (items.Then (Declares first after d) xs) notes w found h e = absurd (outside_declares ctx around w first after d xs e)
  outside_from around (items.Then (States ls p) xs) notes w found h e =
      let q = outside_parts ctx around w ls p xs e in
      let v = behind_plain ctx p w in
      let mid = item_entries ctx (States ls p) w found in
      by (has_case ls) (λ cs. Ahead found (list_entries ctx (items.Then (States ls p) xs) w found) None cs (list_cases (items.Then (States ls p) xs))) q.1
      (λ y. begins_from around ls p w None found (list_entries ctx xs v mid)
      (sections_from ctx (begun ctx (env_at ctx w) ls (plain_items ctx p w)) xs notes v) (list_cases xs) q.0
      (inside_from around xs (beginning ctx w ls (plain_items ctx p w)) notes v mid h y))
      (λ n y. null_from ls p xs w found (sections_from ctx None xs notes v) n (outside_from around xs notes v found h y))
    where
      by : (b : Bool) (Here : List Section → Type 0) → Outside ctx around w b ls p xs →
          (list_faults ctx around xs (behind_plain ctx p w) [] ≡ [] → Here
          (sections_from ctx (begun ctx (env_at ctx w) ls (plain_items ctx p w)) xs notes (behind_plain ctx p w)))
          → (is_null ls p ≡ true → outside_faults ctx around xs (behind_plain ctx p w) [] ≡ [] → Here (sections_from ctx None xs notes (behind_plain ctx p w)))
          → Here (elim b [
            | true ↦ sections_from ctx (begun ctx (env_at ctx w) ls (plain_items ctx p w)) xs notes (behind_plain ctx p w)
            | false ↦ sections_from ctx None xs notes (behind_plain ctx p w)
          ])
      by true Here o f g = f o
      by false Here o f g = g o.0 o.1

  switch_from : (around : Around) (b : Body) (w : Walk) → switch_body_faults ctx around b w [] ≡ [] →
      Ahead [] (body_entries ctx b w []) None (switch_sections ctx b w) (body_cases b)
  switch_from around (Braces first after xs) w e =
      let b = Braces first after xs in
      subst (λ cs. Ahead [] (body_entries ctx b w []) None cs (body_cases b)) (sym (no_front ctx around b w e))
      (outside_from around xs (notes_at ctx (AtEnd first)) (enter w) [] (λ es. notes_of ctx es (AtEnd first)) e)
  switch_from around (Lone first after x) w e =
      let v = enter w in
      let notes = notes_at ctx (AtEnd first) in
      let b = Lone first after x in
      subst (λ cs. Ahead [] (body_entries ctx b w []) None cs (body_cases b)) (sym (no_front ctx around b w e))
      (from_more [] (item_entries ctx x v []) None (sections_at ctx None x notes v) (item_cases x + 0) (item_cases x) (omega arith)
      (subst (λ cs. Ahead [] (item_entries ctx x v []) None cs (item_cases x + 0)) (sym (sections_alone ctx v x notes))
      (outside_from around (items.Then x NoItem) notes v [] (λ es. notes_of ctx es (AtEnd first)) (outside_alone ctx around v x e))))

  -- ---- the labels of a switch

  trees_pass : (ts : List SectionTree) → Passes [] false ts (passed_trees [] false ts)
  trees_pass [] = record { cases = refl; defaults = omega arith }
  trees_pass (s ∷ ts) = passed_labels [] false s ts

  some_differ : {A : Type 0} (xs : List A) → AllDiffer xs → AllDiffer (map Some xs)
  some_differ [] h = tt
  some_differ (x ∷ xs) h = (apart_some x xs h.0, some_differ xs h.1)
    where
      apart_some : {A : Type 0} (x : A) (xs : List A) → Each (λ y. y ≢ x) xs → Each (λ y. y ≢ Some x) (map Some xs)
      apart_some x [] h = tt
      apart_some x (y ∷ ys) h = (λ e. h.0 (some_same y x e), apart_some x ys h.1)
        where
          some_same : {A : Type 0} (y x : A) → Some y ≡ Some x → y ≡ x
          some_same y x e = ap (or_else_x x) e
            where
              or_else_x : {A : Type 0} → A → Option A → A
              or_else_x x None = x
              or_else_x x (Some y) = y

  numbers_are : (K : IntKind) (cs : List ExpressionTree) (vs : List ℤ) → map constant_value cs ≡ map Some vs →
      map (case_number K) cs ≡ map Some (map (converted K) vs)
  numbers_are K cs vs e = split cs ∙ (ap (map (option_map (converted K))) e ∙ joined vs)
    where
      split : (cs : List ExpressionTree) → map (case_number K) cs ≡ map (option_map (converted K)) (map constant_value cs)
      split [] = refl
      split (c ∷ cs) = ap (λ l. case_number K c ∷ l) (split cs)

      joined : (vs : List ℤ) → map (option_map (converted K)) (map Some vs) ≡ map Some (map (converted K) vs)
      joined [] = refl
      joined (v ∷ vs) = ap (λ l. Some (converted K v) ∷ l) (joined vs)

  pub switch_labels_are : (around : Around) (b : Body) (w : Walk) (K : IntKind) → switch_body_faults ctx around b w [] ≡ [] →
      entry_faults K [] false (body_entries ctx b w []) [] ≡ [] → body_cases b < 2147483648
      → AreLabels K (switch_labels (sections_of (labels_passed (switch_sections ctx b w))))
  switch_labels_are around b w K e f n =
      let a = switch_from around b w e in
      let c = compared K [] false (body_entries ctx b w []) f in
      let ts = map section_tree (switch_sections ctx b w) in
      let p = trees_pass ts in
      let j = sections_are (labels_passed (switch_sections ctx b w)) ∙ ap sections (passed_same (switch_sections ctx b w)) in
      let cs = p.cases ∙ a.cases ∙ none_first a.more in
      subst (λ x. AreLabels K (switch_labels x)) (sym j)
      (record {
        single = let h = p.defaults in let i = a.defaults in let k = none_default in let l = a.adds.defaults in let m = a.adds.rest in let o =
            c.single in
            omega arith;
        constant = subst (Each IsConstantValue) (sym cs) a.adds.constant;
        distinct = subst (λ x. AllDiffer (map (case_number K) x)) (sym cs)
            (subst AllDiffer (sym (numbers_are K a.more a.adds.more a.adds.same))
            (some_differ (map (converted K) a.adds.more) (subst (λ x. AllDiffer (map (converted K) x)) a.adds.values c.differ)));
        few = subst (λ x. length x < 2147483648) (sym cs) (let h = a.adds.few in omega arith);
      })
