-- The depth of a body, and the counted tokens of its full expressions, are at most those of what is written.
use Rattle.std.proofs.Common.{ℕ, Bool, true, false, cond, ◌&&◌, ◌||◌, List, [], ◌∷◌, ◌++◌, map, length, Option, Some, None, option_map, ◌≡◌, refl, sym, ap, subst, ◌∙◌, arith}
use Rattle.c_tree.specs.declared.tree.Item as item
use Rattle.c_tree.specs.declared.tree.Section.{Section}
use Rattle.c_tree.specs.declared.tree.Test as test
use Rattle.c_tree.specs.declared.tree.Selector as selector
use Rattle.c_tree.specs.ExpressionTrees.{ExpressionTree, expression_tree}
use Rattle.c_tree.specs.Trees.{Tree, Forest, SectionTree, Nil, join, expression_trees, tree_of, trees_of, section_tree, sections, sections_of}
use Rattle.c_tree.specs.Trees as tree
use Rattle.c_tree.proofs.TreeLaws.{tree-Evaluate, tree-Return, tree-If, tree-While, tree-Do, tree-For, tree-Switch, tree-Block, tree-Local, tree-Break, tree-Continue, tree-Goto, tree-Mark, tree-Arrival, tree-Note, trees-none, trees-more, trees-append}
use Rattle.c_tree.specs.SectionLabels.{labels_passed}
use Rattle.c_grammar.specs.Items.{Declarator, Declaration, Label, Named, Case, Default, Start, NoStart, StartValue, StartNames, Item, Declares, States, Plain, From, Statement, Null, Evaluate, If, IfElse, While, DoWhile, For, Switch, Block, Goto, Break, Continue, Return, Unread, Body, Braces, Lone, Items, NoItem}
use Rattle.c_grammar.specs.Items as items
use Rattle.c_statements.specs.declared.extents.Kinded.{Kinded}
use Rattle.c_statements.specs.declared.anchors.Anchor.{Anchor}
use Rattle.c_statements.specs.declared.anchors.Anchor.TheVariants.{Before, AtEnd, AtSection}
use Rattle.c_statements.specs.Context.{Context, Walk, env_at, env_in, enter, notes_at, number_in}
use Rattle.c_statements.specs.Declarations.{kinded, declared, local, locals, initial, value_at, constant_at, placeholder}
use Rattle.c_statements.specs.Labels.{section_cases, has_case, mark, labels_items, section_marks}
use Rattle.c_statements.specs.Sections.{Reading, extended, closed, front}
use Rattle.c_statements.specs.Statements.{behind_start, behind_item, behind_plain, behind_body, behind_items, declared_by, dropped_at, test_at, start_items, begun, a_switch, item_items, plain_items, statement_items, body_items, list_items, switch_sections, sections_from, sections_at, outside_item, outside_items, begins, is_null}
use Rattle.c_statements.specs.Statements as statements
use Rattle.c_resolved_defs.specs.Form.{ends_with_break}
use Rattle.c_resolved_defs.specs.Within.{Each}
use Rattle.c_resolving_laws.proofs.Lists.{each_append}
use Rattle.c_resolving_laws.proofs.SectionTrees.{section_of, ended_tree, has_entry, without_end, passes, with_entries, passed_trees, passed_same, ended_same, sections_are}
use Rattle.std.specs.Prelude.{IfSome, ◌+◌, ◌≤◌, max}
use Rattle.c_tree.specs.TestTrees.{TestTree, test_tree, selector_tree}
use Rattle.c_tree.specs.Cases.{selector_source}
use Rattle.c_tree.proofs.ExpressionLaws.{test-Source, selector-Source}
use Rattle.c_grammar.specs.Terms.{Term}
use Rattle.c_grammar.specs.Items.{Initialiser, NoValue, OneValue, ValueList}
use Rattle.c_kinds.specs.Scopes.{Env}
use Rattle.c_statements.specs.Measures.{item_depth, plain_depth, statement_depth, body_depth, list_depth}
use Rattle.c_resolved_defs.specs.PrintableExpressions.{counted, counted_at}
use Rattle.c_resolved_defs.specs.PrintableStatements.{depth, depth_of, depth_in}
use Rattle.c_resolved_defs.specs.Limits.{most_of, most_if, most_listed, most_tested, most_counted, most_counted_of, most_counted_in}
use Rattle.c_resolving_laws.specs.Counts.{IsFew, IsFewInitialiser, IsFewDeclarator, IsFewLabel, IsFewStart, IsFewItem, IsFewPlain, IsFewStatement, IsFewBody, AreFewItems}
use Rattle.c_resolving_laws.proofs.LimitedTerms.{placeholder_few, up_to, max_left, max_right, depth_join, most_join, depth_cut, most_cut, value_few, dropped_few, constant_few}

module _ (ctx : Context) (K : ℕ) where
  -- a list within a depth, whose expressions are short
  pub record Within (d : ℕ) (a : Forest) : Type 0 where
    pub shallow : depth a ≤ d
    pub few : most_counted a ≤ K

  abbrev pub Short : ℕ → List item.Item → Type 0
  Short d xs = Within d (trees_of xs)

  short_none : (d : ℕ) → Short d []
  short_none d = subst (Within d) (sym trees-none) (record { shallow = omega arith; few = omega arith })

  short_one : (d : ℕ) (x : item.Item) (t : Tree) → tree_of x ≡ t → depth_of t ≤ d → most_counted_of t ≤ K → Short d (x ∷ [])
  short_one d x t e h k = subst (Within d) (sym (trees-more x [] ∙ (λ i. tree.Then (e i) (trees-none i)))) (record { shallow = omega arith; few = omega arith })

  pub short_both : (d : ℕ) (xs ys : List item.Item) → Short d xs → Short d ys → Short d (xs ++ ys)
  short_both d xs ys h k = subst (Within d) (sym (trees-append xs ys))
      (record { shallow = depth_join (trees_of xs) (trees_of ys) d h.shallow k.shallow; few = most_join (trees_of xs) (trees_of ys) K h.few k.few })

  short_more : (d : ℕ) (x : item.Item) (xs : List item.Item) (t : Tree) → tree_of x ≡ t → depth_of t ≤ d → most_counted_of t ≤ K → Short d xs → Short d (x ∷ xs)
  short_more d x xs t e h k l = short_both d (x ∷ []) xs (short_one d x t e h k) l

  deeper : (d e : ℕ) (a : Forest) → d ≤ e → Within d a → Within e a
  deeper d e a q h = record { shallow = let k = h.shallow in omega arith; few = h.few }

  short_list : (d : ℕ) (bs : List (List ℕ)) → Short d (map item.Note bs)
  short_list d [] = short_none d
  short_list d (b ∷ bs) = short_more d (item.Note b) (map item.Note bs) (tree.Note b) (tree-Note b) (omega arith) (omega arith) (short_list d bs)

  pub short_notes : (d : ℕ) (x : Anchor) → Short d (notes_at ctx x)
  short_notes d x = short_list d (ctx.notes x)

  behind_notes : (d : ℕ) (x : Anchor) (xs : List item.Item) → Short d xs → Short d (notes_at ctx x ++ xs)
  behind_notes d x xs h = short_both d (notes_at ctx x) xs (short_notes d x) h

  short_mark : (d at : ℕ) → Short d (mark ctx at)
  short_mark d at = let l = number_in ctx.labels (ctx.word at) in behind_notes d (Before at) (item.Mark l ∷ [])
      (short_one d (item.Mark l) (tree.Mark l) (tree-Mark l) (omega arith) (omega arith))

  short_labels : (d : ℕ) (w : Walk) (ls : List Label) → Each (IsFewLabel ctx.word K) ls → Short d (labels_items ctx (env_at ctx w) ls)
  short_labels d w [] h = short_none d
  short_labels d w (Named at after ∷ ls) h = short_both d (mark ctx at) (labels_items ctx (env_at ctx w) ls) (short_mark d at) (short_labels d w ls h.1)
  short_labels d w (Case at after t ∷ ls) h =
      let e = constant_at (env_at ctx w) t in
      let q = constant_few (env_at ctx w) 3 t (omega arith) in
      short_both d (notes_at ctx (Before at) ++ item.Arrival (Some e) ∷ []) (labels_items ctx (env_at ctx w) ls)
      (behind_notes d (Before at) (item.Arrival (Some e) ∷ [])
      (short_one d (item.Arrival (Some e)) _ (tree-Arrival (Some e)) (omega arith) (let k = h.0 in omega arith))) (short_labels d w ls h.1)
  short_labels d w (Default at after ∷ ls) h =
      short_both d (notes_at ctx (Before at) ++ item.Arrival None ∷ []) (labels_items ctx (env_at ctx w) ls)
      (behind_notes d (Before at) (item.Arrival None ∷ []) (short_one d (item.Arrival None) (tree.Arrival None) (tree-Arrival None) (omega arith)
      (omega arith))) (short_labels d w ls h.1)

  short_marks : (d : ℕ) (ls : List Label) → Short d (section_marks ctx ls)
  short_marks d [] = short_none d
  short_marks d (Named at after ∷ ls) = short_both d (mark ctx at) (section_marks ctx ls) (short_mark d at) (short_marks d ls)
  short_marks d (Case at after t ∷ ls) = short_marks d ls
  short_marks d (Default at after ∷ ls) = short_marks d ls

  few_values : (env : Env) (ts : List Term) → env.word ≡ ctx.word → Each (IsFew env.word K 2) ts → most_of 2 (expression_trees (map (value_at env) ts)) ≤ K
  few_values env [] e h = omega arith
  few_values env (t ∷ ts) e h = let q = value_few env 2 t (omega arith) in let k = h.0 in let r = few_values env ts e h.1 in up_to _ _ K (omega arith) r

  few_given : (env : Env) (i : Initialiser) → env.word ≡ ctx.word → IsFewInitialiser env.word K i →
      most_listed (option_map expression_trees (initial (value_at env) i)) ≤ K
  few_given env NoValue e h = omega arith
  few_given env (OneValue t) e h = let q = value_few env 2 t (omega arith) in up_to _ 0 K (omega arith) (omega arith)
  few_given env (ValueList ts) e h = few_values env ts e h

  short_locals : (d : ℕ) (k : Kinded) (ds : List Declarator) (w : Walk) → Each (IsFewDeclarator ctx.word K) ds → Short d (locals ctx.word k ds w)
  short_locals d k [] w h = short_none d
  short_locals d k (x ∷ ds) w h =
      let v = declared ctx.word k x w in
      let given = initial (value_at (env_in ctx.word v)) x.value in
      short_more d (local ctx.word k x w) (locals ctx.word k ds v) _ (tree-Local (length w.slots) given) (omega arith)
      (few_given (env_in ctx.word v) x.value refl h.0) (short_locals d k ds v h.1)

  value_one : (env : Env) (t : Term) → IsFew env.word K 1 t → counted (expression_tree (value_at env t)) ≤ K
  value_one env t h = let q = value_few env 1 t (omega arith) in omega arith

  dropped_one : (env : Env) (t : Term) → IsFew env.word K 1 t → counted (expression_tree (dropped_at env t)) ≤ K
  dropped_one env t h = let q = dropped_few env 1 t (omega arith) in omega arith

  values_one : (env : Env) (o : Option Term) → IfSome o (IsFew env.word K 1) → most_if (option_map expression_tree (option_map (value_at env) o)) ≤ K
  values_one env None h = omega arith
  values_one env (Some t) h = value_one env t h

  drops_one : (env : Env) (o : Option Term) → IfSome o (IsFew env.word K 1) → most_if (option_map expression_tree (option_map (dropped_at env) o)) ≤ K
  drops_one env None h = omega arith
  drops_one env (Some t) h = dropped_one env t h

  short_start : (d : ℕ) (start : Start) (w : Walk) → IsFewStart ctx.word K start → Short d (start_items ctx start w)
  short_start d NoStart w h = short_none d
  short_start d (StartValue t) w h = let e = dropped_at (env_at ctx w) t in
      short_one d (item.Evaluate e) _ (tree-Evaluate e) (omega arith) (dropped_one (env_at ctx w) t h)
  short_start d (StartNames x) w h = short_locals d (kinded ctx.word x) x.names w h

  tested : (env : Env) (t : Term) → IsFew env.word K 1 t → most_tested (test_tree (test.Source (value_at env t))) ≤ K
  tested env t h = subst (λ x. most_tested x ≤ K) (sym (test-Source (value_at env t))) (value_one env t h)

  selected : (env : Env) (t : Term) → IsFew env.word K 1 t → counted (selector_source (selector_tree (selector.Source (value_at env t)))) ≤ K
  selected env t h = subst (λ x. counted (selector_source x) ≤ K) (sym (selector-Source (value_at env t))) (value_one env t h)

  -- ---- sections

  abbrev IsFewSection : ℕ → SectionTree → Type 0
  IsFewSection d s = Within d s.list × Each (λ e. counted_at 3 e ≤ K) s.cases

  abbrev ShortReading : ℕ → Option Reading → Type 0
  ShortReading d None = Unit {0}
  ShortReading d (Some r) = Short d r.list × Each (λ e. counted_at 3 e ≤ K) (expression_trees r.cases)

  abbrev ShortSections : ℕ → List Section → Type 0
  ShortSections d cs = Each (λ s. IsFewSection d (section_tree s)) cs

  short_extended : (d : ℕ) (o : Option Reading) (xs : List item.Item) → ShortReading d o → Short d xs → ShortReading d (extended o xs)
  short_extended d (Some r) xs h k = (short_both d r.list xs h.0 k, h.1)
  short_extended d None xs h k = tt

  within_cut : (d : ℕ) (a : Forest) → Within d a → Within d (without_end a)
  within_cut d a h = record { shallow = depth_cut a d h.shallow; few = most_cut a K h.few }

  short_ended : (d : ℕ) (cs : List ExpressionTree) (f : Bool) (a : Forest) → Within d a → Each (λ e. counted_at 3 e ≤ K) cs → IsFewSection d (ended_tree cs f a)
  short_ended d cs f a h c = by (has_entry cs f && ends_with_break a)
    where
      by : (b : Bool) → IsFewSection d (cond b (section_of cs f (without_end a) true) (section_of cs f a false))
      by true = (within_cut d a h, c)
      by false = (h, c)

  short_closed : (d : ℕ) (o : Option Reading) → ShortReading d o → ShortSections d (closed o)
  short_closed d None h = tt
  short_closed d (Some r) h = (subst (IsFewSection d) (sym (ended_same r)) (short_ended d (expression_trees r.cases) r.default (trees_of r.list) h.0 h.1), tt)

  short_end : (d : ℕ) (o : Option Reading) (notes : List item.Item) → ShortReading d o → Short d notes → ShortSections d (statements.sections_of o notes)
  short_end d None notes h k = tt
  short_end d (Some r) notes h k = short_closed d (extended (Some r) notes) (short_extended d (Some r) notes h k)

  short_if : (d : ℕ) (b : Bool) (xs : List item.Item) → Short d xs → Short d (cond b [] xs)
  short_if d true xs h = short_none d
  short_if d false xs h = h

  short_front : (d : ℕ) (xs : List item.Item) → Short d xs → ShortSections d (front xs)
  short_front d [] h = tt
  short_front d (x ∷ xs) h =
      let nothing = item.Evaluate placeholder ∷ [] in
      short_closed d (Some (record { cases = []; default = false; list = (x ∷ xs) ++ nothing })) (
        short_both d (x ∷ xs) nothing h (short_one d (item.Evaluate placeholder) _ (tree-Evaluate placeholder) (omega arith)
            (let q = placeholder_few 1 K (omega arith) in omega arith)),
        tt,
      )

  few_cases : (w : Walk) (ls : List Label) → Each (IsFewLabel ctx.word K) ls →
      Each (λ e. counted_at 3 e ≤ K) (expression_trees (section_cases (env_at ctx w) ls))
  few_cases w [] h = tt
  few_cases w (Named at after ∷ ls) h = few_cases w ls h.1
  few_cases w (Case at after t ∷ ls) h = ((let q = constant_few (env_at ctx w) 3 t (omega arith) in let k = h.0 in omega arith), few_cases w ls h.1)
  few_cases w (Default at after ∷ ls) h = few_cases w ls h.1

  short_begun : (d : ℕ) (w : Walk) (ls : List Label) (xs : List item.Item) → Each (IsFewLabel ctx.word K) ls → Short d xs →
      ShortReading d (begun ctx (env_at ctx w) ls xs)
  short_begun d w ls xs h k = (
    short_both d (notes_at ctx (AtSection (items.first_label ls)) ++ section_marks ctx ls) xs
        (behind_notes d (AtSection (items.first_label ls)) (section_marks ctx ls) (short_marks d ls)) k,
    few_cases w ls h,
  )

  section_by : (d : ℕ) (b : Bool) (o : Option Reading) (xs ys : List Section) → ShortReading d o → ShortSections d xs → ShortSections d ys →
      ShortSections d (elim b [ true ↦ closed o ++ xs | false ↦ ys ])
  section_by d true o xs ys h f g = each_append _ (closed o) xs (short_closed d o h) f
  section_by d false o xs ys h f g = g

  lone_by : (d : ℕ) (b : Bool) (xs ys : List Section) → ShortSections d xs → ShortSections d ys → ShortSections d (elim b [ true ↦ xs | false ↦ ys ])
  lone_by d true xs ys f g = f
  lone_by d false xs ys f g = g

  passed_by : (d : ℕ) (cs : List ExpressionTree) (f : Bool) (s : SectionTree) (ts : List SectionTree) (b : Bool) → Each (λ e. counted_at 3 e ≤ K) cs →
      IsFewSection d s
      → ((es : List ExpressionTree) (e : Bool) → Each (λ e. counted_at 3 e ≤ K) es → Each (IsFewSection d) (passed_trees es e ts))
      → Each (IsFewSection d) (elim b [ true ↦ passed_trees (cs ++ s.cases) (f || s.default) ts | false ↦ with_entries cs f s ∷ passed_trees [] false ts ])
  passed_by d cs f s ts true c h g = g (cs ++ s.cases) (f || s.default) (each_append _ cs s.cases c h.1)
  passed_by d cs f s ts false c h g = ((h.0, each_append _ cs s.cases c h.1), g [] false tt)

  short_passed : (d : ℕ) (cs : List ExpressionTree) (f : Bool) (ts : List SectionTree) → Each (λ e. counted_at 3 e ≤ K) cs →
      Each (IsFewSection d) ts → Each (IsFewSection d) (passed_trees cs f ts)
  short_passed d cs f [] c h = tt
  short_passed d cs f (s ∷ []) c h = ((h.0.0, each_append _ cs s.cases c h.0.1), tt)
  short_passed d cs f (s ∷ t ∷ ts) c h = passed_by d cs f s (t ∷ ts) (passes s) c h.0 (λ es e k. short_passed d es e (t ∷ ts) k h.1)

  cases_most : (cs : List ExpressionTree) → Each (λ e. counted_at 3 e ≤ K) cs → most_of 3 cs ≤ K
  cases_most [] h = omega arith
  cases_most (c ∷ cs) h = up_to (counted_at 3 c) (most_of 3 cs) K h.0 (cases_most cs h.1)

  sections_within : (d : ℕ) (ts : List SectionTree) → Each (IsFewSection d) ts → (depth_in (sections ts) ≤ d) × (most_counted_in (sections ts) ≤ K)
  sections_within d [] h = (omega arith, omega arith)
  sections_within d (s ∷ ts) h =
      let r = sections_within d ts h.1 in (
        up_to (depth s.list) (depth_in (sections ts)) d h.0.0.shallow r.0,
        up_to (most_of 3 s.cases) (max (most_counted s.list) (most_counted_in (sections ts))) K (cases_most s.cases h.0.1)
            (up_to (most_counted s.list) (most_counted_in (sections ts)) K h.0.0.few r.1),
      )

  few_trees : (d : ℕ) (cs : List Section) → ShortSections d cs → Each (IsFewSection d) (map section_tree cs)
  few_trees d [] h = tt
  few_trees d (c ∷ cs) h = (h.0, few_trees d cs h.1)

  switch_within : (d : ℕ) (cs : List Section) → ShortSections d cs → (depth_in (sections_of (labels_passed cs)) ≤ d) ×
      (most_counted_in (sections_of (labels_passed cs)) ≤ K)
  switch_within d cs h =
      subst (λ c. (depth_in c ≤ d) × (most_counted_in c ≤ K)) (sym (sections_are (labels_passed cs) ∙ ap sections (passed_same cs)))
      (sections_within d (passed_trees [] false (map section_tree cs)) (short_passed d [] false (map section_tree cs) tt (few_trees d cs h)))

  -- an `if` with one list, or with two
  if_depth : (t : TestTree) (a b : Forest) (d : ℕ) → depth a + 1 ≤ d → depth b + 1 ≤ d → depth_of (tree.If t a b) ≤ d
  if_depth t a Nil d h k = h
  if_depth t a (tree.Then x b) d h k = omega arith

  three : (a b c : ℕ) → a ≤ K → b ≤ K → c ≤ K → max a (max b c) ≤ K
  three a b c h k l = omega arith

  four : (a b c e : ℕ) → a ≤ K → b ≤ K → c ≤ K → e ≤ K → max a (max b (max c e)) ≤ K
  four a b c e h k l m = omega arith

  -- the depth within a body
  abbrev pub inner_depth : Body → ℕ
  inner_depth (Braces first after xs) = list_depth xs
  inner_depth (Lone first after x) = item_depth x

  one_deeper : (b : Body) → body_depth b ≡ inner_depth b + 1
  one_deeper (Braces first after xs) = refl
  one_deeper (Lone first after x) = refl

  -- the list of a body, one level down
  pub record Inner (b : Body) (xs : List item.Item) : Type 0 where
    pub shallow : depth (trees_of xs) + 1 ≤ body_depth b
    pub few : most_counted (trees_of xs) ≤ K

  no_items : (d : ℕ) → 1 ≤ d → depth (trees_of []) + 1 ≤ d
  no_items d h = let e : depth (trees_of []) ≡ 0 = ap depth trees-none in omega arith

  mutual
    pub item_short : (x : Item) (w : Walk) (d : ℕ) → IsFewItem ctx.word K x → item_depth x ≤ d → Short d (item_items ctx x w)
    item_short (Declares first after x) w d h q = behind_notes d (Before first) (locals ctx.word (kinded ctx.word x) x.names w)
        (short_locals d (kinded ctx.word x) x.names w h)
    item_short (States ls p) w d h q = short_both d (labels_items ctx (env_at ctx w) ls) (plain_items ctx p w) (short_labels d w ls h.0)
        (plain_short p w d h.1 q)

    plain_short : (p : Plain) (w : Walk) (d : ℕ) → IsFewPlain ctx.word K p → plain_depth p ≤ d → Short d (plain_items ctx p w)
    plain_short (From first after s) w d h q = behind_notes d (Before first) (statement_items ctx s w) (statement_short s w d h q)

    statement_short : (s : Statement) (w : Walk) (d : ℕ) → IsFewStatement ctx.word K s → statement_depth s ≤ d → Short d (statement_items ctx s w)
    statement_short Null w d h q = short_none d
    statement_short (Evaluate t) w d h q = let e = dropped_at (env_at ctx w) t in
        short_one d (item.Evaluate e) _ (tree-Evaluate e) (omega arith) (dropped_one (env_at ctx w) t h)
    statement_short (If t b) w d h q =
        let x = test.Source (value_at (env_at ctx w) t) in
        let a = body_items ctx b w in
        let k = body_short b w h.1 in
        short_one d (item.If x a []) _ (tree-If x a []) (if_depth (test_tree x) (trees_of a) (trees_of []) d (let z = k.shallow in omega arith)
        (no_items d (let z = k.shallow in omega arith)))
        (three (most_tested (test_tree x)) (most_counted (trees_of a)) (most_counted (trees_of [])) (tested (env_at ctx w) t h.0) k.few (short_none d).few)
    statement_short (IfElse t b c) w d h q =
        let x = test.Source (value_at (env_at ctx w) t) in
        let u = behind_body ctx b w in
        let a = body_items ctx b w in
        let e = body_items ctx c u in
        let k = body_short b w h.1 in
        let l = body_short c u h.2 in
        short_one d (item.If x a e) _ (tree-If x a e)
        (if_depth (test_tree x) (trees_of a) (trees_of e) d (let z = k.shallow in let y = max_left (body_depth b) (body_depth c) d q in omega arith)
        (let z = l.shallow in let y = max_right (body_depth b) (body_depth c) d q in omega arith))
        (three (most_tested (test_tree x)) (most_counted (trees_of a)) (most_counted (trees_of e)) (tested (env_at ctx w) t h.0) k.few l.few)
    statement_short (While t b) w d h q =
        let x = test.Source (value_at (env_at ctx w) t) in
        let a = body_items ctx b w in
        let k = body_short b w h.1 in
        short_one d (item.While x a) _ (tree-While x a) (let z = k.shallow in omega arith)
        (up_to (most_tested (test_tree x)) (most_counted (trees_of a)) K (tested (env_at ctx w) t h.0) k.few)
    statement_short (DoWhile b t) w d h q =
        let x = test.Source (value_at (env_at ctx w) t) in
        let a = body_items ctx b w in
        let k = body_short b w h.0 in
        short_one d (item.Do a x) _ (tree-Do a x) (let z = k.shallow in omega arith)
        (up_to (most_counted (trees_of a)) (most_tested (test_tree x)) K k.few (tested (env_at ctx w) t h.1))
    statement_short (For start t u b) w d h q =
        let inner = behind_start ctx start (enter w) in
        let env = env_at ctx inner in
        let f = start_items ctx start (enter w) in
        let a = body_items ctx b inner in
        let x = option_map (value_at env) t in
        let y = option_map (dropped_at env) u in
        let k = body_short b inner h.3 in
        short_one d (item.For f x y a) _ (tree-For f x y a) (let z = k.shallow in omega arith)
        (four (most_counted (trees_of f)) (most_if (option_map expression_tree x)) (most_if (option_map expression_tree y))
        (most_counted (trees_of a)) (short_start d start (enter w) h.0).few (values_one env t h.1) (drops_one env u h.2) k.few)
    statement_short (Switch t b) w d h q =
        let v = selector.Source (value_at (env_at ctx w) t) in
        let cs = switch_sections ctx b w in
        let k = switch_within (inner_depth b) cs (sections_short b w h.1) in
        short_one d (item.Switch v (labels_passed cs)) _ (tree-Switch v (labels_passed cs)) (let z = k.0 in let y = one_deeper b in omega arith)
        (up_to (counted (selector_source (selector_tree v))) (most_counted_in (sections_of (labels_passed cs))) K (selected (env_at ctx w) t h.0) k.1)
    statement_short (Block b) w d h q = let a = body_items ctx b w in let k = body_short b w h in
        short_one d (item.Block a) _ (tree-Block a) (let z = k.shallow in omega arith) k.few
    statement_short (Goto at) w d h q = short_one d _ _ (tree-Goto (number_in ctx.labels (ctx.word at))) (omega arith) (omega arith)
    statement_short Break w d h q = short_one d _ _ tree-Break (omega arith) (omega arith)
    statement_short Continue w d h q = short_one d _ _ tree-Continue (omega arith) (omega arith)
    statement_short (Return t) w d h q = let x = option_map (value_at (env_at ctx w)) t in
        short_one d (item.Return x) _ (tree-Return x) (omega arith) (values_one (env_at ctx w) t h)
    statement_short Unread w d h q = short_none d

    body_short : (b : Body) (w : Walk) → IsFewBody ctx.word K b → Inner b (body_items ctx b w)
    body_short (Braces first after xs) w h =
        let l = short_both (list_depth xs) (list_items ctx xs (enter w)) (notes_at ctx (AtEnd first))
        (list_short xs (enter w) (list_depth xs) h (omega arith)) (short_notes (list_depth xs) (AtEnd first)) in
        record { shallow = let z = l.shallow in omega arith; few = l.few }
    body_short (Lone first after x) w h =
        let l = short_both (item_depth x) (item_items ctx x (enter w)) (notes_at ctx (AtEnd first))
        (item_short x (enter w) (item_depth x) h (omega arith)) (short_notes (item_depth x) (AtEnd first)) in
        record { shallow = let z = l.shallow in omega arith; few = l.few }

    pub list_short : (xs : Items) (w : Walk) (d : ℕ) → AreFewItems ctx.word K xs → list_depth xs ≤ d → Short d (list_items ctx xs w)
    list_short NoItem w d h q = short_none d
    list_short (items.Then x xs) w d h q =
        let v = behind_item ctx x w in
        short_both d (item_items ctx x w) (list_items ctx xs v) (item_short x w d h.0 (max_left (item_depth x) (list_depth xs) d q))
        (list_short xs v d h.1 (max_right (item_depth x) (list_depth xs) d q))

    sections_short : (b : Body) (w : Walk) → IsFewBody ctx.word K b → ShortSections (inner_depth b) (switch_sections ctx b w)
    sections_short (Braces first after xs) w h =
        let k = list_depth xs in
        let later = from_short None xs (notes_at ctx (AtEnd first)) (enter w) k tt (short_notes k (AtEnd first)) h (omega arith) in
        each_append _ (front (outside_items ctx xs (enter w))) (sections_from ctx None xs (notes_at ctx (AtEnd first)) (enter w))
        (short_front k (outside_items ctx xs (enter w)) (outside_short xs (enter w) k h (omega arith))) later
    sections_short (Lone first after x) w h =
        let k = item_depth x in
        let later = at_short x (notes_at ctx (AtEnd first)) (enter w) k (short_notes k (AtEnd first)) h (omega arith) in
        each_append _ (front (outside_item ctx x (enter w))) (sections_at ctx None x (notes_at ctx (AtEnd first)) (enter w))
        (short_front k (outside_item ctx x (enter w)) (outside_one x (enter w) k h (omega arith))) later

    -- in front of the first section
    outside_short : (xs : Items) (w : Walk) (d : ℕ) → AreFewItems ctx.word K xs → list_depth xs ≤ d → Short d (outside_items ctx xs w)
    outside_short NoItem w d h q = short_none d
    outside_short (items.Then x xs) w d h q =
        short_if d (begins x) (outside_item ctx x w ++ outside_items ctx xs (behind_item ctx x w))
        (short_both d (outside_item ctx x w) (outside_items ctx xs (behind_item ctx x w))
        (outside_one x w d h.0 (max_left (item_depth x) (list_depth xs) d q))
        (outside_short xs (behind_item ctx x w) d h.1 (max_right (item_depth x) (list_depth xs) d q)))

    outside_one : (x : Item) (w : Walk) (d : ℕ) → IsFewItem ctx.word K x → item_depth x ≤ d → Short d (outside_item ctx x w)
    outside_one (Declares first after x) w d h q = behind_notes d (Before first) (locals ctx.word (kinded ctx.word x) x.names w)
        (short_locals d (kinded ctx.word x) x.names w h)
    outside_one (States ls p) w d h q =
        short_if d (has_case ls || is_null ls p) (labels_items ctx (env_at ctx w) ls ++ plain_items ctx p w)
        (short_both d (labels_items ctx (env_at ctx w) ls) (plain_items ctx p w) (short_labels d w ls h.0) (plain_short p w d h.1 q))

    from_short : (o : Option Reading) (xs : Items) (notes : List item.Item) (w : Walk) (d : ℕ) → ShortReading d o → Short d notes →
        AreFewItems ctx.word K xs → list_depth xs ≤ d → ShortSections d (sections_from ctx o xs notes w)
    from_short o NoItem notes w d r k h q = short_end d o notes r k
    from_short o (items.Then (Declares first after x) xs) notes w d r k h q =
        let l = locals ctx.word (kinded ctx.word x) x.names w in
        let new = notes_at ctx (Before first) ++ l in
        from_short (extended o new) xs notes (declared_by ctx x w) d
        (short_extended d o new r (behind_notes d (Before first) l (short_locals d (kinded ctx.word x) x.names w h.0))) k h.1
        (max_right 0 (list_depth xs) d q)
    from_short o (items.Then (States ls p) xs) notes w d r k h q =
        let v = behind_plain ctx p w in
        let env = env_at ctx w in
        let ps = plain_items ctx p w in
        let m = plain_short p w d h.0.1 (max_left (plain_depth p) (list_depth xs) d q) in
        let new = labels_items ctx env ls ++ ps in
        let rest = max_right (plain_depth p) (list_depth xs) d q in
        section_by d (has_case ls) o (sections_from ctx (begun ctx env ls ps) xs notes v) (sections_from ctx (extended o new) xs notes v) r
        (from_short (begun ctx env ls ps) xs notes v d (short_begun d w ls ps h.0.0 m) k h.1 rest)
        (from_short (extended o new) xs notes v d (short_extended d o new r (short_both d (labels_items ctx env ls) ps (short_labels d w ls h.0.0) m))
        k h.1 rest)

    at_short : (x : Item) (notes : List item.Item) (w : Walk) (d : ℕ) → Short d notes → IsFewItem ctx.word K x → item_depth x ≤ d →
        ShortSections d (sections_at ctx None x notes w)
    at_short (Declares first after x) notes w d k h q = tt
    at_short (States ls p) notes w d k h q =
        let ps = plain_items ctx p w in
        let sections = begun ctx (env_at ctx w) ls ps in
        lone_by d (has_case ls) (statements.sections_of sections notes) []
        (short_end d sections notes (short_begun d w ls ps h.0 (plain_short p w d h.1 q)) k) tt
