-- The walk over a body without violations: what holds of each statement at its place holds of each item.
use Rattle.std.proofs.Common.{ℕ, Bool, true, false, not, List, [], ◌∷◌, ◌++◌, map, length, Option, Some, None, option_map, ◌≡◌, refl, sym, ap, subst, ◌∙◌}
use Rattle.c_tree.specs.declared.tree.Slot.{Slot}
use Rattle.c_tree.specs.declared.tree.Item as item
use Rattle.c_tree.specs.declared.tree.Section.{Section}
use Rattle.c_tree.specs.declared.tree.Test as test
use Rattle.c_tree.specs.declared.tree.Selector as selector
use Rattle.c_tree.specs.ExpressionTrees.{ExpressionTree}
use Rattle.c_tree.specs.Trees.{Tree, Forest, SectionTree, Nil, expression_trees, tree_of, trees_of, section_tree, sections, sections_of}
use Rattle.c_tree.specs.Trees as tree
use Rattle.c_tree.proofs.ExpressionLaws.{test-Source, selector-Source}
use Rattle.c_tree.proofs.TreeLaws.{tree-Evaluate, tree-Return, tree-If, tree-While, tree-Do, tree-For, tree-Switch, tree-Block, tree-Local, tree-Break, tree-Continue, tree-Goto, tree-Mark, tree-Arrival, tree-Note}
use Rattle.c_tree.specs.SectionLabels.{labels_passed}
use Rattle.c_grammar.specs.Items.{Declarator, Declaration, Label, Named, Case, Default, Start, NoStart, StartValue, StartNames, Item, Declares, States, Plain, From, Statement, Null, Evaluate, If, IfElse, While, DoWhile, For, Switch, Block, Goto, Break, Continue, Return, Unread, Body, Braces, Lone, Items, NoItem}
use Rattle.c_grammar.specs.Items as items
use Rattle.c_kinds.specs.Scopes.{Scope, fault_if}
use Rattle.c_kinds.specs.Typing.{constant_faults}
use Rattle.c_statements.specs.declared.extents.Kinded.{Kinded}
use Rattle.c_statements.specs.declared.anchors.Anchor.{Anchor}
use Rattle.c_statements.specs.declared.anchors.Anchor.TheVariants.{Before, AtEnd, AtSection}
use Rattle.c_statements.specs.Context.{Context, Walk, env_at, env_in, enter, notes_at, number_in, has_label, Around, in_loop, in_switch}
use Rattle.c_statements.specs.Declarations.{kinded, declared, all_declared, local, locals, initial, value_at, constant_at, locals_faults}
use Rattle.c_statements.specs.Labels.{has_case, mark, label_items, labels_items, section_marks, section_cases, label_faults, labels_faults}
use Rattle.c_statements.specs.Sections.{Reading, extended, closed}
use Rattle.c_statements.specs.Statements.{behind_start, behind_item, behind_plain, behind_body, behind_items, declared_by, dropped_at, test_at, start_items, begun, a_switch, item_items, plain_items, statement_items, body_items, list_items, switch_sections, sections_from, sections_at}
use Rattle.c_statements.specs.Statements as statements
use Rattle.c_statements.specs.Violations.{start_faults, item_faults, plain_faults, statement_faults, body_faults, list_faults, switch_body_faults, outside_faults, outside_fault}
use Rattle.c_resolved_defs.specs.Within.{Each}
use Rattle.c_resolving_laws.proofs.Lists.{none_left, clean_if, not_true, each_append}
use Rattle.c_resolving_laws.specs.Read.{IsReadDeclarator, IsReadLabel, IsReadStart, IsReadItem, IsReadPlain, IsReadStatement, IsReadBody, AreReadItems}
use Rattle.c_resolving_laws.proofs.Empty.{constant_empty}
use Rattle.c_resolving_laws.proofs.Parts.{parted, locals_parts, labels_parts, states_parts, list_parts, if_parts, if_else_parts, while_parts, do_parts, for_parts, switch_parts, Outside, outside_declares, outside_parts, outside_one}
use Rattle.c_resolving_laws.proofs.Readings.{longer, beginning}
use Rattle.c_resolving_laws.proofs.Grown.{Grown, locals_grow, body_grows, list_grows, outside_grows}
use Rattle.c_resolving_laws.proofs.Walk.{Begins, Any, begins_before, Closed, Holds, hold_none, hold_more, hold_one, hold_both, hold_as, SectionsHold, ReadingHolds, extended_holds, closed_holds, switch_holds}
use Rattle.c_resolving_laws.proofs.Fronts.{no_front}

-- a statement leaves the scopes as they are

pub body_scopes : (ctx : Context) (b : Body) (w : Walk) → (behind_body ctx b w).scopes ≡ w.scopes
body_scopes ctx (Braces first after xs) w = refl
body_scopes ctx (Lone first after x) w = refl

pub plain_scopes : (ctx : Context) (p : Plain) (w : Walk) → (behind_plain ctx p w).scopes ≡ w.scopes
plain_scopes ctx (From first after Null) w = refl
plain_scopes ctx (From first after (Evaluate t)) w = refl
plain_scopes ctx (From first after (If t b)) w = body_scopes ctx b w
plain_scopes ctx (From first after (IfElse t b c)) w = body_scopes ctx c (behind_body ctx b w) ∙ body_scopes ctx b w
plain_scopes ctx (From first after (While t b)) w = body_scopes ctx b w
plain_scopes ctx (From first after (DoWhile b t)) w = body_scopes ctx b w
plain_scopes ctx (From first after (For start t u b)) w = refl
plain_scopes ctx (From first after (Switch t b)) w = body_scopes ctx b w
plain_scopes ctx (From first after (Block b)) w = body_scopes ctx b w
plain_scopes ctx (From first after (Goto at)) w = refl
plain_scopes ctx (From first after Break) w = refl
plain_scopes ctx (From first after Continue) w = refl
plain_scopes ctx (From first after (Return t)) w = refl
plain_scopes ctx (From first after Unread) w = refl

module _ (ctx : Context) (final : List Slot) (I : List Scope → Type 0) (P : Tree → Type 0) (C : ExpressionTree → Type 0) (c : Closed ctx final I P C) where
  abbrev Here : Walk → Type 0
  Here w = I w.scopes

  abbrev Ends : Walk → Type 0
  Ends w = Begins w.slots final

  -- ---- comments and labels

  note_list : (bs : List (List ℕ)) → Each (λ b. P (tree.Note b)) bs → Holds P (map item.Note bs)
  note_list [] h = hold_none P
  note_list (b ∷ bs) h = hold_more P (item.Note b) (map item.Note bs) (hold_as P (item.Note b) (tree.Note b) (tree-Note b) h.0) (note_list bs h.1)

  pub notes_hold : (a : Anchor) → Holds P (notes_at ctx a)
  notes_hold a = note_list (ctx.notes a) (c.note a)

  behind_notes : (a : Anchor) (xs : List item.Item) → Holds P xs → Holds P (notes_at ctx a ++ xs)
  behind_notes a xs h = hold_both P (notes_at ctx a) xs (notes_hold a) h

  mark_holds : (at : ℕ) → Holds P (mark ctx at)
  mark_holds at =
      let m = item.Mark (number_in ctx.labels (ctx.word at)) in
      behind_notes (Before at) (m ∷ []) (hold_one P m (hold_as P m _ (tree-Mark (number_in ctx.labels (ctx.word at))) (c.marks at)))

  label_holds : (w : Walk) (switch : Bool) (l : Label) → IsReadLabel ctx.word l → Here w → label_faults (env_at ctx w) switch l [] ≡ [] →
      Holds P (label_items ctx (env_at ctx w) l)
  label_holds w switch (Named at after) r i e = mark_holds at
  label_holds w switch (Case at after t) r i e =
      let env = env_at ctx w in
      let x = item.Arrival (Some (constant_at env t)) in
      let k = parted (constant_faults env t) (fault_if (not switch) at 29) (constant_empty env t) e in
      behind_notes (Before at) (x ∷ []) (hold_one P x (hold_as P x _ (tree-Arrival (Some (constant_at env t))) (c.arrives w t i r k.1)))
  label_holds w switch (Default at after) r i e = behind_notes (Before at) (item.Arrival None ∷ [])
      (hold_one P (item.Arrival None) (hold_as P (item.Arrival None) _ (tree-Arrival None) c.defaults))

  labels_hold : (w : Walk) (switch : Bool) (ls : List Label) → Each (IsReadLabel ctx.word) ls → Here w →
      labels_faults (env_at ctx w) switch ls [] ≡ [] → Holds P (labels_items ctx (env_at ctx w) ls)
  labels_hold w switch [] r i e = hold_none P
  labels_hold w switch (l ∷ ls) r i e =
      let p = labels_parts (env_at ctx w) switch l ls e in
      hold_both P (label_items ctx (env_at ctx w) l) (labels_items ctx (env_at ctx w) ls) (label_holds w switch l r.0 i p.0) (labels_hold w switch ls r.1 i p.1)

  marks_hold : (ls : List Label) → Holds P (section_marks ctx ls)
  marks_hold [] = hold_none P
  marks_hold (Named at after ∷ ls) = hold_both P (mark ctx at) (section_marks ctx ls) (mark_holds at) (marks_hold ls)
  marks_hold (Case at after t ∷ ls) = marks_hold ls
  marks_hold (Default at after ∷ ls) = marks_hold ls

  cases_hold : (w : Walk) (switch : Bool) (ls : List Label) → Each (IsReadLabel ctx.word) ls → Here w →
      labels_faults (env_at ctx w) switch ls [] ≡ [] → Each C (expression_trees (section_cases (env_at ctx w) ls))
  cases_hold w switch [] r i e = tt
  cases_hold w switch (Named at after ∷ ls) r i e = cases_hold w switch ls r.1 i (labels_parts (env_at ctx w) switch (Named at after) ls e).1
  cases_hold w switch (Case at after t ∷ ls) r i e =
      let env = env_at ctx w in
      let p = labels_parts env switch (Case at after t) ls e in
      let k = parted (constant_faults env t) (fault_if (not switch) at 29) (constant_empty env t) p.0 in
      (c.cases w t i r.0 k.1, cases_hold w switch ls r.1 i p.1)
  cases_hold w switch (Default at after ∷ ls) r i e = cases_hold w switch ls r.1 i (labels_parts (env_at ctx w) switch (Default at after) ls e).1

  begun_holds : (w : Walk) (switch : Bool) (ls : List Label) (xs : List item.Item) → Each (IsReadLabel ctx.word) ls → Here w →
      labels_faults (env_at ctx w) switch ls [] ≡ [] → Holds P xs
      → ReadingHolds P C (begun ctx (env_at ctx w) ls xs)
  begun_holds w switch ls xs r i e h = (
    hold_both P (notes_at ctx (AtSection (items.first_label ls)) ++ section_marks ctx ls) xs
        (behind_notes (AtSection (items.first_label ls)) (section_marks ctx ls) (marks_hold ls)) h,
    cases_hold w switch ls r i e,
  )

  -- ---- declarations

  locals_hold : (k : Kinded) (ds : List Declarator) (w : Walk) → Each (IsReadDeclarator ctx.word) ds → locals_faults ctx.word k ds w [] ≡ [] →
      Here w → Ends (all_declared ctx.word k ds w)
      → Holds P (locals ctx.word k ds w) × Here (all_declared ctx.word k ds w)
  locals_hold k [] w r e i z = (hold_none P, i)
  locals_hold k (d ∷ ds) w r e i z =
      let p = locals_parts ctx.word k d ds w e in
      let v = declared ctx.word k d w in
      let b = begins_before v.slots (all_declared ctx.word k ds v).slots final (locals_grow ctx Any (λ k d w r e. tt) k ds v r.1 p.1) z in
      let j = c.binds k d w r.0 p.0 b i in
      let rest = locals_hold k ds v r.1 p.1 j z in
      let x = local ctx.word k d w in (
        hold_more P x (locals ctx.word k ds v) (hold_as P x _ (tree-Local (length w.slots) (initial (value_at (env_in ctx.word v)) d.value))
            (c.locals k d w r.0 p.0 b i j)) rest.0,
        rest.1,
      )

  start_holds : (start : Start) (w : Walk) → IsReadStart ctx.word start → start_faults ctx start w [] ≡ [] → Here w →
      Ends (behind_start ctx start w) → Holds P (start_items ctx start w) × Here (behind_start ctx start w)
  start_holds NoStart w r e i z = (hold_none P, i)
  start_holds (StartValue t) w r e i z =
      let x = item.Evaluate (dropped_at (env_at ctx w) t) in
      (hold_one P x (hold_as P x _ (tree-Evaluate (dropped_at (env_at ctx w) t)) (c.evaluates w t i r e)), i)
  start_holds (StartNames d) w r e i z = locals_hold (kinded ctx.word d) d.names w r e i z

  -- ---- statements

  plain_here : (p : Plain) (w : Walk) → Here w → Here (behind_plain ctx p w)
  plain_here p w i = subst I (sym (plain_scopes ctx p w)) i

  body_here : (b : Body) (w : Walk) → Here w → Here (behind_body ctx b w)
  body_here b w i = subst I (sym (body_scopes ctx b w)) i

  sections_end : (reading : Option Reading) (notes : List item.Item) → ReadingHolds P C reading → Holds P notes →
      SectionsHold P C (statements.sections_of reading notes)
  sections_end None notes h k = tt
  sections_end (Some s) notes h k = closed_holds P C (extended (Some s) notes) (extended_holds P C s notes h k)

  -- ---- items in front of the first section, and in sections, by whether a statement begins one

  sections_by : (b : Bool) (reading : Option Reading) (xs : List Section) (ys : List Section) → ReadingHolds P C reading →
      (b ≡ true → SectionsHold P C xs) → (b ≡ false → SectionsHold P C ys)
      → SectionsHold P C (elim b [ true ↦ closed reading ++ xs | false ↦ ys ])
  sections_by true reading xs ys h f g = each_append _ (closed reading) xs (closed_holds P C reading h) (f refl)
  sections_by false reading xs ys h f g = g refl

  outside_by : (ls : List Label) (p : Plain) (xs : Items) (around : Around) (w : Walk) (b : Bool) → Outside ctx around w b ls p xs → (ss ts : List Section)
      → (list_faults ctx around xs (behind_plain ctx p w) [] ≡ [] → SectionsHold P C ss) →
      (outside_faults ctx around xs (behind_plain ctx p w) [] ≡ [] → SectionsHold P C ts)
      → SectionsHold P C (elim b [ true ↦ ss | false ↦ ts ])
  outside_by ls p xs around w true o ss ts f g = f o
  outside_by ls p xs around w false o ss ts f g = g o.1

  outside_later : (ls : List Label) (p : Plain) (xs : Items) (around : Around) (w : Walk) → AreReadItems ctx.word xs → (b : Bool) →
      Outside ctx around w b ls p xs
      → Grown Any (behind_plain ctx p w).slots (behind_items ctx xs (behind_plain ctx p w)).slots
  outside_later ls p xs around w r true o = list_grows ctx Any (λ k d w r e. tt) around xs (behind_plain ctx p w) r o
  outside_later ls p xs around w r false o = outside_grows ctx Any (λ k d w r e. tt) around xs (behind_plain ctx p w) r o.1

  mutual
    pub item_holds : (around : Around) (x : Item) (w : Walk) → IsReadItem ctx.word x → item_faults ctx around x w [] ≡ [] → Here w → Ends (behind_item ctx x w)
        → Holds P (item_items ctx x w) × Here (behind_item ctx x w)
    item_holds around (Declares first after d) w r e i z =
        let h = locals_hold (kinded ctx.word d) d.names w r e i z in
        (behind_notes (Before first) (locals ctx.word (kinded ctx.word d) d.names w) h.0, h.1)
    item_holds around (States ls p) w r e i z =
        let q = states_parts ctx around w ls p e in (
          hold_both P (labels_items ctx (env_at ctx w) ls) (plain_items ctx p w) (labels_hold w around.switch ls r.0 i q.0)
              (plain_holds around p w r.1 q.1 i z),
          plain_here p w i,
        )

    pub plain_holds : (around : Around) (p : Plain) (w : Walk) → IsReadPlain ctx.word p → plain_faults ctx around p w [] ≡ [] → Here w →
        Ends (behind_plain ctx p w) → Holds P (plain_items ctx p w)
    plain_holds around (From first after s) w r e i z = behind_notes (Before first) (statement_items ctx s w) (statement_holds around first s w r e i z)

    statement_holds : (around : Around) (first : ℕ) (s : Statement) (w : Walk) → IsReadStatement ctx.word s →
        statement_faults ctx around first s w [] ≡ [] → Here w → Ends (statements.behind_statement ctx s w)
        → Holds P (statement_items ctx s w)
    statement_holds around first Null w r e i z = hold_none P
    statement_holds around first (Evaluate t) w r e i z =
        let x = item.Evaluate (dropped_at (env_at ctx w) t) in
        hold_one P x (hold_as P x _ (tree-Evaluate (dropped_at (env_at ctx w) t)) (c.evaluates w t i r e))
    statement_holds around first (If t b) w r e i z =
        let p = if_parts ctx around w first t b e in
        let a = body_items ctx b w in
        let v = value_at (env_at ctx w) t in
        hold_one P (item.If (test.Source v) a []) (hold_as P _ _ (tree-If (test.Source v) a [] ∙ ap (λ x. tree.If x (trees_of a) (trees_of [])) (test-Source v))
        (c.ifs w t (trees_of a) (trees_of []) i r.0 p.0, body_holds around b w r.1 p.1 i z, hold_none P))
    statement_holds around first (IfElse t b k) w r e i z =
        let p = if_else_parts ctx around w first t b k e in
        let u = behind_body ctx b w in
        let a = body_items ctx b w in
        let d = body_items ctx k u in
        let v = value_at (env_at ctx w) t in
        let g = begins_before u.slots (behind_body ctx k u).slots final (body_grows ctx Any (λ k d w r e. tt) around k u r.2 p.2) z in
        hold_one P (item.If (test.Source v) a d) (hold_as P _ _ (tree-If (test.Source v) a d ∙ ap (λ x. tree.If x (trees_of a) (trees_of d)) (test-Source v))
        (c.ifs w t (trees_of a) (trees_of d) i r.0 p.0, body_holds around b w r.1 p.1 i g, body_holds around k u r.2 p.2 (body_here b w i) z))
    statement_holds around first (While t b) w r e i z =
        let p = while_parts ctx around w first t b e in
        let a = body_items ctx b w in
        let v = value_at (env_at ctx w) t in
        hold_one P (item.While (test.Source v) a) (hold_as P _ _ (tree-While (test.Source v) a ∙ ap (λ x. tree.While x (trees_of a)) (test-Source v))
        (c.whiles w t (trees_of a) i r.0 p.0, body_holds (in_loop around) b w r.1 p.1 i z))
    statement_holds around first (DoWhile b t) w r e i z =
        let p = do_parts ctx around w first b t e in
        let a = body_items ctx b w in
        let v = value_at (env_at ctx w) t in
        hold_one P (item.Do a (test.Source v)) (hold_as P _ _ (tree-Do a (test.Source v) ∙ ap (tree.Do (trees_of a)) (test-Source v))
        (c.dos w t (trees_of a) i r.1 p.0, body_holds (in_loop around) b w r.0 p.1 i z))
    statement_holds around first (For start t u b) w r e i z =
        let p = for_parts ctx around w first start t u b e in
        let inner = behind_start ctx start (enter w) in
        let env = env_at ctx inner in
        let f = start_items ctx start (enter w) in
        let a = body_items ctx b inner in
        let x = option_map (value_at env) t in
        let y = option_map (dropped_at env) u in
        let g = begins_before inner.slots (behind_body ctx b inner).slots final (body_grows ctx Any (λ k d w r e. tt) (in_loop around) b inner r.3 p.3) z in
        let s = start_holds start (enter w) r.0 p.0 (c.into w.scopes i) g in
        hold_one P (item.For f x y a) (hold_as P _ _ (tree-For f x y a)
        (c.fors w start t u (trees_of a) i s.1 g r.0 r.1 r.2 p.0 p.1 p.2, s.0, body_holds (in_loop around) b inner r.3 p.3 s.1 z))
    statement_holds around first (Switch t b) w r e i z =
        let p = switch_parts ctx around w first t b e in
        let v = value_at (env_at ctx w) t in
        let ss = labels_passed (switch_sections ctx b w) in
        let h = switch_holds P C (switch_sections ctx b w) (sections_hold around b w r.1 p.1 i z) in
        hold_one P (item.Switch (selector.Source v) ss)
        (hold_as P _ _ (tree-Switch (selector.Source v) ss ∙ ap (λ x. tree.Switch x (sections_of ss)) (selector-Source v))
        (c.switches around w t b i r.0 r.1 r.2 p.0 p.1 p.2 h.1, h.0))
    statement_holds around first (Block b) w r e i z =
        let a = body_items ctx b w in
        hold_one P (item.Block a) (hold_as P _ _ (tree-Block a) (c.block (trees_of a), body_holds around b w r e i z))
    statement_holds around first (Goto at) w r e i z =
        let l = number_in ctx.labels (ctx.word at) in
        hold_one P (item.Goto l) (hold_as P _ _ (tree-Goto l)
        (c.gotos at (not_true (has_label ctx.labels (ctx.word at)) (clean_if (not (has_label ctx.labels (ctx.word at))) at 33 [] e).1)))
    statement_holds around first Break w r e i z = hold_one P item.Break (hold_as P _ _ tree-Break c.breaks)
    statement_holds around first Continue w r e i z = hold_one P item.Continue (hold_as P _ _ tree-Continue c.continues)
    statement_holds around first (Return t) w r e i z =
        let x = option_map (value_at (env_at ctx w)) t in
        hold_one P (item.Return x) (hold_as P _ _ (tree-Return x) (c.returns w first t i r e))
    statement_holds around first Unread w r e i z = absurd r

    body_holds : (around : Around) (b : Body) (w : Walk) → IsReadBody ctx.word b → body_faults ctx around b w [] ≡ [] → Here w →
        Ends (behind_body ctx b w) → Holds P (body_items ctx b w)
    body_holds around (Braces first after xs) w r e i z = hold_both P (list_items ctx xs (enter w)) (notes_at ctx (AtEnd first))
        (list_holds around xs (enter w) r e (c.into w.scopes i) z) (notes_hold (AtEnd first))
    body_holds around (Lone first after x) w r e i z = hold_both P (item_items ctx x (enter w)) (notes_at ctx (AtEnd first))
        (item_holds around x (enter w) r e (c.into w.scopes i) z).0 (notes_hold (AtEnd first))

    pub list_holds : (around : Around) (xs : Items) (w : Walk) → AreReadItems ctx.word xs → list_faults ctx around xs w [] ≡ [] → Here w →
        Ends (behind_items ctx xs w) → Holds P (list_items ctx xs w)
    list_holds around NoItem w r e i z = hold_none P
    list_holds around (items.Then x xs) w r e i z =
        let p = list_parts ctx around w x xs e in
        let v = behind_item ctx x w in
        let g = begins_before v.slots (behind_items ctx xs v).slots final (list_grows ctx Any (λ k d w r e. tt) around xs v r.1 p.1) z in
        let h = item_holds around x w r.0 p.0 i g in
        hold_both P (item_items ctx x w) (list_items ctx xs v) h.0 (list_holds around xs v r.1 p.1 h.1 z)

    sections_hold : (around : Around) (b : Body) (w : Walk) → IsReadBody ctx.word b → switch_body_faults ctx (in_switch around) b w [] ≡ [] → Here w →
        Ends (behind_body ctx b w) → SectionsHold P C (switch_sections ctx b w)
    sections_hold around (Braces first after xs) w r e i z =
        subst (SectionsHold P C) (sym (no_front ctx (in_switch around) (Braces first after xs) w e))
        (outside_hold (in_switch around) xs (notes_at ctx (AtEnd first)) (enter w) (notes_hold (AtEnd first)) r e (c.into w.scopes i) z)
    sections_hold around (Lone first after x) w r e i z =
        subst (SectionsHold P C) (sym (no_front ctx (in_switch around) (Lone first after x) w e))
        (lone_holds (in_switch around) x (notes_at ctx (AtEnd first)) (enter w) (notes_hold (AtEnd first)) r e (c.into w.scopes i) z)

    -- in front of the first section
    outside_hold : (around : Around) (xs : Items) (notes : List item.Item) (w : Walk) → Holds P notes → AreReadItems ctx.word xs →
        outside_faults ctx around xs w [] ≡ [] → Here w → Ends (behind_items ctx xs w)
        → SectionsHold P C (sections_from ctx None xs notes w)
    outside_hold around NoItem notes w k r e i z = tt
    outside_hold around (items.Then (Declares first after d) xs) notes w k r e i z = absurd (outside_declares ctx around w first after d xs e)
    outside_hold around (items.Then (States ls p) xs) notes w k r e i z =
        let o = outside_parts ctx around w ls p xs e in
        let s = states_parts ctx around w ls p o.0 in
        let v = behind_plain ctx p w in
        let ps = plain_items ctx p w in
        let g = begins_before v.slots (behind_items ctx xs v).slots final (outside_later ls p xs around w r.1 (has_case ls) o.1) z in
        outside_by ls p xs around w (has_case ls) o.1 (sections_from ctx (begun ctx (env_at ctx w) ls ps) xs notes v) (sections_from ctx None xs notes v)
        (λ q. inside_hold around (beginning ctx w ls ps) xs notes v
        (begun_holds w around.switch ls ps r.0.0 i s.0 (plain_holds around p w r.0.1 s.1 i g)) k r.1 q (plain_here p w i) z)
        (λ q. outside_hold around xs notes v k r.1 q (plain_here p w i) z)

    -- in the sections
    inside_hold : (around : Around) (s : Reading) (xs : Items) (notes : List item.Item) (w : Walk) → ReadingHolds P C (Some s) → Holds P notes →
        AreReadItems ctx.word xs
        → list_faults ctx around xs w [] ≡ [] → Here w → Ends (behind_items ctx xs w) → SectionsHold P C (sections_from ctx (Some s) xs notes w)
    inside_hold around s NoItem notes w h k r e i z = sections_end (Some s) notes h k
    inside_hold around s (items.Then (Declares first after d) xs) notes w h k r e i z =
        let p = list_parts ctx around w (Declares first after d) xs e in
        let v = declared_by ctx d w in
        let g = begins_before v.slots (behind_items ctx xs v).slots final (list_grows ctx Any (λ k d w r e. tt) around xs v r.1 p.1) z in
        let l = locals_hold (kinded ctx.word d) d.names w r.0 p.0 i g in
        let new = notes_at ctx (Before first) ++ locals ctx.word (kinded ctx.word d) d.names w in
        inside_hold around (longer s new) xs notes v
        (extended_holds P C s new h (behind_notes (Before first) (locals ctx.word (kinded ctx.word d) d.names w) l.0)) k r.1 p.1 l.1 z
    inside_hold around s (items.Then (States ls p) xs) notes w h k r e i z =
        let q = list_parts ctx around w (States ls p) xs e in
        let t = states_parts ctx around w ls p q.0 in
        let v = behind_plain ctx p w in
        let env = env_at ctx w in
        let ps = plain_items ctx p w in
        let g = begins_before v.slots (behind_items ctx xs v).slots final (list_grows ctx Any (λ k d w r e. tt) around xs v r.1 q.1) z in
        let m = plain_holds around p w r.0.1 t.1 i g in
        let new = labels_items ctx env ls ++ ps in
        let l = hold_both P (labels_items ctx env ls) ps (labels_hold w around.switch ls r.0.0 i t.0) m in
        sections_by (has_case ls) (Some s) (sections_from ctx (begun ctx env ls ps) xs notes v) (sections_from ctx (extended (Some s) new) xs notes v) h
        (λ b. inside_hold around (beginning ctx w ls ps) xs notes v (begun_holds w around.switch ls ps r.0.0 i t.0 m) k r.1 q.1 (plain_here p w i) z)
        (λ b. inside_hold around (longer s new) xs notes v (extended_holds P C s new h l) k r.1 q.1 (plain_here p w i) z)

    lone_holds : (around : Around) (x : Item) (notes : List item.Item) (w : Walk) → Holds P notes → IsReadItem ctx.word x →
        outside_fault ctx around x w [] ≡ [] → Here w → Ends (behind_item ctx x w)
        → SectionsHold P C (sections_at ctx None x notes w)
    lone_holds around (Declares first after d) notes w k r e i z = absurd (none_left _ _ e)
    lone_holds around (States ls p) notes w k r e i z =
        let o = outside_one ctx around w ls p e in
        let s = states_parts ctx around w ls p o.0 in
        let ps = plain_items ctx p w in
        let sections = begun ctx (env_at ctx w) ls ps in
        outside_by ls p NoItem around w (has_case ls) o.1 (statements.sections_of sections notes) []
        (λ q. sections_end sections notes (begun_holds w around.switch ls ps r.0 i s.0 (plain_holds around p w r.1 s.1 i z)) k) (λ q. tt)
