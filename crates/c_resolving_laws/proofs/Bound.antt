-- Each name of a body without violations is bound to what the tree has there, and none is declared twice in a scope.
use Rattle.std.proofs.Common.{ℕ, Bool, true, false, not, cond, ◌&&◌, ◌||◌, List, [], ◌∷◌, ◌++◌, map, length, Option, Some, None, option_map, slice_get, true≢false, ◌≡◌, refl, sym, ap, subst, ◌∙◌}
use Rattle.std.specs.Prelude.{IfSome}
use Rattle.std.specs.Option.{option_map_or}
use Rattle.std.proofs.lemmas.List.{append-nil}
use Rattle.c_tree.specs.declared.tree.Slot.{Slot}
use Rattle.c_tree.specs.declared.tree.Item as item
use Rattle.c_tree.specs.declared.tree.Section.{Section}
use Rattle.c_tree.specs.declared.tree.Test as test
use Rattle.c_tree.specs.declared.tree.Selector as selector
use Rattle.c_tree.specs.ExpressionTrees.{ExpressionTree, expression_tree}
use Rattle.c_tree.specs.Trees.{Tree, Forest, SectionTree, Nil, join, expression_trees, tree_of, trees_of, section_tree, sections, sections_of}
use Rattle.c_tree.specs.Trees as tree
use Rattle.c_tree.proofs.ExpressionLaws.{test-Source, selector-Source}
use Rattle.c_tree.proofs.TreeLaws.{tree-Evaluate, tree-Return, tree-If, tree-While, tree-Do, tree-For, tree-Switch, tree-Block, tree-Local, tree-Break, tree-Continue, tree-Goto, tree-Mark, tree-Arrival, tree-Note}
use Rattle.c_tree.specs.SectionLabels.{labels_passed}
use Rattle.c_grammar.specs.Items.{Declarator, Declaration, Label, Named, Case, Default, Start, NoStart, StartValue, StartNames, Item, Declares, States, Plain, From, Statement, Null, Evaluate, If, IfElse, While, DoWhile, For, Switch, Block, Goto, Break, Continue, Return, Unread, Body, Braces, Lone, Items, NoItem}
use Rattle.c_grammar.specs.Items as items
use Rattle.c_kinds.specs.Scopes.{fault_if}
use Rattle.c_kinds.specs.Typing.{constant_faults}
use Rattle.c_statements.specs.declared.extents.Kinded.{Kinded}
use Rattle.c_statements.specs.declared.anchors.Anchor.{Anchor}
use Rattle.c_statements.specs.declared.anchors.Anchor.TheVariants.{Before, AtEnd, AtSection}
use Rattle.c_statements.specs.Context.{Context, Walk, env_at, env_in, enter, notes_at, number_in, Around, in_loop, in_switch}
use Rattle.c_statements.specs.Declarations.{shape_of, slot_of, kinded, declared, all_declared, local, locals, initial, value_at, constant_at, value_faults, local_faults, locals_faults}
use Rattle.c_statements.specs.Labels.{has_case, mark, label_items, labels_items, section_marks, section_cases, label_faults, labels_faults}
use Rattle.c_statements.specs.Sections.{Reading, extended, closed}
use Rattle.c_statements.specs.Statements.{behind_start, behind_item, behind_plain, behind_body, behind_items, declared_by, dropped_at, test_at, start_items, begun, a_switch, item_items, plain_items, statement_items, body_items, list_items, switch_sections, sections_from, sections_at}
use Rattle.c_statements.specs.Statements as statements
use Rattle.c_statements.specs.Violations.{start_faults, item_faults, plain_faults, statement_faults, body_faults, list_faults, switch_body_faults, outside_faults, outside_fault}
use Rattle.c_resolved_defs.specs.Form.{ends_with_break}
use Rattle.c_resolved_defs.specs.Within.{Each}
use Rattle.c_resolving_laws.proofs.Lists.{none_left, each_append}
use Rattle.c_resolving_laws.specs.Read.{IsReadDeclarator, IsReadLabel, IsReadStart, IsReadItem, IsReadPlain, IsReadStatement, IsReadBody, AreReadItems}
use Rattle.c_resolving_laws.proofs.Empty.{constant_empty}
use Rattle.c_resolving_laws.proofs.Parts.{parted, locals_parts, labels_parts, states_parts, list_parts, if_parts, if_else_parts, while_parts, do_parts, for_parts, switch_parts, Outside, outside_declares, outside_parts, outside_one}
use Rattle.c_resolving_laws.proofs.Readings.{longer, beginning}
use Rattle.c_resolving_laws.proofs.Grown.{Grown, locals_grow, body_grows, list_grows, outside_grows}
use Rattle.c_resolving_laws.proofs.SectionTrees.{later_break, section_of, ended_tree, has_entry, without_end, passes, with_entries, passed_trees, passed_same, ended_same, sections_are}
use Rattle.c_tree.specs.declared.tree.Home.TheVariants as H
use Rattle.c_tree.specs.TextExpressions.{slot_name}
use Rattle.c_kinds.specs.declared.binding.Binding.TheVariants as B
use Rattle.c_resolved_defs.specs.Names.{Names}
use Rattle.c_resolved_defs.specs.Scopes as Scopes
use Rattle.c_resolved_defs.specs.Scopes.{AVariable, NameIsBound, IsBound, IsNew, ItemIsBound, AreBound, SectionsAreBound, behind, behind_all, inside}
use Rattle.c_resolving_laws.proofs.Declared.{knows_declared, slot_there, values_are}
use Rattle.c_resolving_laws.proofs.Empty.{value_empty}
use Rattle.c_resolving_laws.proofs.Parts.{local_parts}
use Rattle.c_resolving_laws.proofs.Walk.{Begins, Any, begins_before}
use Rattle.c_resolving_laws.proofs.Walked.{body_scopes, plain_scopes}
use Rattle.c_resolving_laws.proofs.BoundTerms.{nearest_new, nearest_bound, At, at_inside, at_scopes, Binds, binds_none, binds_both, binds_one, value_bound, dropped_bound, constant_bound, values_bound, drops_bound, returned_bound}
use Rattle.c_resolving_laws.proofs.Fronts.{no_front}

module _ (ctx : Context) (n : Names) where
  -- ---- comments and labels

  notes_bind : (ss : List Scopes.Scope) (bs : List (List ℕ)) → Binds ctx n ss ss (map item.Note bs)
  notes_bind ss [] = binds_none ctx n ss
  notes_bind ss (b ∷ bs) = binds_both ctx n ss ss ss (item.Note b ∷ []) (map item.Note bs)
      (binds_one ctx n ss ss (item.Note b) (tree.Note b) (tree-Note b) tt refl) (notes_bind ss bs)

  pub place_binds : (ss : List Scopes.Scope) (a : Anchor) → Binds ctx n ss ss (notes_at ctx a)
  place_binds ss a = notes_bind ss (ctx.notes a)

  behind_notes : (s t : List Scopes.Scope) (a : Anchor) (xs : List item.Item) → Binds ctx n s t xs → Binds ctx n s t (notes_at ctx a ++ xs)
  behind_notes s t a xs h = binds_both ctx n s s t (notes_at ctx a) xs (place_binds s a) h

  mark_binds : (ss : List Scopes.Scope) (at : ℕ) → Binds ctx n ss ss (mark ctx at)
  mark_binds ss at = let l = number_in ctx.labels (ctx.word at) in behind_notes ss ss (Before at) (item.Mark l ∷ [])
      (binds_one ctx n ss ss (item.Mark l) (tree.Mark l) (tree-Mark l) tt refl)

  label_binds : (w : Walk) (ss : List Scopes.Scope) (switch : Bool) (l : Label) → At ctx n w ss → IsReadLabel ctx.word l →
      label_faults (env_at ctx w) switch l [] ≡ [] → Binds ctx n ss ss (label_items ctx (env_at ctx w) l)
  label_binds w ss switch (Named at after) a r e = mark_binds ss at
  label_binds w ss switch (Case at after t) a r e =
      let env = env_at ctx w in
      let k = parted (constant_faults env t) (fault_if (not switch) at 29) (constant_empty env t) e in
      let x = item.Arrival (Some (constant_at env t)) in
      behind_notes ss ss (Before at) (x ∷ []) (binds_one ctx n ss ss x _ (tree-Arrival (Some (constant_at env t))) (constant_bound ctx n w ss t a r k.1) refl)
  label_binds w ss switch (Default at after) a r e = behind_notes ss ss (Before at) (item.Arrival None ∷ [])
      (binds_one ctx n ss ss (item.Arrival None) (tree.Arrival None) (tree-Arrival None) tt refl)

  labels_bind : (w : Walk) (ss : List Scopes.Scope) (switch : Bool) (ls : List Label) → At ctx n w ss → Each (IsReadLabel ctx.word) ls →
      labels_faults (env_at ctx w) switch ls [] ≡ [] → Binds ctx n ss ss (labels_items ctx (env_at ctx w) ls)
  labels_bind w ss switch [] a r e = binds_none ctx n ss
  labels_bind w ss switch (l ∷ ls) a r e =
      let p = labels_parts (env_at ctx w) switch l ls e in
      binds_both ctx n ss ss ss (label_items ctx (env_at ctx w) l) (labels_items ctx (env_at ctx w) ls) (label_binds w ss switch l a r.0 p.0)
      (labels_bind w ss switch ls a r.1 p.1)

  marks_bind : (ss : List Scopes.Scope) (ls : List Label) → Binds ctx n ss ss (section_marks ctx ls)
  marks_bind ss [] = binds_none ctx n ss
  marks_bind ss (Named at after ∷ ls) = binds_both ctx n ss ss ss (mark ctx at) (section_marks ctx ls) (mark_binds ss at) (marks_bind ss ls)
  marks_bind ss (Case at after t ∷ ls) = marks_bind ss ls
  marks_bind ss (Default at after ∷ ls) = marks_bind ss ls

  cases_bound : (w : Walk) (ss : List Scopes.Scope) (switch : Bool) (ls : List Label) → At ctx n w ss → Each (IsReadLabel ctx.word) ls →
      labels_faults (env_at ctx w) switch ls [] ≡ []
      → Each (IsBound n.slots ss) (expression_trees (section_cases (env_at ctx w) ls))
  cases_bound w ss switch [] a r e = tt
  cases_bound w ss switch (Named at after ∷ ls) a r e = cases_bound w ss switch ls a r.1 (labels_parts (env_at ctx w) switch (Named at after) ls e).1
  cases_bound w ss switch (Case at after t ∷ ls) a r e =
      let env = env_at ctx w in
      let p = labels_parts env switch (Case at after t) ls e in
      let k = parted (constant_faults env t) (fault_if (not switch) at 29) (constant_empty env t) p.0 in
      (constant_bound ctx n w ss t a r.0 k.1, cases_bound w ss switch ls a r.1 p.1)
  cases_bound w ss switch (Default at after ∷ ls) a r e = cases_bound w ss switch ls a r.1 (labels_parts (env_at ctx w) switch (Default at after) ls e).1

  -- ---- declarations

  abbrev Ends : Walk → Type 0
  Ends w = Begins w.slots n.slots

  slot_named : (k : Kinded) (d : Declarator) (w : Walk) → Ends (declared ctx.word k d w) → slot_name n.slots (length w.slots) ≡ ctx.word d.name
  slot_named k d w b = ap (λ (o : Option Slot). option_map_or (λ (s : Slot). s.name) o [])
      (ap (λ l. slice_get l (length w.slots)) b.1 ∙ slot_there w.slots b.0 (slot_of (env_in ctx.word w) k d))

  -- behind a declared name
  at_declared : (k : Kinded) (d : Declarator) (w : Walk) (ss : List Scopes.Scope) → At ctx n w ss → local_faults ctx.word k d w [] ≡ [] →
      Ends (declared ctx.word k d w)
      → At ctx n (declared ctx.word k d w) (Scopes.bind (ctx.word d.name) (AVariable (H.Slot (length w.slots))) ss)
  at_declared k d w ss a e b = record {
    knows = knows_declared ctx.word n k d w ss e b a.knows;
    nearest = nearest_bound w.scopes ss (ctx.word d.name) (B.Local (length w.slots) (shape_of k d)) a.nearest (local_parts ctx.word k d w e).new;
  }

  -- a list, and the place behind it
  pub record Leads (ss : List Scopes.Scope) (xs : List item.Item) (w : Walk) : Type 0 where
    pub ss' : List Scopes.Scope
    pub binds : Binds ctx n ss ss' xs
    pub at : At ctx n w ss'

  local_bound : (k : Kinded) (d : Declarator) (w : Walk) (ss : List Scopes.Scope) → At ctx n w ss → IsReadDeclarator ctx.word d →
      (e : local_faults ctx.word k d w [] ≡ []) → Ends (declared ctx.word k d w)
      → Binds ctx n ss (Scopes.bind (ctx.word d.name) (AVariable (H.Slot (length w.slots))) ss) (local ctx.word k d w ∷ [])
  local_bound k d w ss a r e b =
      let v = declared ctx.word k d w in
      let given = initial (value_at (env_in ctx.word v)) d.value in
      let name = slot_named k d w b in
      let p = local_parts ctx.word k d w e in
      let after = at_declared k d w ss a e b in
      let ss' = Scopes.bind (ctx.word d.name) (AVariable (H.Slot (length w.slots))) ss in
      let same : behind n.slots ss (tree.Local (length w.slots) (option_map expression_trees given)) ≡ ss' =
      ap (λ m. Scopes.bind m (AVariable (H.Slot (length w.slots))) ss) name in
      binds_one ctx n ss ss' (local ctx.word k d w) _ (tree-Local (length w.slots) given) (
        subst (λ m. IsNew m ss) (sym name) (nearest_new w.scopes ss (ctx.word d.name) a.nearest p.new),
        subst (λ z. IfSome (option_map expression_trees given) (Each (IsBound n.slots z))) (sym same)
            (values_are ctx.word (value_faults (env_in ctx.word v)) (value_empty (env_in ctx.word v)) (value_at (env_in ctx.word v))
            (IsBound n.slots ss') (λ t rt et. value_bound ctx n v ss' t after rt et) d.value r.value p.values),
      )
      same

  locals_bind : (k : Kinded) (ds : List Declarator) (w : Walk) (ss : List Scopes.Scope) → At ctx n w ss → Each (IsReadDeclarator ctx.word) ds →
      locals_faults ctx.word k ds w [] ≡ [] → Ends (all_declared ctx.word k ds w)
      → Leads ss (locals ctx.word k ds w) (all_declared ctx.word k ds w)
  locals_bind k [] w ss a r e z = record { ss' = ss; binds = binds_none ctx n ss; at = a }
  locals_bind k (d ∷ ds) w ss a r e z =
      let p = locals_parts ctx.word k d ds w e in
      let v = declared ctx.word k d w in
      let b = begins_before v.slots (all_declared ctx.word k ds v).slots n.slots (locals_grow ctx Any (λ k d w r e. tt) k ds v r.1 p.1) z in
      let mid = Scopes.bind (ctx.word d.name) (AVariable (H.Slot (length w.slots))) ss in
      let rest = locals_bind k ds v mid (at_declared k d w ss a p.0 b) r.1 p.1 z in
      record {
        ss' = rest.ss';
        binds = binds_both ctx n ss mid rest.ss' (local ctx.word k d w ∷ []) (locals ctx.word k ds v)
            (local_bound k d w ss a r.0 p.0 b) rest.binds;
        at = rest.at;
      }

  start_binds : (start : Start) (w : Walk) (ss : List Scopes.Scope) → At ctx n w ss → IsReadStart ctx.word start → start_faults ctx start w [] ≡ [] →
      Ends (behind_start ctx start w) → Leads ss (start_items ctx start w) (behind_start ctx start w)
  start_binds NoStart w ss a r e z = record { ss' = ss; binds = binds_none ctx n ss; at = a }
  start_binds (StartValue t) w ss a r e z =
      let x = dropped_at (env_at ctx w) t in record {
        ss' = ss;
        binds = binds_one ctx n ss ss (item.Evaluate x) _ (tree-Evaluate x)
            (dropped_bound ctx n w ss t a r e) refl;
        at = a;
      }
  start_binds (StartNames d) w ss a r e z = locals_bind (kinded ctx.word d) d.names w ss a r e z

  -- ---- sections

  abbrev pub TreesBound : List Scopes.Scope → List SectionTree → Type 0
  TreesBound ss [] = Unit {0}
  TreesBound ss (s ∷ ts) = Each (IsBound n.slots ss) s.cases × AreBound n.slots ss s.list × TreesBound (behind_all n.slots ss s.list) ts

  abbrev pub SectionsBound : List Scopes.Scope → List Section → Type 0
  SectionsBound ss cs = TreesBound ss (map section_tree cs)

  -- a section that is being read: its scopes at its beginning, and by now
  abbrev pub ReadingBound : List Scopes.Scope → List Scopes.Scope → Reading → Type 0
  ReadingBound s t r = Each (IsBound n.slots s) (expression_trees r.cases) × Binds ctx n s t r.list

  extended_bound : (s t u : List Scopes.Scope) (r : Reading) (xs : List item.Item) → ReadingBound s t r → Binds ctx n t u xs → ReadingBound s u (longer r xs)
  extended_bound s t u r xs h k = (h.0, binds_both ctx n s t u r.list xs h.1 k)

  cut_bound : (ss : List Scopes.Scope) (a : Forest) → AreBound n.slots ss a → AreBound n.slots ss (without_end a)
  cut_bound ss Nil h = tt
  cut_bound ss (tree.Then x Nil) h = tt
  cut_bound ss (tree.Then x (tree.Then y a)) h = (h.0, cut_bound (behind n.slots ss x) (tree.Then y a) h.1)

  cut_behind : (ss : List Scopes.Scope) (a : Forest) → ends_with_break a ≡ true → behind_all n.slots ss (without_end a) ≡ behind_all n.slots ss a
  cut_behind ss Nil e = refl
  cut_behind ss (tree.Then tree.Break Nil) e = refl
  cut_behind ss (tree.Then x (tree.Then y a)) e = cut_behind (behind n.slots ss x) (tree.Then y a) (sym (later_break x y a) ∙ e)
  cut_behind ss (tree.Then x Nil) e = absurd (true≢false (sym e))

  -- a finished section, and those behind it
  ended_bound : (s t : List Scopes.Scope) (cs : List ExpressionTree) (d : Bool) (a : Forest) (more : List SectionTree) → Each (IsBound n.slots s) cs →
      AreBound n.slots s a → behind_all n.slots s a ≡ t → TreesBound t more
      → TreesBound s (ended_tree cs d a ∷ more)
  ended_bound s t cs d a more c h e m = by (has_entry cs d) (ends_with_break a) refl
    where
      by : (b f : Bool) → ends_with_break a ≡ f → TreesBound s (cond (b && f) (section_of cs d (without_end a) true) (section_of cs d a false) ∷ more)
      by true true k = (c, cut_bound s a h, subst (λ z. TreesBound z more) (sym (cut_behind s a k ∙ e)) m)
      by true false k = (c, h, subst (λ z. TreesBound z more) (sym e) m)
      by false f k = (c, h, subst (λ z. TreesBound z more) (sym e) m)

  closed_bound : (s t : List Scopes.Scope) (r : Reading) (more : List Section) → ReadingBound s t r → SectionsBound t more →
      SectionsBound s (closed (Some r) ++ more)
  closed_bound s t r more h m =
      subst (λ x. TreesBound s (x ∷ map section_tree more)) (sym (ended_same r))
      (ended_bound s t (expression_trees r.cases) r.default (trees_of r.list) (map section_tree more) h.0 h.1.bound h.1.behind_it m)

  passing_behind : (ss : List Scopes.Scope) (a : Forest) (ends : Bool) → ◌≡◌ {A = Bool} (elim a [ Nil ↦ not ends | tree.Then x xs ↦ false ]) true →
      behind_all n.slots ss a ≡ ss
  passing_behind ss Nil ends e = refl
  passing_behind ss (tree.Then x a) ends e = absurd (true≢false (sym e))

  passed_by : (ss : List Scopes.Scope) (cs : List ExpressionTree) (d : Bool) (s : SectionTree) (ts : List SectionTree) (b : Bool) → passes s ≡ b →
      Each (IsBound n.slots ss) cs → TreesBound ss (s ∷ ts)
      → ((z : List Scopes.Scope) (es : List ExpressionTree) (e : Bool) → Each (IsBound n.slots z) es → TreesBound z ts → TreesBound z (passed_trees es e ts))
      → TreesBound ss (elim b [ true ↦ passed_trees (cs ++ s.cases) (d || s.default) ts | false ↦ with_entries cs d s ∷ passed_trees [] false ts ])
  passed_by ss cs d s ts true e c h f = f ss (cs ++ s.cases) (d || s.default) (each_append _ cs s.cases c h.0)
      (subst (λ z. TreesBound z ts) (passing_behind ss s.list s.ends e) h.2)
  passed_by ss cs d s ts false e c h f = (each_append _ cs s.cases c h.0, h.1, f (behind_all n.slots ss s.list) [] false tt h.2)

  passed_bound : (ss : List Scopes.Scope) (cs : List ExpressionTree) (d : Bool) (ts : List SectionTree) → Each (IsBound n.slots ss) cs →
      TreesBound ss ts → TreesBound ss (passed_trees cs d ts)
  passed_bound ss cs d [] c h = tt
  passed_bound ss cs d (s ∷ []) c h = (each_append _ cs s.cases c h.0, h.1, tt)
  passed_bound ss cs d (s ∷ t ∷ ts) c h = passed_by ss cs d s (t ∷ ts) (passes s) refl c h (λ z es e k l. passed_bound z es e (t ∷ ts) k l)

  trees_bound : (ss : List Scopes.Scope) (ts : List SectionTree) → TreesBound ss ts → SectionsAreBound n.slots ss (sections ts)
  trees_bound ss [] h = tt
  trees_bound ss (s ∷ ts) h = (h.0, h.1, trees_bound (behind_all n.slots ss s.list) ts h.2)

  switch_bound : (ss : List Scopes.Scope) (cs : List Section) → SectionsBound ss cs → SectionsAreBound n.slots ss (sections_of (labels_passed cs))
  switch_bound ss cs h = subst (SectionsAreBound n.slots ss) (sym (sections_are (labels_passed cs) ∙ ap sections (passed_same cs)))
      (trees_bound ss (passed_trees [] false (map section_tree cs)) (passed_bound ss [] false (map section_tree cs) tt h))

  end_bound : (s t : List Scopes.Scope) (r : Reading) (notes : List item.Item) → ReadingBound s t r →
      ((z : List Scopes.Scope) → Binds ctx n z z notes) → SectionsBound s (statements.sections_of (Some r) notes)
  end_bound s t r notes h k = subst (SectionsBound s) (append-nil (closed (extended (Some r) notes)))
      (closed_bound s t (longer r notes) [] (extended_bound s t t r notes h (k t)) tt)

  begun_bound : (w : Walk) (ss : List Scopes.Scope) (switch : Bool) (ls : List Label) (xs : List item.Item) → At ctx n w ss →
      Each (IsReadLabel ctx.word) ls → labels_faults (env_at ctx w) switch ls [] ≡ [] → Binds ctx n ss ss xs
      → ReadingBound ss ss (beginning ctx w ls xs)
  begun_bound w ss switch ls xs a r e h = (
    cases_bound w ss switch ls a r e,
    binds_both ctx n ss ss ss (notes_at ctx (AtSection (items.first_label ls)) ++ section_marks ctx ls) xs
        (behind_notes ss ss (AtSection (items.first_label ls)) (section_marks ctx ls) (marks_bind ss ls)) h,
  )

  inside_by : (b : Bool) (s t : List Scopes.Scope) (r : Reading) (xs ys : List Section) → ReadingBound s t r → SectionsBound t xs →
      SectionsBound s ys → SectionsBound s (elim b [ true ↦ closed (Some r) ++ xs | false ↦ ys ])
  inside_by true s t r xs ys h f g = closed_bound s t r xs h f
  inside_by false s t r xs ys h f g = g

  outside_by : (around : Around) (w : Walk) (ls : List Label) (p : Plain) (xs : Items) (b : Bool) → Outside ctx around w b ls p xs →
      (s : List Scopes.Scope) (cs ds : List Section)
      → (list_faults ctx around xs (behind_plain ctx p w) [] ≡ [] → SectionsBound s cs) →
      (outside_faults ctx around xs (behind_plain ctx p w) [] ≡ [] → SectionsBound s ds)
      → SectionsBound s (elim b [ true ↦ cs | false ↦ ds ])
  outside_by around w ls p xs true q s cs ds f g = f q
  outside_by around w ls p xs false q s cs ds f g = g q.1

  outside_later : (ls : List Label) (p : Plain) (xs : Items) (around : Around) (w : Walk) → AreReadItems ctx.word xs → (b : Bool) →
      Outside ctx around w b ls p xs
      → Grown Any (behind_plain ctx p w).slots (behind_items ctx xs (behind_plain ctx p w)).slots
  outside_later ls p xs around w r true o = list_grows ctx Any (λ k d w r e. tt) around xs (behind_plain ctx p w) r o
  outside_later ls p xs around w r false o = outside_grows ctx Any (λ k d w r e. tt) around xs (behind_plain ctx p w) r o.1

  mutual
    pub item_binds : (around : Around) (x : Item) (w : Walk) (ss : List Scopes.Scope) → At ctx n w ss → IsReadItem ctx.word x →
        item_faults ctx around x w [] ≡ [] → Ends (behind_item ctx x w)
        → Leads ss (item_items ctx x w) (behind_item ctx x w)
    item_binds around (Declares first after d) w ss a r e z =
        let l = locals_bind (kinded ctx.word d) d.names w ss a r e z in
        record { ss' = l.ss'; binds = behind_notes ss l.ss' (Before first) (locals ctx.word (kinded ctx.word d) d.names w) l.binds; at = l.at }
    item_binds around (States ls p) w ss a r e z =
        let q = states_parts ctx around w ls p e in
        record {
          ss' = ss;
          binds = binds_both ctx n ss ss ss (labels_items ctx (env_at ctx w) ls) (plain_items ctx p w)
              (labels_bind w ss around.switch ls a r.0 q.0) (plain_binds around p w ss a r.1 q.1 z);
          at =
              at_scopes ctx n (behind_plain ctx p w) w ss (plain_scopes ctx p w) a;
        }

    plain_binds : (around : Around) (p : Plain) (w : Walk) (ss : List Scopes.Scope) → At ctx n w ss → IsReadPlain ctx.word p →
        plain_faults ctx around p w [] ≡ [] → Ends (behind_plain ctx p w) → Binds ctx n ss ss (plain_items ctx p w)
    plain_binds around (From first after s) w ss a r e z = behind_notes ss ss (Before first) (statement_items ctx s w)
        (statement_binds around first s w ss a r e z)

    statement_binds : (around : Around) (first : ℕ) (s : Statement) (w : Walk) (ss : List Scopes.Scope) → At ctx n w ss → IsReadStatement ctx.word s →
        statement_faults ctx around first s w [] ≡ [] → Ends (statements.behind_statement ctx s w)
        → Binds ctx n ss ss (statement_items ctx s w)
    statement_binds around first Null w ss a r e z = binds_none ctx n ss
    statement_binds around first (Evaluate t) w ss a r e z = let x = dropped_at (env_at ctx w) t in
        binds_one ctx n ss ss (item.Evaluate x) _ (tree-Evaluate x) (dropped_bound ctx n w ss t a r e) refl
    statement_binds around first (If t b) w ss a r e z =
        let p = if_parts ctx around w first t b e in
        let v = value_at (env_at ctx w) t in
        let k = body_items ctx b w in
        binds_one ctx n ss ss (item.If (test.Source v) k []) _ (tree-If (test.Source v) k [] ∙ ap (λ x. tree.If x (trees_of k) (trees_of [])) (test-Source v))
        (value_bound ctx n w ss t a r.0 p.0, body_bound around b w ss a r.1 p.1 z, (binds_none ctx n (inside ss)).bound) refl
    statement_binds around first (IfElse t b c) w ss a r e z =
        let p = if_else_parts ctx around w first t b c e in
        let v = value_at (env_at ctx w) t in
        let u = behind_body ctx b w in
        let k = body_items ctx b w in
        let l = body_items ctx c u in
        let g = begins_before u.slots (behind_body ctx c u).slots n.slots (body_grows ctx Any (λ k d w r e. tt) around c u r.2 p.2) z in
        binds_one ctx n ss ss (item.If (test.Source v) k l) _ (tree-If (test.Source v) k l ∙ ap (λ x. tree.If x (trees_of k) (trees_of l)) (test-Source v)) (
          value_bound ctx n w ss t a r.0 p.0,
          body_bound around b w ss a r.1 p.1 g,
          body_bound around c u ss (at_scopes ctx n u w ss (body_scopes ctx b w) a) r.2 p.2 z,
        ) refl
    statement_binds around first (While t b) w ss a r e z =
        let p = while_parts ctx around w first t b e in
        let v = value_at (env_at ctx w) t in
        let k = body_items ctx b w in
        binds_one ctx n ss ss (item.While (test.Source v) k) _ (tree-While (test.Source v) k ∙ ap (λ x. tree.While x (trees_of k)) (test-Source v))
        (value_bound ctx n w ss t a r.0 p.0, body_bound (in_loop around) b w ss a r.1 p.1 z) refl
    statement_binds around first (DoWhile b t) w ss a r e z =
        let p = do_parts ctx around w first b t e in
        let v = value_at (env_at ctx w) t in
        let k = body_items ctx b w in
        binds_one ctx n ss ss (item.Do k (test.Source v)) _ (tree-Do k (test.Source v) ∙ ap (tree.Do (trees_of k)) (test-Source v))
        (value_bound ctx n w ss t a r.1 p.0, body_bound (in_loop around) b w ss a r.0 p.1 z) refl
    statement_binds around first (For start t u b) w ss a r e z =
        let p = for_parts ctx around w first start t u b e in
        let inner = behind_start ctx start (enter w) in
        let env = env_at ctx inner in
        let f = start_items ctx start (enter w) in
        let k = body_items ctx b inner in
        let x = option_map (value_at env) t in
        let y = option_map (dropped_at env) u in
        let g = begins_before inner.slots (behind_body ctx b inner).slots n.slots (body_grows ctx Any (λ k d w r e. tt) (in_loop around) b inner r.3 p.3) z in
        let s = start_binds start (enter w) (inside ss) (at_inside ctx n w ss a) r.0 p.0 g in
        let same = sym s.binds.behind_it in
        binds_one ctx n ss ss (item.For f x y k) _ (tree-For f x y k) (
          s.binds.bound,
          subst (λ q. IfSome (option_map expression_tree x) (IsBound n.slots q)) same (values_bound ctx n inner s.ss' t s.at r.1 p.1),
          subst (λ q. IfSome (option_map expression_tree y) (IsBound n.slots q)) same (drops_bound ctx n inner s.ss' u s.at r.2 p.2),
          subst (λ q. AreBound n.slots (inside q) (trees_of k)) same (body_bound (in_loop around) b inner s.ss' s.at r.3 p.3 z),
        ) refl
    statement_binds around first (Switch t b) w ss a r e z =
        let p = switch_parts ctx around w first t b e in
        let v = value_at (env_at ctx w) t in
        let cs = switch_sections ctx b w in
        binds_one ctx n ss ss (item.Switch (selector.Source v) (labels_passed cs))
        _ (tree-Switch (selector.Source v) (labels_passed cs) ∙ ap (λ x. tree.Switch x (sections_of (labels_passed cs))) (selector-Source v))
        (value_bound ctx n w ss t a r.0 p.0, switch_bound (inside ss) cs (sections_bound (in_switch around) b w ss a r.1 p.1 z)) refl
    statement_binds around first (Block b) w ss a r e z = let k = body_items ctx b w in
        binds_one ctx n ss ss (item.Block k) _ (tree-Block k) (body_bound around b w ss a r e z) refl
    statement_binds around first (Goto at) w ss a r e z = let l = number_in ctx.labels (ctx.word at) in
        binds_one ctx n ss ss (item.Goto l) _ (tree-Goto l) tt refl
    statement_binds around first Break w ss a r e z = binds_one ctx n ss ss item.Break _ tree-Break tt refl
    statement_binds around first Continue w ss a r e z = binds_one ctx n ss ss item.Continue _ tree-Continue tt refl
    statement_binds around first (Return t) w ss a r e z = let x = option_map (value_at (env_at ctx w)) t in
        binds_one ctx n ss ss (item.Return x) _ (tree-Return x) (returned_bound ctx n ctx.result w ss first t a r e) refl
    statement_binds around first Unread w ss a r e z = absurd r

    body_bound : (around : Around) (b : Body) (w : Walk) (ss : List Scopes.Scope) → At ctx n w ss → IsReadBody ctx.word b →
        body_faults ctx around b w [] ≡ [] → Ends (behind_body ctx b w) → AreBound n.slots (inside ss) (trees_of (body_items ctx b w))
    body_bound around (Braces first after xs) w ss a r e z =
        let l = list_binds around xs (enter w) (inside ss) (at_inside ctx n w ss a) r e z in
        (binds_both ctx n (inside ss) l.ss' l.ss' (list_items ctx xs (enter w)) (notes_at ctx (AtEnd first)) l.binds (place_binds l.ss' (AtEnd first))).bound
    body_bound around (Lone first after x) w ss a r e z =
        let l = item_binds around x (enter w) (inside ss) (at_inside ctx n w ss a) r e z in
        (binds_both ctx n (inside ss) l.ss' l.ss' (item_items ctx x (enter w)) (notes_at ctx (AtEnd first)) l.binds (place_binds l.ss' (AtEnd first))).bound

    pub list_binds : (around : Around) (xs : Items) (w : Walk) (ss : List Scopes.Scope) → At ctx n w ss → AreReadItems ctx.word xs →
        list_faults ctx around xs w [] ≡ [] → Ends (behind_items ctx xs w) → Leads ss (list_items ctx xs w) (behind_items ctx xs w)
    list_binds around NoItem w ss a r e z = record { ss' = ss; binds = binds_none ctx n ss; at = a }
    list_binds around (items.Then x xs) w ss a r e z =
        let p = list_parts ctx around w x xs e in
        let v = behind_item ctx x w in
        let g = begins_before v.slots (behind_items ctx xs v).slots n.slots (list_grows ctx Any (λ k d w r e. tt) around xs v r.1 p.1) z in
        let h = item_binds around x w ss a r.0 p.0 g in
        let l = list_binds around xs v h.ss' h.at r.1 p.1 z in
        record { ss' = l.ss'; binds = binds_both ctx n ss h.ss' l.ss' (item_items ctx x w) (list_items ctx xs v) h.binds l.binds; at = l.at }

    sections_bound : (around : Around) (b : Body) (w : Walk) (ss : List Scopes.Scope) → At ctx n w ss → IsReadBody ctx.word b →
        switch_body_faults ctx around b w [] ≡ [] → Ends (behind_body ctx b w) → SectionsBound (inside ss) (switch_sections ctx b w)
    sections_bound around (Braces first after xs) w ss a r e z =
        subst (SectionsBound (inside ss)) (sym (no_front ctx around (Braces first after xs) w e))
        (outside_bound around xs (notes_at ctx (AtEnd first)) (enter w) (inside ss) (λ q. place_binds q (AtEnd first)) (at_inside ctx n w ss a) r e z)
    sections_bound around (Lone first after x) w ss a r e z =
        subst (SectionsBound (inside ss)) (sym (no_front ctx around (Lone first after x) w e))
        (lone_bound around x (notes_at ctx (AtEnd first)) (enter w) (inside ss) (λ q. place_binds q (AtEnd first)) (at_inside ctx n w ss a) r e z)

    outside_bound : (around : Around) (xs : Items) (notes : List item.Item) (w : Walk) (s : List Scopes.Scope) →
        ((q : List Scopes.Scope) → Binds ctx n q q notes) → At ctx n w s → AreReadItems ctx.word xs
        → outside_faults ctx around xs w [] ≡ [] → Ends (behind_items ctx xs w) → SectionsBound s (sections_from ctx None xs notes w)
    outside_bound around NoItem notes w s k a r e z = tt
    outside_bound around (items.Then (Declares first after d) xs) notes w s k a r e z = absurd (outside_declares ctx around w first after d xs e)
    outside_bound around (items.Then (States ls p) xs) notes w s k a r e z =
        let q = outside_parts ctx around w ls p xs e in
        let f = states_parts ctx around w ls p q.0 in
        let v = behind_plain ctx p w in
        let ps = plain_items ctx p w in
        let g = begins_before v.slots (behind_items ctx xs v).slots n.slots (outside_later ls p xs around w r.1 (has_case ls) q.1) z in
        let b = at_scopes ctx n v w s (plain_scopes ctx p w) a in
        outside_by around w ls p xs (has_case ls) q.1 s (sections_from ctx (begun ctx (env_at ctx w) ls ps) xs notes v) (sections_from ctx None xs notes v)
        (λ y. inside_bound around (beginning ctx w ls ps) xs notes v s s
        (begun_bound w s around.switch ls ps a r.0.0 f.0 (plain_binds around p w s a r.0.1 f.1 g)) k b r.1 y z)
        (λ y. outside_bound around xs notes v s k b r.1 y z)

    inside_bound : (around : Around) (o : Reading) (xs : Items) (notes : List item.Item) (w : Walk) (s t : List Scopes.Scope) → ReadingBound s t o →
        ((q : List Scopes.Scope) → Binds ctx n q q notes) → At ctx n w t → AreReadItems ctx.word xs
        → list_faults ctx around xs w [] ≡ [] → Ends (behind_items ctx xs w) → SectionsBound s (sections_from ctx (Some o) xs notes w)
    inside_bound around o NoItem notes w s t h k a r e z = end_bound s t o notes h k
    inside_bound around o (items.Then (Declares first after d) xs) notes w s t h k a r e z =
        let q = list_parts ctx around w (Declares first after d) xs e in
        let v = declared_by ctx d w in
        let g = begins_before v.slots (behind_items ctx xs v).slots n.slots (list_grows ctx Any (λ k d w r e. tt) around xs v r.1 q.1) z in
        let l = locals_bind (kinded ctx.word d) d.names w t a r.0 q.0 g in
        let ds = locals ctx.word (kinded ctx.word d) d.names w in
        let new = notes_at ctx (Before first) ++ ds in
        inside_bound around (longer o new) xs notes v s l.ss' (extended_bound s t l.ss' o new h (behind_notes t l.ss' (Before first) ds l.binds)) k
        l.at r.1 q.1 z
    inside_bound around o (items.Then (States ls p) xs) notes w s t h k a r e z =
        let q = list_parts ctx around w (States ls p) xs e in
        let f = states_parts ctx around w ls p q.0 in
        let v = behind_plain ctx p w in
        let env = env_at ctx w in
        let ps = plain_items ctx p w in
        let g = begins_before v.slots (behind_items ctx xs v).slots n.slots (list_grows ctx Any (λ k d w r e. tt) around xs v r.1 q.1) z in
        let m = plain_binds around p w t a r.0.1 f.1 g in
        let new = labels_items ctx env ls ++ ps in
        let l = binds_both ctx n t t t (labels_items ctx env ls) ps (labels_bind w t around.switch ls a r.0.0 f.0) m in
        let b = at_scopes ctx n v w t (plain_scopes ctx p w) a in
        inside_by (has_case ls) s t o (sections_from ctx (begun ctx env ls ps) xs notes v) (sections_from ctx (extended (Some o) new) xs notes v) h
        (inside_bound around (beginning ctx w ls ps) xs notes v t t (begun_bound w t around.switch ls ps a r.0.0 f.0 m) k b r.1 q.1 z)
        (inside_bound around (longer o new) xs notes v s t (extended_bound s t t o new h l) k b r.1 q.1 z)

    lone_bound : (around : Around) (x : Item) (notes : List item.Item) (w : Walk) (ss : List Scopes.Scope) →
        ((q : List Scopes.Scope) → Binds ctx n q q notes) → At ctx n w ss → IsReadItem ctx.word x → outside_fault ctx around x w [] ≡ [] →
        Ends (behind_item ctx x w)
        → SectionsBound ss (sections_at ctx None x notes w)
    lone_bound around (Declares first after d) notes w ss k a r e z = absurd (none_left _ _ e)
    lone_bound around (States ls p) notes w ss k a r e z =
        let q = outside_one ctx around w ls p e in
        let f = states_parts ctx around w ls p q.0 in
        let ps = plain_items ctx p w in
        let o = beginning ctx w ls ps in
        outside_by around w ls p NoItem (has_case ls) q.1 ss (statements.sections_of (Some o) notes) []
        (λ y. end_bound ss ss o notes (begun_bound w ss around.switch ls ps a r.0 f.0 (plain_binds around p w ss a r.1 f.1 z)) k) (λ y. tt)
