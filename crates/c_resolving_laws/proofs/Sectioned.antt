-- The sections of a switch: each has a label, its last `break` is its end, and none that falls through is empty but the last.
use Rattle.std.proofs.Common.{ℕ, Bool, true, false, not, cond, ◌&&◌, ◌||◌, List, [], ◌∷◌, ◌++◌, map, length, Option, Some, None, option_map, inl, inr, true≢false, arith, ◌≡◌, refl, sym, ap, subst, ◌∙◌}
use Rattle.std.specs.Prelude.{IsTrue, ◌⊎◌, ◌<◌}
use Rattle.c_tree.specs.declared.tree.Item as item
use Rattle.c_tree.specs.declared.tree.Section.{Section}
use Rattle.c_tree.specs.declared.tree.Selector as selector
use Rattle.c_tree.specs.ExpressionTrees.{ExpressionTree}
use Rattle.c_tree.specs.Trees.{Tree, Forest, Sections, NoSection, SectionTree, Nil, join, expression_trees, tree_of, trees_of, section_tree, sections, sections_of}
use Rattle.c_tree.specs.Trees as tree
use Rattle.c_tree.proofs.TreeLaws.{tree-Evaluate, tree-Return, tree-If, tree-While, tree-Do, tree-For, tree-Switch, tree-Block, tree-Local, tree-Break, tree-Continue, tree-Goto, tree-Mark, tree-Note, trees-none, trees-more, trees-append}
use Rattle.c_tree.specs.SectionLabels.{labels_passed}
use Rattle.c_grammar.specs.Items.{Declarator, Declaration, Label, Named, Case, Default, Start, NoStart, StartValue, StartNames, Item, Declares, States, Plain, From, Statement, Null, Evaluate, If, IfElse, While, DoWhile, For, Switch, Block, Goto, Break, Continue, Return, Unread, Body, Braces, Lone, Items, NoItem}
use Rattle.c_grammar.specs.Items as items
use Rattle.c_statements.specs.declared.extents.Kinded.{Kinded}
use Rattle.c_statements.specs.declared.anchors.Anchor.{Anchor}
use Rattle.c_statements.specs.declared.anchors.Anchor.TheVariants.{Before, AtEnd, AtSection}
use Rattle.c_statements.specs.Context.{Context, Walk, env_at, env_in, enter, notes_at, number_in, Around}
use Rattle.c_statements.specs.Declarations.{kinded, declared, local, locals, initial, value_at}
use Rattle.c_statements.specs.Labels.{has_case, mark, labels_items, section_marks, section_cases, has_default}
use Rattle.c_statements.specs.Sections.{Reading, extended, closed}
use Rattle.c_statements.specs.Statements.{behind_start, behind_item, behind_plain, behind_body, behind_items, declared_by, dropped_at, test_at, start_items, begun, a_switch, item_items, plain_items, statement_items, body_items, list_items, switch_sections, sections_from, sections_at}
use Rattle.c_statements.specs.Statements as statements
use Rattle.c_statements.specs.Violations.{switch_body_faults, outside_faults}
use Rattle.c_resolved_defs.specs.Form.{ends_with_break, IsKept, HasNoArrival, AreSections}
use Rattle.c_resolved_defs.specs.Within.{Each}
use Rattle.c_resolving_laws.proofs.Lists.{each_append}
use Rattle.c_resolving_laws.proofs.Parts.{Outside, outside_declares, outside_parts, outside_alone}
use Rattle.c_resolving_laws.proofs.Readings.{longer, beginning, sections_alone}
use Rattle.c_resolving_laws.proofs.SectionTrees.{section_of, ended_tree, has_entry, without_end, passes, with_entries, passed_trees, passed_same, ended_same, sections_are}
use Rattle.c_resolving_laws.proofs.Fronts.{no_front}

-- ---- lists without nested case labels

abbrev IsNoArrival : Tree → Type 0
IsNoArrival (tree.Arrival e) = ⊥
IsNoArrival _ = Unit {0}

no_arrival_then : (x : Tree) (xs : Forest) → IsNoArrival x → HasNoArrival xs → HasNoArrival (tree.Then x xs)
no_arrival_then (tree.Arrival e) xs h k = absurd h
no_arrival_then _ xs h k = k

no_arrival_join : (a b : Forest) → HasNoArrival a → HasNoArrival b → HasNoArrival (join a b)
no_arrival_join Nil b h k = k
no_arrival_join (tree.Then (tree.Arrival e) a) b h k = absurd h
no_arrival_join (tree.Then x a) b h k = no_arrival_join a b h k

no_arrival_cut : (a : Forest) → HasNoArrival a → HasNoArrival (without_end a)
no_arrival_cut Nil h = tt
no_arrival_cut (tree.Then x Nil) h = tt
no_arrival_cut (tree.Then (tree.Arrival e) (tree.Then y a)) h = absurd h
no_arrival_cut (tree.Then x (tree.Then y a)) h = no_arrival_cut (tree.Then y a) h

-- ---- sections on trees

abbrev IsEntered : List ExpressionTree → Bool → Type 0
IsEntered cs d = (0 < length cs) ⊎ IsTrue d

pub record IsRaw (s : SectionTree) : Type 0 where
  pub entered : IsEntered s.cases s.default
  pub ended : ends_with_break s.list ≡ true → s.ends ≡ true
  pub free : HasNoArrival s.list

entered_has : (cs : List ExpressionTree) (d : Bool) → IsEntered cs d → has_entry cs d ≡ true
entered_has [] true h = refl
entered_has [] false (inl h) = absurd (omega arith)
entered_has [] false (inr h) = absurd (true≢false (sym h))
entered_has (c ∷ cs) d h = refl

ended_raw : (cs : List ExpressionTree) (d : Bool) (a : Forest) → IsEntered cs d → HasNoArrival a → IsRaw (ended_tree cs d a)
ended_raw cs d a e h = by (has_entry cs d) (ends_with_break a) (entered_has cs d e) refl
  where
    by : (b f : Bool) → b ≡ true → ends_with_break a ≡ f → IsRaw (cond (b && f) (section_of cs d (without_end a) true) (section_of cs d a false))
    by true true i j = record { entered = e; ended = λ k. refl; free = no_arrival_cut a h }
    by true false i j = record { entered = e; ended = λ k. absurd (true≢false (sym k ∙ j)); free = h }
    by false f i j = absurd (true≢false (sym i))

more_entered : (cs ds : List ExpressionTree) (d f : Bool) → IsEntered ds f → IsEntered (cs ++ ds) (d || f)
more_entered [] ds true f h = inr refl
more_entered [] ds false f h = h
more_entered (c ∷ cs) ds d f h = inl (omega arith)

is_kept : (a : Forest) (ends : Bool) (c : Sections) → ◌≡◌ {A = Bool} (elim a [ Nil ↦ not ends | tree.Then x xs ↦ false ]) false → IsKept a ends c
is_kept Nil true c e = tt
is_kept Nil false c e = absurd (true≢false e)
is_kept (tree.Then x a) ends c e = tt

passed_by : (cs : List ExpressionTree) (d : Bool) (s : SectionTree) (ts : List SectionTree) (b : Bool) → passes s ≡ b → IsRaw s →
    ((es : List ExpressionTree) (e : Bool) → AreSections (sections (passed_trees es e ts)))
    → AreSections (sections (elim b [ true ↦ passed_trees (cs ++ s.cases) (d || s.default) ts | false ↦ with_entries cs d s ∷ passed_trees [] false ts ]))
passed_by cs d s ts true e r f = f (cs ++ s.cases) (d || s.default)
passed_by cs d s ts false e r f = (
  more_entered cs s.cases d s.default r.entered,
  r.ended,
  is_kept s.list s.ends (sections (passed_trees [] false ts)) e,
  r.free,
  f [] false,
)

last_kept : (a : Forest) (ends : Bool) → IsKept a ends NoSection
last_kept Nil true = tt
last_kept Nil false = tt
last_kept (tree.Then x a) ends = tt

passed_are : (cs : List ExpressionTree) (d : Bool) (ts : List SectionTree) → Each IsRaw ts → AreSections (sections (passed_trees cs d ts))
passed_are cs d [] h = tt
passed_are cs d (s ∷ []) h = (more_entered cs s.cases d s.default h.0.entered, h.0.ended, last_kept s.list s.ends, h.0.free, tt)
passed_are cs d (s ∷ t ∷ ts) h = passed_by cs d s (t ∷ ts) (passes s) refl h.0 (λ es e. passed_are es e (t ∷ ts) h.1)

-- ---- sections as they are read

module _ (ctx : Context) where
  abbrev Free : List item.Item → Type 0
  Free xs = HasNoArrival (trees_of xs)

  free_none : Free []
  free_none = subst HasNoArrival (sym trees-none) tt

  free_both : (xs ys : List item.Item) → Free xs → Free ys → Free (xs ++ ys)
  free_both xs ys h k = subst HasNoArrival (sym (trees-append xs ys)) (no_arrival_join (trees_of xs) (trees_of ys) h k)

  free_more : (x : item.Item) (xs : List item.Item) (t : Tree) → tree_of x ≡ t → IsNoArrival t → Free xs → Free (x ∷ xs)
  free_more x xs t e h k = subst HasNoArrival (sym (trees-more x xs ∙ ap (λ z. tree.Then z (trees_of xs)) e)) (no_arrival_then t (trees_of xs) h k)

  free_one : (x : item.Item) (t : Tree) → tree_of x ≡ t → IsNoArrival t → Free (x ∷ [])
  free_one x t e h = free_more x [] t e h free_none

  free_list : (bs : List (List ℕ)) → Free (map item.Note bs)
  free_list [] = free_none
  free_list (b ∷ bs) = free_more (item.Note b) (map item.Note bs) (tree.Note b) (tree-Note b) tt (free_list bs)

  free_notes : (a : Anchor) → Free (notes_at ctx a)
  free_notes a = free_list (ctx.notes a)

  behind_notes : (a : Anchor) (xs : List item.Item) → Free xs → Free (notes_at ctx a ++ xs)
  behind_notes a xs h = free_both (notes_at ctx a) xs (free_notes a) h

  free_mark : (at : ℕ) → Free (mark ctx at)
  free_mark at = let l = number_in ctx.labels (ctx.word at) in behind_notes (Before at) (item.Mark l ∷ [])
      (free_one (item.Mark l) (tree.Mark l) (tree-Mark l) tt)

  free_marks : (ls : List Label) → Free (section_marks ctx ls)
  free_marks [] = free_none
  free_marks (Named at after ∷ ls) = free_both (mark ctx at) (section_marks ctx ls) (free_mark at) (free_marks ls)
  free_marks (Case at after t ∷ ls) = free_marks ls
  free_marks (Default at after ∷ ls) = free_marks ls

  -- labels without a case
  free_labels : (w : Walk) (ls : List Label) → has_case ls ≡ false → Free (labels_items ctx (env_at ctx w) ls)
  free_labels w [] e = free_none
  free_labels w (Named at after ∷ ls) e = free_both (mark ctx at) (labels_items ctx (env_at ctx w) ls) (free_mark at) (free_labels w ls e)
  free_labels w (Case at after t ∷ ls) e = absurd (true≢false e)
  free_labels w (Default at after ∷ ls) e = absurd (true≢false e)

  free_locals : (k : Kinded) (ds : List Declarator) (w : Walk) → Free (locals ctx.word k ds w)
  free_locals k [] w = free_none
  free_locals k (d ∷ ds) w =
      let v = declared ctx.word k d w in
      free_more (local ctx.word k d w) (locals ctx.word k ds v) _ (tree-Local (length w.slots) (initial (value_at (env_in ctx.word v)) d.value)) tt
      (free_locals k ds v)

  free_statement : (s : Statement) (w : Walk) → Free (statement_items ctx s w)
  free_statement Null w = free_none
  free_statement (Evaluate t) w = free_one _ _ (tree-Evaluate (dropped_at (env_at ctx w) t)) tt
  free_statement (If t b) w = free_one _ _ (tree-If (test_at (env_at ctx w) t) (body_items ctx b w) []) tt
  free_statement (IfElse t b c) w = free_one _ _ (tree-If (test_at (env_at ctx w) t) (body_items ctx b w) (body_items ctx c (behind_body ctx b w))) tt
  free_statement (While t b) w = free_one _ _ (tree-While (test_at (env_at ctx w) t) (body_items ctx b w)) tt
  free_statement (DoWhile b t) w = free_one _ _ (tree-Do (body_items ctx b w) (test_at (env_at ctx w) t)) tt
  free_statement (For start t u b) w =
      let inner = behind_start ctx start (enter w) in
      let env = env_at ctx inner in
      free_one _ _ (tree-For (start_items ctx start (enter w)) (option_map (value_at env) t) (option_map (dropped_at env) u) (body_items ctx b inner)) tt
  free_statement (Switch t b) w = free_one _ _ (tree-Switch (selector.Source (value_at (env_at ctx w) t)) (labels_passed (switch_sections ctx b w))) tt
  free_statement (Block b) w = free_one _ _ (tree-Block (body_items ctx b w)) tt
  free_statement (Goto at) w = free_one _ _ (tree-Goto (number_in ctx.labels (ctx.word at))) tt
  free_statement Break w = free_one _ _ tree-Break tt
  free_statement Continue w = free_one _ _ tree-Continue tt
  free_statement (Return t) w = free_one _ _ (tree-Return (option_map (value_at (env_at ctx w)) t)) tt
  free_statement Unread w = free_none

  free_plain : (p : Plain) (w : Walk) → Free (plain_items ctx p w)
  free_plain (From first after s) w = behind_notes (Before first) (statement_items ctx s w) (free_statement s w)

  -- ---- readings

  abbrev RawReading : Option Reading → Type 0
  RawReading None = Unit {0}
  RawReading (Some r) = IsEntered (expression_trees r.cases) r.default × Free r.list

  abbrev RawSections : List Section → Type 0
  RawSections cs = Each (λ s. IsRaw (section_tree s)) cs

  closed_raw : (o : Option Reading) → RawReading o → RawSections (closed o)
  closed_raw None h = tt
  closed_raw (Some r) h = (subst IsRaw (sym (ended_same r)) (ended_raw (expression_trees r.cases) r.default (trees_of r.list) h.0 h.1), tt)

  extended_raw : (r : Reading) (xs : List item.Item) → RawReading (Some r) → Free xs → RawReading (extended (Some r) xs)
  extended_raw r xs h k = (h.0, free_both r.list xs h.1 k)

  end_raw : (o : Option Reading) (notes : List item.Item) → RawReading o → Free notes → RawSections (statements.sections_of o notes)
  end_raw None notes h k = tt
  end_raw (Some r) notes h k = closed_raw (extended (Some r) notes) (extended_raw r notes h k)

  cases_entered : (w : Walk) (ls : List Label) → has_case ls ≡ true → IsEntered (expression_trees (section_cases (env_at ctx w) ls)) (has_default ls)
  cases_entered w [] e = absurd (true≢false (sym e))
  cases_entered w (Named at after ∷ ls) e = cases_entered w ls e
  cases_entered w (Case at after t ∷ ls) e = inl (omega arith)
  cases_entered w (Default at after ∷ ls) e = inr refl

  begun_raw : (w : Walk) (ls : List Label) (xs : List item.Item) → has_case ls ≡ true → Free xs → RawReading (begun ctx (env_at ctx w) ls xs)
  begun_raw w ls xs e h = (
    cases_entered w ls e,
    free_both (notes_at ctx (AtSection (items.first_label ls)) ++ section_marks ctx ls) xs
        (behind_notes (AtSection (items.first_label ls)) (section_marks ctx ls) (free_marks ls)) h,
  )

  inside_raw : (r : Reading) (xs : Items) (notes : List item.Item) (w : Walk) → RawReading (Some r) → Free notes →
      RawSections (sections_from ctx (Some r) xs notes w)
  inside_raw r NoItem notes w h k = end_raw (Some r) notes h k
  inside_raw r (items.Then (Declares first after d) xs) notes w h k =
      let l = locals ctx.word (kinded ctx.word d) d.names w in
      inside_raw (longer r (notes_at ctx (Before first) ++ l)) xs notes (declared_by ctx d w)
      (extended_raw r (notes_at ctx (Before first) ++ l) h (behind_notes (Before first) l (free_locals (kinded ctx.word d) d.names w))) k
  inside_raw r (items.Then (States ls p) xs) notes w h k =
      let ps = plain_items ctx p w in
      let new = labels_items ctx (env_at ctx w) ls ++ ps in
      by (has_case ls) refl
      (λ e. inside_raw (beginning ctx w ls ps) xs notes (behind_plain ctx p w) (begun_raw w ls ps e (free_plain p w)) k)
      (λ e. inside_raw (longer r new) xs notes (behind_plain ctx p w)
      (extended_raw r new h (free_both (labels_items ctx (env_at ctx w) ls) ps (free_labels w ls e) (free_plain p w))) k)
    where
      by : (b : Bool) → has_case ls ≡ b →
          (has_case ls ≡ true → RawSections (sections_from ctx (begun ctx (env_at ctx w) ls (plain_items ctx p w)) xs notes (behind_plain ctx p w)))
          → (has_case ls ≡ false → RawSections (sections_from ctx (extended (Some r) (labels_items ctx (env_at ctx w) ls ++ plain_items ctx p w)) xs
          notes (behind_plain ctx p w)))
          → RawSections (elim b [
            | true ↦ closed (Some r) ++ sections_from ctx (begun ctx (env_at ctx w) ls (plain_items ctx p w)) xs notes (behind_plain ctx p w)
            | false ↦ sections_from ctx (extended (Some r) (labels_items ctx (env_at ctx w) ls ++ plain_items ctx p w)) xs notes (behind_plain ctx p w)
          ])
      by true e f g = each_append _ (closed (Some r)) (sections_from ctx (begun ctx (env_at ctx w) ls (plain_items ctx p w)) xs notes
          (behind_plain ctx p w)) (closed_raw (Some r) h) (f e)
      by false e f g = g e

  outside_raw : (around : Around) (xs : Items) (notes : List item.Item) (w : Walk) → Free notes → outside_faults ctx around xs w [] ≡ [] →
      RawSections (sections_from ctx None xs notes w)
  outside_raw around NoItem notes w k e = tt
  outside_raw around (items.Then (Declares first after d) xs) notes w k e = absurd (outside_declares ctx around w first after d xs e)
  outside_raw around (items.Then (States ls p) xs) notes w k e =
      by (has_case ls) refl (outside_parts ctx around w ls p xs e).1
      (λ c. inside_raw (beginning ctx w ls (plain_items ctx p w)) xs notes (behind_plain ctx p w) (begun_raw w ls (plain_items ctx p w) c (free_plain p w)) k)
      (λ o. outside_raw around xs notes (behind_plain ctx p w) k o)
    where
      by : (b : Bool) → has_case ls ≡ b → Outside ctx around w b ls p xs →
          (has_case ls ≡ true → RawSections (sections_from ctx (begun ctx (env_at ctx w) ls (plain_items ctx p w)) xs notes (behind_plain ctx p w)))
          → (outside_faults ctx around xs (behind_plain ctx p w) [] ≡ [] → RawSections (sections_from ctx None xs notes (behind_plain ctx p w)))
          → RawSections (elim b [
            | true ↦ sections_from ctx (begun ctx (env_at ctx w) ls (plain_items ctx p w)) xs notes (behind_plain ctx p w)
            | false ↦ sections_from ctx None xs notes (behind_plain ctx p w)
          ])
      by true c o f g = f c
      by false c o f g = g o.1

  switch_raw : (around : Around) (b : Body) (w : Walk) → switch_body_faults ctx around b w [] ≡ [] → RawSections (switch_sections ctx b w)
  switch_raw around (Braces first after xs) w e = subst RawSections (sym (no_front ctx around (Braces first after xs) w e))
      (outside_raw around xs (notes_at ctx (AtEnd first)) (enter w) (free_notes (AtEnd first)) e)
  switch_raw around (Lone first after x) w e =
      let notes = notes_at ctx (AtEnd first) in
      subst RawSections (sym (no_front ctx around (Lone first after x) w e ∙ sections_alone ctx (enter w) x notes))
      (outside_raw around (items.Then x NoItem) notes (enter w) (free_notes (AtEnd first)) (outside_alone ctx around (enter w) x e))

  raw_trees : (cs : List Section) → RawSections cs → Each IsRaw (map section_tree cs)
  raw_trees [] h = tt
  raw_trees (c ∷ cs) h = (h.0, raw_trees cs h.1)

  -- the sections of a switch
  pub are_sections : (around : Around) (b : Body) (w : Walk) → switch_body_faults ctx around b w [] ≡ [] →
      AreSections (sections_of (labels_passed (switch_sections ctx b w)))
  are_sections around b w e =
      subst AreSections (sym (sections_are (labels_passed (switch_sections ctx b w)) ∙ ap sections (passed_same (switch_sections ctx b w))))
      (passed_are [] false (map section_tree (switch_sections ctx b w)) (raw_trees (switch_sections ctx b w) (switch_raw around b w e)))
