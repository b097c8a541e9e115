-- Numbers that items have, gathered in text order, along the statements that they are made of.
use Rattle.std.proofs.Common.{ℕ, Bool, true, false, not, cond, ◌&&◌, ◌||◌, List, [], ◌∷◌, ◌++◌, append_assoc, map, Option, Some, None, option_map, ◌≡◌, refl, sym, ap, ◌∙◌, true≢false}
use Rattle.std.proofs.lemmas.List.{append-nil}
use Rattle.c_tree.specs.declared.tree.Item as item
use Rattle.c_tree.specs.declared.tree.Section.{Section}
use Rattle.c_tree.specs.declared.tree.Test as test
use Rattle.c_tree.specs.declared.tree.Selector as selector
use Rattle.c_tree.specs.ExpressionTrees.{ExpressionTree}
use Rattle.c_tree.specs.Trees.{Tree, Forest, SectionTree, Nil, join, expression_trees, tree_of, trees_of, section_tree, sections, sections_of}
use Rattle.c_tree.specs.Trees as tree
use Rattle.c_tree.proofs.TreeLaws.{tree-Evaluate, tree-Return, tree-If, tree-While, tree-Do, tree-For, tree-Switch, tree-Block, tree-Break, tree-Continue, tree-Goto, tree-Mark, tree-Arrival, tree-Note, trees-none, trees-more, trees-append}
use Rattle.c_tree.specs.SectionLabels.{labels_passed}
use Rattle.c_grammar.specs.Items.{Declarator, Declaration, Label, Named, Case, Default, Start, NoStart, StartValue, StartNames, Item, Declares, States, Plain, From, Statement, Null, Evaluate, If, IfElse, While, DoWhile, For, Switch, Block, Goto, Break, Continue, Return, Unread, Body, Braces, Lone, Items, NoItem}
use Rattle.c_grammar.specs.Items as items
use Rattle.c_statements.specs.declared.anchors.Anchor.{Anchor}
use Rattle.c_statements.specs.declared.anchors.Anchor.TheVariants.{Before, AtEnd, AtSection}
use Rattle.c_statements.specs.Context.{Context, Walk, env_at, enter, notes_at, number_in, Around, in_loop, in_switch}
use Rattle.c_statements.specs.Declarations.{kinded, locals, value_at, constant_at}
use Rattle.c_statements.specs.Labels.{has_case, mark, labels_items, section_marks}
use Rattle.c_statements.specs.Sections.{Reading, extended, closed}
use Rattle.c_statements.specs.Statements.{behind_start, behind_item, behind_plain, behind_body, behind_items, declared_by, dropped_at, test_at, start_items, begun, a_switch, item_items, plain_items, statement_items, body_items, list_items, switch_sections, sections_from, sections_at}
use Rattle.c_statements.specs.Statements as statements
use Rattle.c_statements.specs.Violations.{is_null, item_faults, plain_faults, statement_faults, body_faults, list_faults, switch_body_faults, outside_faults, outside_fault}
use Rattle.c_resolved_defs.specs.Form.{ends_with_break, gathered, gathered_of, gathered_in}
use Rattle.c_resolving_laws.proofs.SectionTrees.{later_break, section_of, ended_tree, has_entry, without_end, passes, with_entries, passed_trees, passed_same, ended_same, sections_are}
use Rattle.c_resolving_laws.proofs.Lists.{none_left}
use Rattle.c_resolving_laws.proofs.Parts.{states_parts, list_parts, if_parts, if_else_parts, while_parts, do_parts, for_parts, switch_parts, Outside, outside_declares, outside_parts, outside_one}
use Rattle.c_resolving_laws.proofs.Readings.{longer, beginning}
use Rattle.c_resolving_laws.proofs.Fronts.{no_front}

-- a number that no comment, `break` or nested case label has
pub record Gathers (f : Tree → List ℕ) : Type 0 where
  pub note : (bs : List ℕ) → f (tree.Note bs) ≡ []
  pub breaks : f tree.Break ≡ []
  pub arrives : (e : Option ExpressionTree) → f (tree.Arrival e) ≡ []
  pub evaluates : (e : ExpressionTree) → f (tree.Evaluate e) ≡ []
  pub returns : (e : Option ExpressionTree) → f (tree.Return e) ≡ []
  pub continues : f tree.Continue ≡ []
  pub gotos : (l : ℕ) → f (tree.Goto l) ≡ []

empty_left : (xs ys : List ℕ) → xs ≡ [] → xs ++ ys ≡ ys
empty_left xs ys e = ap (λ l. l ++ ys) e

module _ (ctx : Context) (f : Tree → List ℕ) (c : Gathers f) where
  -- of a list of items
  abbrev pub numbers : List item.Item → List ℕ
  numbers xs = gathered f (trees_of xs)

  numbers_none : numbers [] ≡ []
  numbers_none = ap (gathered f) trees-none

  numbers_one : (x : item.Item) (t : Tree) → tree_of x ≡ t → numbers (x ∷ []) ≡ gathered_of f t
  numbers_one x t e = ap (gathered f) (trees-more x []) ∙ (ap (λ l. gathered_of f (tree_of x) ++ l) numbers_none ∙
      (append-nil (gathered_of f (tree_of x)) ∙ ap (gathered_of f) e))

  gathered-join : (a b : Forest) → gathered f (join a b) ≡ gathered f a ++ gathered f b
  gathered-join Nil b = refl
  gathered-join (tree.Then x a) b = ap (λ l. gathered_of f x ++ l) (gathered-join a b) ∙ sym (append_assoc (gathered_of f x) (gathered f a) (gathered f b))

  numbers_both : (xs ys : List item.Item) → numbers (xs ++ ys) ≡ numbers xs ++ numbers ys
  numbers_both xs ys = ap (gathered f) (trees-append xs ys) ∙ gathered-join (trees_of xs) (trees_of ys)

  numbers_two : (xs ys : List item.Item) (a b : List ℕ) → numbers xs ≡ a → numbers ys ≡ b → numbers (xs ++ ys) ≡ a ++ b
  numbers_two xs ys a b e h = numbers_both xs ys ∙ (λ i. e i ++ h i)

  note_numbers : (bs : List (List ℕ)) → numbers (map item.Note bs) ≡ []
  note_numbers [] = numbers_none
  note_numbers (b ∷ bs) = numbers_two (item.Note b ∷ []) (map item.Note bs) [] [] (numbers_one (item.Note b) (tree.Note b) (tree-Note b) ∙ c.note b)
      (note_numbers bs)

  notes_numbers : (a : Anchor) → numbers (notes_at ctx a) ≡ []
  notes_numbers a = note_numbers (ctx.notes a)

  behind_notes : (a : Anchor) (xs : List item.Item) → numbers (notes_at ctx a ++ xs) ≡ numbers xs
  behind_notes a xs = numbers_two (notes_at ctx a) xs [] (numbers xs) (notes_numbers a) refl

  pub before_notes : (xs : List item.Item) (a : Anchor) → numbers (xs ++ notes_at ctx a) ≡ numbers xs
  before_notes xs a = numbers_two xs (notes_at ctx a) (numbers xs) [] refl (notes_numbers a) ∙ append-nil (numbers xs)

  -- ---- of labels

  abbrev pub label_number : ℕ → List ℕ
  label_number at = f (tree.Mark (number_in ctx.labels (ctx.word at)))

  abbrev pub of_labels : List Label → List ℕ
  of_labels [] = []
  of_labels (Named at after ∷ ls) = label_number at ++ of_labels ls
  of_labels (_ ∷ ls) = of_labels ls

  mark_numbers : (at : ℕ) → numbers (mark ctx at) ≡ label_number at
  mark_numbers at = let l = number_in ctx.labels (ctx.word at) in behind_notes (Before at) (item.Mark l ∷ []) ∙ numbers_one (item.Mark l)
      (tree.Mark l) (tree-Mark l)

  labels_numbers : (w : Walk) (ls : List Label) → numbers (labels_items ctx (env_at ctx w) ls) ≡ of_labels ls
  labels_numbers w [] = numbers_none
  labels_numbers w (Named at after ∷ ls) = numbers_two (mark ctx at) (labels_items ctx (env_at ctx w) ls) (label_number at) (of_labels ls)
      (mark_numbers at) (labels_numbers w ls)
  labels_numbers w (Case at after t ∷ ls) =
      let x = item.Arrival (Some (constant_at (env_at ctx w) t)) in
      numbers_two (notes_at ctx (Before at) ++ x ∷ []) (labels_items ctx (env_at ctx w) ls) [] (of_labels ls)
      (behind_notes (Before at) (x ∷ []) ∙ (numbers_one x _ (tree-Arrival (Some (constant_at (env_at ctx w) t))) ∙ c.arrives _)) (labels_numbers w ls)
  labels_numbers w (Default at after ∷ ls) =
      numbers_two (notes_at ctx (Before at) ++ item.Arrival None ∷ []) (labels_items ctx (env_at ctx w) ls) [] (of_labels ls)
      (behind_notes (Before at) (item.Arrival None ∷ []) ∙ (numbers_one (item.Arrival None) _ (tree-Arrival None) ∙ c.arrives None)) (labels_numbers w ls)

  marks_numbers : (ls : List Label) → numbers (section_marks ctx ls) ≡ of_labels ls
  marks_numbers [] = numbers_none
  marks_numbers (Named at after ∷ ls) = numbers_two (mark ctx at) (section_marks ctx ls) (label_number at) (of_labels ls) (mark_numbers at) (marks_numbers ls)
  marks_numbers (Case at after t ∷ ls) = marks_numbers ls
  marks_numbers (Default at after ∷ ls) = marks_numbers ls

  -- ---- of statements

  abbrev pub of_declaration : Declaration → Walk → List ℕ
  of_declaration d w = numbers (locals ctx.word (kinded ctx.word d) d.names w)

  abbrev pub of_start : Start → Walk → List ℕ
  of_start (StartNames d) w = of_declaration d w
  of_start _ w = []

  abbrev mutual
    pub of_item : Item → Walk → List ℕ
    of_item (Declares first after d) w = of_declaration d w
    of_item (States ls p) w = of_labels ls ++ of_plain p w

    pub of_plain : Plain → Walk → List ℕ
    of_plain (From first after s) w = of_statement s w

    pub of_statement : Statement → Walk → List ℕ
    of_statement (If t b) w = of_body b w
    of_statement (IfElse t b k) w = of_body b w ++ of_body k (behind_body ctx b w)
    of_statement (While t b) w = of_body b w
    of_statement (DoWhile b t) w = of_body b w
    of_statement (For start t u b) w = of_start start (enter w) ++ of_body b (behind_start ctx start (enter w))
    of_statement (Switch t b) w = of_body b w
    of_statement (Block b) w = of_body b w
    of_statement _ w = []

    pub of_body : Body → Walk → List ℕ
    of_body (Braces first after xs) w = of_list xs (enter w)
    of_body (Lone first after x) w = of_item x (enter w)

    pub of_list : Items → Walk → List ℕ
    of_list NoItem w = []
    of_list (items.Then x xs) w = of_item x w ++ of_list xs (behind_item ctx x w)

  start_numbers : (start : Start) (w : Walk) → numbers (start_items ctx start w) ≡ of_start start w
  start_numbers NoStart w = numbers_none
  start_numbers (StartValue t) w = let e = dropped_at (env_at ctx w) t in numbers_one (item.Evaluate e) _ (tree-Evaluate e) ∙ c.evaluates _
  start_numbers (StartNames d) w = refl

  -- ---- of sections

  abbrev in_trees : List SectionTree → List ℕ
  in_trees ss = gathered_in f (sections ss)

  abbrev in_sections : List Section → List ℕ
  in_sections ss = in_trees (map section_tree ss)

  in_both : (a b : List Section) → in_sections (a ++ b) ≡ in_sections a ++ in_sections b
  in_both [] b = refl
  in_both (s ∷ a) b = ap (λ l. gathered f (section_tree s).list ++ l) (in_both a b) ∙
      sym (append_assoc (gathered f (section_tree s).list) (in_sections a) (in_sections b))

  cut_numbers : (a : Forest) → ends_with_break a ≡ true → gathered f (without_end a) ≡ gathered f a
  cut_numbers Nil e = refl
  cut_numbers (tree.Then tree.Break Nil) e = sym (ap (λ l. l ++ []) c.breaks)
  cut_numbers (tree.Then x (tree.Then y a)) e = ap (λ l. gathered_of f x ++ l) (cut_numbers (tree.Then y a) (sym (later_break x y a) ∙ e))
  cut_numbers (tree.Then x Nil) e = absurd (true≢false (sym e))

  ended_numbers : (cs : List ExpressionTree) (d : Bool) (a : Forest) → gathered f (ended_tree cs d a).list ≡ gathered f a
  ended_numbers cs d a = by (has_entry cs d) (ends_with_break a) refl
    where
      by : (b e : Bool) → ends_with_break a ≡ e → gathered f
          (cond (b && e) (section_of cs d (without_end a) true) (section_of cs d a false)).list ≡ gathered f a
      by true true h = cut_numbers a h
      by true false h = refl
      by false e h = refl

  closed_numbers : (s : Reading) → in_sections (closed (Some s)) ≡ numbers s.list
  closed_numbers s = ap (λ (t : SectionTree). gathered f t.list ++ []) (ended_same s) ∙
      (append-nil (gathered f (ended_tree (expression_trees s.cases) s.default (trees_of s.list)).list) ∙
      ended_numbers (expression_trees s.cases) s.default (trees_of s.list))

  passing_none : (a : Forest) (ends : Bool) → ◌≡◌ {A = Bool} (elim a [ Nil ↦ not ends | tree.Then x xs ↦ false ]) true → gathered f a ≡ []
  passing_none Nil ends e = refl
  passing_none (tree.Then x a) ends e = absurd (true≢false (sym e))

  passed_by : (cs : List ExpressionTree) (d : Bool) (s : SectionTree) (ss : List SectionTree) (b : Bool) → passes s ≡ b →
      ((es : List ExpressionTree) (e : Bool) → in_trees (passed_trees es e ss) ≡ in_trees ss)
      → in_trees (elim b [
        | true ↦ passed_trees (cs ++ s.cases) (d || s.default) ss
        | false ↦ with_entries cs d s ∷ passed_trees [] false ss
      ]) ≡ gathered f s.list ++ in_trees ss
  passed_by cs d s ss true e h = h (cs ++ s.cases) (d || s.default) ∙ sym (empty_left (gathered f s.list) (in_trees ss) (passing_none s.list s.ends e))
  passed_by cs d s ss false e h = ap (λ l. gathered f s.list ++ l) (h [] false)

  passed_numbers : (cs : List ExpressionTree) (d : Bool) (ss : List SectionTree) → in_trees (passed_trees cs d ss) ≡ in_trees ss
  passed_numbers cs d [] = refl
  passed_numbers cs d (s ∷ []) = refl
  passed_numbers cs d (s ∷ t ∷ ss) = passed_by cs d s (t ∷ ss) (passes s) refl (λ es e. passed_numbers es e (t ∷ ss))

  switch_numbers : (ss : List Section) → gathered_in f (sections_of (labels_passed ss)) ≡ in_sections ss
  switch_numbers ss = ap (gathered_in f) (sections_are (labels_passed ss) ∙ ap sections (passed_same ss)) ∙
      passed_numbers [] false (map section_tree ss)

  begun_numbers : (w : Walk) (ls : List Label) (xs : List item.Item) → numbers (beginning ctx w ls xs).list ≡ of_labels ls ++ numbers xs
  begun_numbers w ls xs =
      numbers_two (notes_at ctx (AtSection (items.first_label ls)) ++ section_marks ctx ls) xs (of_labels ls) (numbers xs)
      (behind_notes (AtSection (items.first_label ls)) (section_marks ctx ls) ∙ marks_numbers ls) refl

  end_numbers : (s : Reading) (notes : List item.Item) → numbers notes ≡ [] → in_sections (statements.sections_of (Some s) notes) ≡ numbers s.list
  end_numbers s notes e = closed_numbers (longer s notes) ∙ (numbers_both s.list notes ∙ (ap (λ l. numbers s.list ++ l) e ∙ append-nil (numbers s.list)))

  -- by whether a statement begins a section
  inside_by : (b : Bool) (s : Reading) (xs ys : List Section) (l : List ℕ) → in_sections xs ≡ l → in_sections ys ≡ numbers s.list ++ l →
      in_sections (elim b [ true ↦ closed (Some s) ++ xs | false ↦ ys ]) ≡ numbers s.list ++ l
  inside_by true s xs ys l h k = in_both (closed (Some s)) xs ∙ (λ i. closed_numbers s i ++ h i)
  inside_by false s xs ys l h k = k

  -- a null statement without labels has none
  null_numbers : (ls : List Label) (p : Plain) (w : Walk) (l : List ℕ) → is_null ls p ≡ true → of_item (States ls p) w ++ l ≡ l
  null_numbers [] (From first after Null) w l e = refl
  null_numbers ls p w l e = absurd (true≢false (sym e))

  outside_by : (around : Around) (w : Walk) (ls : List Label) (p : Plain) (xs : Items) (b : Bool) → Outside ctx around w b ls p xs →
      (ss ts : List Section) (l : List ℕ)
      → (list_faults ctx around xs (behind_plain ctx p w) [] ≡ [] → in_sections ss ≡ of_item (States ls p) w ++ l) →
      (outside_faults ctx around xs (behind_plain ctx p w) [] ≡ [] → in_sections ts ≡ l)
      → in_sections (elim b [ true ↦ ss | false ↦ ts ]) ≡ of_item (States ls p) w ++ l
  outside_by around w ls p xs true o ss ts l h k = h o
  outside_by around w ls p xs false o ss ts l h k = k o.1 ∙ sym (null_numbers ls p w l o.0)

  mutual
    pub item_numbers : (around : Around) (x : Item) (w : Walk) → item_faults ctx around x w [] ≡ [] → numbers (item_items ctx x w) ≡ of_item x w
    item_numbers around (Declares first after d) w e = behind_notes (Before first) (locals ctx.word (kinded ctx.word d) d.names w)
    item_numbers around (States ls p) w e =
        numbers_two (labels_items ctx (env_at ctx w) ls) (plain_items ctx p w) (of_labels ls) (of_plain p w) (labels_numbers w ls)
        (plain_numbers around p w (states_parts ctx around w ls p e).1)

    plain_numbers : (around : Around) (p : Plain) (w : Walk) → plain_faults ctx around p w [] ≡ [] → numbers (plain_items ctx p w) ≡ of_plain p w
    plain_numbers around (From first after s) w e = behind_notes (Before first) (statement_items ctx s w) ∙ statement_numbers around first s w e

    statement_numbers : (around : Around) (first : ℕ) (s : Statement) (w : Walk) → statement_faults ctx around first s w [] ≡ [] →
        numbers (statement_items ctx s w) ≡ of_statement s w
    statement_numbers around first Null w h = numbers_none
    statement_numbers around first (Evaluate t) w h = let e = dropped_at (env_at ctx w) t in numbers_one (item.Evaluate e) _ (tree-Evaluate e) ∙ c.evaluates _
    statement_numbers around first (If t b) w h =
        let x = test.Source (value_at (env_at ctx w) t) in
        let a = body_items ctx b w in
        let n = body_numbers around b w (if_parts ctx around w first t b h).1 in
        numbers_one (item.If x a []) _ (tree-If x a []) ∙ ((λ i. n i ++ numbers_none i) ∙ append-nil (of_body b w))
    statement_numbers around first (IfElse t b k) w h =
        let x = test.Source (value_at (env_at ctx w) t) in
        let u = behind_body ctx b w in
        let p = if_else_parts ctx around w first t b k h in
        let n = body_numbers around b w p.1 in
        let m = body_numbers around k u p.2 in
        numbers_one (item.If x (body_items ctx b w) (body_items ctx k u)) _ (tree-If x (body_items ctx b w) (body_items ctx k u)) ∙ (λ i. n i ++ m i)
    statement_numbers around first (While t b) w h =
        let x = test.Source (value_at (env_at ctx w) t) in
        numbers_one (item.While x (body_items ctx b w)) _ (tree-While x (body_items ctx b w)) ∙
        body_numbers (in_loop around) b w (while_parts ctx around w first t b h).1
    statement_numbers around first (DoWhile b t) w h =
        let x = test.Source (value_at (env_at ctx w) t) in numbers_one (item.Do (body_items ctx b w) x) _ (tree-Do (body_items ctx b w) x) ∙
        body_numbers (in_loop around) b w (do_parts ctx around w first b t h).1
    statement_numbers around first (For start t u b) w h =
        let inner = behind_start ctx start (enter w) in
        let env = env_at ctx inner in
        let s = start_items ctx start (enter w) in
        let x = option_map (value_at env) t in
        let y = option_map (dropped_at env) u in
        let n = body_numbers (in_loop around) b inner (for_parts ctx around w first start t u b h).3 in
        numbers_one (item.For s x y (body_items ctx b inner)) _ (tree-For s x y (body_items ctx b inner)) ∙ (λ i. start_numbers start (enter w) i ++ n i)
    statement_numbers around first (Switch t b) w h =
        let v = selector.Source (value_at (env_at ctx w) t) in
        let ss = switch_sections ctx b w in
        numbers_one (item.Switch v (labels_passed ss)) _ (tree-Switch v (labels_passed ss)) ∙
        (switch_numbers ss ∙ sections_numbers (in_switch around) b w (switch_parts ctx around w first t b h).1)
    statement_numbers around first (Block b) w h = numbers_one (item.Block (body_items ctx b w)) _ (tree-Block (body_items ctx b w)) ∙ body_numbers around b w h
    statement_numbers around first (Goto at) w h = let l = number_in ctx.labels (ctx.word at) in numbers_one (item.Goto l) _ (tree-Goto l) ∙ c.gotos l
    statement_numbers around first Break w h = numbers_one item.Break _ tree-Break ∙ c.breaks
    statement_numbers around first Continue w h = numbers_one item.Continue _ tree-Continue ∙ c.continues
    statement_numbers around first (Return t) w h = let x = option_map (value_at (env_at ctx w)) t in
        numbers_one (item.Return x) _ (tree-Return x) ∙ c.returns _
    statement_numbers around first Unread w h = numbers_none

    body_numbers : (around : Around) (b : Body) (w : Walk) → body_faults ctx around b w [] ≡ [] → numbers (body_items ctx b w) ≡ of_body b w
    body_numbers around (Braces first after xs) w e = before_notes (list_items ctx xs (enter w)) (AtEnd first) ∙ list_numbers around xs (enter w) e
    body_numbers around (Lone first after x) w e = before_notes (item_items ctx x (enter w)) (AtEnd first) ∙ item_numbers around x (enter w) e

    pub list_numbers : (around : Around) (xs : Items) (w : Walk) → list_faults ctx around xs w [] ≡ [] → numbers (list_items ctx xs w) ≡ of_list xs w
    list_numbers around NoItem w e = numbers_none
    list_numbers around (items.Then x xs) w e =
        let v = behind_item ctx x w in
        let p = list_parts ctx around w x xs e in
        numbers_two (item_items ctx x w) (list_items ctx xs v) (of_item x w) (of_list xs v) (item_numbers around x w p.0) (list_numbers around xs v p.1)

    sections_numbers : (around : Around) (b : Body) (w : Walk) → switch_body_faults ctx around b w [] ≡ [] → in_sections (switch_sections ctx b w) ≡ of_body b w
    sections_numbers around (Braces first after xs) w e = ap in_sections (no_front ctx around (Braces first after xs) w e) ∙ outside_numbers around xs
        (notes_at ctx (AtEnd first)) (enter w) (notes_numbers (AtEnd first)) e
    sections_numbers around (Lone first after x) w e = ap in_sections (no_front ctx around (Lone first after x) w e) ∙ lone_numbers around x
        (notes_at ctx (AtEnd first)) (enter w) (notes_numbers (AtEnd first)) e

    outside_numbers : (around : Around) (xs : Items) (notes : List item.Item) (w : Walk) → numbers notes ≡ [] →
        outside_faults ctx around xs w [] ≡ [] → in_sections (sections_from ctx None xs notes w) ≡ of_list xs w
    outside_numbers around NoItem notes w n e = refl
    outside_numbers around (items.Then (Declares first after d) xs) notes w n e = absurd (outside_declares ctx around w first after d xs e)
    outside_numbers around (items.Then (States ls p) xs) notes w n e =
        let q = outside_parts ctx around w ls p xs e in
        let v = behind_plain ctx p w in
        let ps = plain_items ctx p w in
        let m = plain_numbers around p w (states_parts ctx around w ls p q.0).1 in
        outside_by around w ls p xs (has_case ls) q.1 (sections_from ctx (begun ctx (env_at ctx w) ls ps) xs notes v)
        (sections_from ctx None xs notes v) (of_list xs v)
        (λ y. inside_numbers around (beginning ctx w ls ps) xs notes v n y ∙
        ap (λ a. a ++ of_list xs v) (begun_numbers w ls ps ∙ ap (λ a. of_labels ls ++ a) m)) (λ y. outside_numbers around xs notes v n y)

    inside_numbers : (around : Around) (s : Reading) (xs : Items) (notes : List item.Item) (w : Walk) → numbers notes ≡ [] →
        list_faults ctx around xs w [] ≡ [] → in_sections (sections_from ctx (Some s) xs notes w) ≡ numbers s.list ++ of_list xs w
    inside_numbers around s NoItem notes w n e = end_numbers s notes n ∙ sym (append-nil (numbers s.list))
    inside_numbers around s (items.Then (Declares first after d) xs) notes w n e =
        let v = declared_by ctx d w in
        let l = locals ctx.word (kinded ctx.word d) d.names w in
        let new = notes_at ctx (Before first) ++ l in
        inside_numbers around (longer s new) xs notes v n (list_parts ctx around w (Declares first after d) xs e).1
        ∙ (ap (λ a. a ++ of_list xs v) (numbers_both s.list new ∙ ap (λ a. numbers s.list ++ a) (behind_notes (Before first) l)) ∙
        append_assoc (numbers s.list) (numbers l) (of_list xs v))
    inside_numbers around s (items.Then (States ls p) xs) notes w n e =
        let q = list_parts ctx around w (States ls p) xs e in
        let v = behind_plain ctx p w in
        let env = env_at ctx w in
        let ps = plain_items ctx p w in
        let new = labels_items ctx env ls ++ ps in
        let here = of_labels ls ++ of_plain p w in
        let m = plain_numbers around p w (states_parts ctx around w ls p q.0).1 in
        inside_by (has_case ls) s (sections_from ctx (begun ctx env ls ps) xs notes v) (sections_from ctx (extended (Some s) new) xs notes v)
        (here ++ of_list xs v)
        (inside_numbers around (beginning ctx w ls ps) xs notes v n q.1 ∙ ap (λ a. a ++ of_list xs v) (begun_numbers w ls ps ∙ ap (λ a. of_labels ls ++ a) m))
        (inside_numbers around (longer s new) xs notes v n q.1
        ∙ (ap (λ a. a ++ of_list xs v) (numbers_both s.list new ∙ ap (λ a. numbers s.list ++ a)
        (numbers_two (labels_items ctx env ls) ps (of_labels ls) (of_plain p w) (labels_numbers w ls) m)) ∙
        append_assoc (numbers s.list) here (of_list xs v)))

    lone_numbers : (around : Around) (x : Item) (notes : List item.Item) (w : Walk) → numbers notes ≡ [] → outside_fault ctx around x w [] ≡ [] →
        in_sections (sections_at ctx None x notes w) ≡ of_item x w
    lone_numbers around (Declares first after d) notes w n e = absurd (none_left _ _ e)
    lone_numbers around (States ls p) notes w n e =
        let q = outside_one ctx around w ls p e in
        let ps = plain_items ctx p w in
        let here = of_labels ls ++ of_plain p w in
        let s = beginning ctx w ls ps in
        let m = plain_numbers around p w (states_parts ctx around w ls p q.0).1 in
        outside_by around w ls p NoItem (has_case ls) q.1 (statements.sections_of (Some s) notes) [] []
        (λ y. end_numbers s notes n ∙ (begun_numbers w ls ps ∙ (ap (λ a. of_labels ls ++ a) m ∙ sym (append-nil here)))) (λ y. refl)
        ∙ append-nil here
