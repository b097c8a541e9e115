-- The items of statements without jumps.
use Rattle.std.proofs.Common.{ℕ, Bool, true, false, List, [], ◌∷◌, ◌++◌, map, length, Option, Some, None, option_map, ◌≡◌, refl, sym, ap, subst, ◌∙◌, true≢false, cond, ◌||◌}
use Rattle.c_tree.specs.declared.tree.Item as item
use Rattle.c_tree.specs.declared.tree.Selector as selector
use Rattle.c_tree.specs.Everywhere.{EverywhereOf}
use Rattle.c_tree.specs.Trees.{Tree, tree_of, trees_of}
use Rattle.c_tree.specs.Trees as tree
use Rattle.c_tree.proofs.TreeLaws.{tree-Evaluate, tree-Return, tree-If, tree-While, tree-Do, tree-For, tree-Switch, tree-Block, tree-Local, tree-Break, tree-Continue, tree-Mark, tree-Note, trees-none, trees-more}
use Rattle.c_tree.specs.SectionLabels.{labels_passed}
use Rattle.c_grammar.specs.Items.{Declarator, Label, Named, Case, Default, Start, NoStart, StartValue, StartNames, Item, Declares, States, Plain, From, Statement, Null, Evaluate, If, IfElse, While, DoWhile, For, Switch, Block, Goto, Break, Continue, Return, Unread, Body, Braces, Lone, Items, NoItem, Then}
use Rattle.c_grammar.specs.Items as items
use Rattle.c_statements.specs.declared.extents.Kinded.{Kinded}
use Rattle.c_statements.specs.declared.anchors.Anchor.{Anchor}
use Rattle.c_statements.specs.declared.anchors.Anchor.TheVariants.{Before, AtEnd, AtSection}
use Rattle.c_statements.specs.Context.{Context, Walk, env_at, env_in, enter, notes_at, number_in}
use Rattle.c_statements.specs.Declarations.{kinded, declared, local, locals, initial, value_at}
use Rattle.c_statements.specs.Labels.{has_case, mark, labels_items, section_marks}
use Rattle.c_statements.specs.Sections.{Reading, extended, closed, front}
use Rattle.c_statements.specs.Statements as statements
use Rattle.c_statements.specs.Statements.{behind_start, behind_item, behind_plain, behind_body, declared_by, declaration_items, dropped_at, test_at, start_items, begun, item_items, plain_items, statement_items, body_items, list_items, switch_sections, sections_from, sections_at, outside_item, outside_items, begins, is_null}
use Rattle.c_resolving_laws.proofs.Lists.{each_append}
use Rattle.tidy_refusal.specs.FileJumps.{labels_jump, item_jump, plain_jump, statement_jump, body_jump, list_jump, switch_jump, sections_jump, section_jump}
use Rattle.tidy_refusal.proofs.Still.{IsStill, IsStillList}
use Rattle.tidy_refusal.proofs.Sections.{Still, still_both, StillSections, StillReading, closed_still, extended_still, end_still, are_still, front_still, still_if}

some_none : (n : ℕ) → ◌≡◌ {A = Option ℕ} (Some n) None → ⊥
some_none n e = cc

pub still_none : Still []
still_none = subst IsStillList (sym trees-none) tt

still_more : (x : item.Item) (xs : List item.Item) (t : Tree) → tree_of x ≡ t → EverywhereOf IsStill t → Still xs → Still (x ∷ xs)
still_more x xs t e h k = subst IsStillList (sym (trees-more x xs ∙ ap (λ z. tree.Then z (trees_of xs)) e)) (h, k)

still_one : (x : item.Item) (t : Tree) → tree_of x ≡ t → EverywhereOf IsStill t → Still (x ∷ [])
still_one x t e h = still_more x [] t e h still_none

module _ (ctx : Context) where
  still_list : (bs : List (List ℕ)) → Still (map item.Note bs)
  still_list [] = still_none
  still_list (b ∷ bs) = still_more (item.Note b) (map item.Note bs) (tree.Note b) (tree-Note b) tt (still_list bs)

  pub still_notes : (a : Anchor) → Still (notes_at ctx a)
  still_notes a = still_list (ctx.notes a)

  behind_notes : (a : Anchor) (xs : List item.Item) → Still xs → Still (notes_at ctx a ++ xs)
  behind_notes a xs h = still_both (notes_at ctx a) xs (still_notes a) h

  still_mark : (at : ℕ) → Still (mark ctx at)
  still_mark at = let l = number_in ctx.labels (ctx.word at) in behind_notes (Before at) (item.Mark l ∷ [])
      (still_one (item.Mark l) (tree.Mark l) (tree-Mark l) tt)

  still_marks : (ls : List Label) → Still (section_marks ctx ls)
  still_marks [] = still_none
  still_marks (Named at after ∷ ls) = still_both (mark ctx at) (section_marks ctx ls) (still_mark at) (still_marks ls)
  still_marks (Case at after t ∷ ls) = still_marks ls
  still_marks (Default at after ∷ ls) = still_marks ls

  -- labels without a case, or without a jump
  still_names : (w : Walk) (ls : List Label) → has_case ls ≡ false → Still (labels_items ctx (env_at ctx w) ls)
  still_names w [] e = still_none
  still_names w (Named at after ∷ ls) e = still_both (mark ctx at) (labels_items ctx (env_at ctx w) ls) (still_mark at) (still_names w ls e)
  still_names w (Case at after t ∷ ls) e = absurd (true≢false e)
  still_names w (Default at after ∷ ls) e = absurd (true≢false e)

  still_labels : (w : Walk) (ls : List Label) (rest : Option ℕ) → labels_jump ls rest ≡ None → Still (labels_items ctx (env_at ctx w) ls) × (rest ≡ None)
  still_labels w [] rest e = (still_none, e)
  still_labels w (Named at after ∷ ls) rest e = let k = still_labels w ls rest e in
      (still_both (mark ctx at) (labels_items ctx (env_at ctx w) ls) (still_mark at) k.0, k.1)
  still_labels w (Case at after t ∷ ls) rest e = absurd (some_none at e)
  still_labels w (Default at after ∷ ls) rest e = absurd (some_none at e)

  still_locals : (k : Kinded) (ds : List Declarator) (w : Walk) → Still (locals ctx.word k ds w)
  still_locals k [] w = still_none
  still_locals k (d ∷ ds) w =
      let v = declared ctx.word k d w in
      still_more (local ctx.word k d w) (locals ctx.word k ds v) _ (tree-Local (length w.slots) (initial (value_at (env_in ctx.word v)) d.value)) tt
      (still_locals k ds v)

  still_declares : (at : ℕ) (d : items.Declaration) (w : Walk) → Still (notes_at ctx (Before at) ++ declaration_items ctx d w)
  still_declares at d w = behind_notes (Before at) (declaration_items ctx d w) (still_locals (kinded ctx.word d) d.names w)

  still_start : (start : Start) (w : Walk) → Still (start_items ctx start w)
  still_start NoStart w = still_none
  still_start (StartValue t) w = still_one _ _ (tree-Evaluate (dropped_at (env_at ctx w) t)) tt
  still_start (StartNames d) w = still_locals (kinded ctx.word d) d.names w

  begun_still : (w : Walk) (ls : List Label) (xs : List item.Item) → Still xs → StillReading (begun ctx (env_at ctx w) ls xs)
  begun_still w ls xs h =
      still_both (notes_at ctx (AtSection (items.first_label ls)) ++ section_marks ctx ls) xs
      (behind_notes (AtSection (items.first_label ls)) (section_marks ctx ls) (still_marks ls)) h

  -- a statement with a case label begins a section, another one stands in the section before it
  still_by : (o : Option Reading) (ls : List Label) (p : Plain) (xs : Items) (notes : List item.Item) (w : Walk) → StillReading o
      → StillSections (sections_from ctx (begun ctx (env_at ctx w) ls (plain_items ctx p w)) xs notes (behind_plain ctx p w))
      → (has_case ls ≡ false → StillSections (sections_from ctx (extended o (labels_items ctx (env_at ctx w) ls ++ plain_items ctx p w)) xs notes
      (behind_plain ctx p w)))
      → StillSections (sections_from ctx o (Then (States ls p) xs) notes w)
  still_by o ls p xs notes w h f g = by (has_case ls) refl
    where
      by : (b : Bool) → has_case ls ≡ b → StillSections (elim b [
        | true ↦ closed o ++ sections_from ctx (begun ctx (env_at ctx w) ls (plain_items ctx p w)) xs notes (behind_plain ctx p w)
        | false ↦ sections_from ctx (extended o (labels_items ctx (env_at ctx w) ls ++ plain_items ctx p w)) xs notes (behind_plain ctx p w)
      ])
      by true e = each_append _ (closed o) (sections_from ctx (begun ctx (env_at ctx w) ls (plain_items ctx p w)) xs notes (behind_plain ctx p w))
          (closed_still o h) f
      by false e = g e

  -- the one statement of a switch
  still_alone : (ls : List Label) (p : Plain) (notes : List item.Item) (w : Walk) → Still notes → Still (plain_items ctx p w) →
      StillSections (sections_at ctx None (States ls p) notes w)
  still_alone ls p notes w k h = by (has_case ls)
    where
      by : (b : Bool) → StillSections (elim b [
        | true ↦ statements.sections_of (begun ctx (env_at ctx w) ls (plain_items ctx p w)) notes
        | false ↦ statements.sections_of (extended None (labels_items ctx (env_at ctx w) ls ++ plain_items ctx p w)) notes
      ])
      by true = end_still (begun ctx (env_at ctx w) ls (plain_items ctx p w)) notes (begun_still w ls (plain_items ctx p w) h) k
      by false = tt

  -- ---- statements

  mutual
    pub still_item : (x : Item) (w : Walk) (rest : Option ℕ) → item_jump x rest ≡ None → Still (item_items ctx x w) × (rest ≡ None)
    still_item (Declares first after d) w rest e = (still_declares first d w, e)
    still_item (States ls p) w rest e =
        let l = still_labels w ls (plain_jump p rest) e in
        let q = still_plain p w rest l.1 in
        (still_both (labels_items ctx (env_at ctx w) ls) (plain_items ctx p w) l.0 q.0, q.1)

    still_plain : (p : Plain) (w : Walk) (rest : Option ℕ) → plain_jump p rest ≡ None → Still (plain_items ctx p w) × (rest ≡ None)
    still_plain (From first after s) w rest e = let q = still_statement s w rest e in (behind_notes (Before first) (statement_items ctx s w) q.0, q.1)

    still_statement : (s : Statement) (w : Walk) (rest : Option ℕ) → statement_jump s rest ≡ None → Still (statement_items ctx s w) × (rest ≡ None)
    still_statement Null w rest e = (still_none, e)
    still_statement (Evaluate t) w rest e = (still_one _ _ (tree-Evaluate (dropped_at (env_at ctx w) t)) tt, e)
    still_statement (If t b) w rest e =
        let q = still_body b w rest e in
        (still_one _ _ (tree-If (test_at (env_at ctx w) t) (body_items ctx b w) []) (tt, q.0, still_none), q.1)
    still_statement (IfElse t b c) w rest e =
        let p = still_body b w (body_jump c rest) e in
        let q = still_body c (behind_body ctx b w) rest p.1 in
        (still_one _ _ (tree-If (test_at (env_at ctx w) t) (body_items ctx b w) (body_items ctx c (behind_body ctx b w))) (tt, p.0, q.0), q.1)
    still_statement (While t b) w rest e = let q = still_body b w rest e in
        (still_one _ _ (tree-While (test_at (env_at ctx w) t) (body_items ctx b w)) (tt, q.0), q.1)
    still_statement (DoWhile b t) w rest e = let q = still_body b w rest e in
        (still_one _ _ (tree-Do (body_items ctx b w) (test_at (env_at ctx w) t)) (tt, q.0), q.1)
    still_statement (For start t u b) w rest e =
        let inner = behind_start ctx start (enter w) in
        let env = env_at ctx inner in
        let q = still_body b inner rest e in (
          still_one _ _ (tree-For (start_items ctx start (enter w)) (option_map (value_at env) t) (option_map (dropped_at env) u)
              (body_items ctx b inner)) (tt, still_start start (enter w), q.0),
          q.1,
        )
    still_statement (Switch t b) w rest e =
        let q = still_switch b w rest e in (
          still_one _ _ (tree-Switch (selector.Source (value_at (env_at ctx w) t)) (labels_passed (switch_sections ctx b w)))
              (tt, are_still (switch_sections ctx b w) q.0),
          q.1,
        )
    still_statement (Block b) w rest e = let q = still_body b w rest e in (still_one _ _ (tree-Block (body_items ctx b w)) (tt, q.0), q.1)
    still_statement (Goto at) w rest e = absurd (some_none _ e)
    still_statement Break w rest e = (still_one _ _ tree-Break tt, e)
    still_statement Continue w rest e = (still_one _ _ tree-Continue tt, e)
    still_statement (Return t) w rest e = (still_one _ _ (tree-Return (option_map (value_at (env_at ctx w)) t)) tt, e)
    still_statement Unread w rest e = (still_none, e)

    still_body : (b : Body) (w : Walk) (rest : Option ℕ) → body_jump b rest ≡ None → Still (body_items ctx b w) × (rest ≡ None)
    still_body (Braces first after xs) w rest e =
        let q = still_items xs (enter w) rest e in
        (still_both (list_items ctx xs (enter w)) (notes_at ctx (AtEnd first)) q.0 (still_notes (AtEnd first)), q.1)
    still_body (Lone first after x) w rest e =
        let q = still_item x (enter w) rest e in
        (still_both (item_items ctx x (enter w)) (notes_at ctx (AtEnd first)) q.0 (still_notes (AtEnd first)), q.1)

    pub still_items : (xs : Items) (w : Walk) (rest : Option ℕ) → list_jump xs rest ≡ None → Still (list_items ctx xs w) × (rest ≡ None)
    still_items NoItem w rest e = (still_none, e)
    still_items (Then x xs) w rest e =
        let p = still_item x w (list_jump xs rest) e in
        let q = still_items xs (behind_item ctx x w) rest p.1 in
        (still_both (item_items ctx x w) (list_items ctx xs (behind_item ctx x w)) p.0 q.0, q.1)

    still_switch : (b : Body) (w : Walk) (rest : Option ℕ) → switch_jump b rest ≡ None → StillSections (switch_sections ctx b w) × (rest ≡ None)
    still_switch (Braces first after xs) w rest e =
        let later = still_from None xs (notes_at ctx (AtEnd first)) (enter w) rest tt (still_notes (AtEnd first)) e in
        let ys = outside_items ctx xs (enter w) in (
          each_append _ (front ys) (sections_from ctx None xs (notes_at ctx (AtEnd first)) (enter w))
              (front_still ys (still_outside xs (enter w) rest e)) later.0,
          later.1,
        )
    still_switch (Lone first after x) w rest e =
        let later = still_at x (notes_at ctx (AtEnd first)) (enter w) rest (still_notes (AtEnd first)) e in
        let ys = outside_item ctx x (enter w) in (
          each_append _ (front ys) (sections_at ctx None x (notes_at ctx (AtEnd first)) (enter w)) (front_still ys (still_front x (enter w) rest e).0)
              later.0,
          later.1,
        )

    -- in front of the first section
    still_outside : (xs : Items) (w : Walk) (rest : Option ℕ) → sections_jump xs rest ≡ None → Still (outside_items ctx xs w)
    still_outside NoItem w rest e = still_none
    still_outside (Then x xs) w rest e =
        let p = still_front x w (sections_jump xs rest) e in
        still_if (begins x) (outside_item ctx x w ++ outside_items ctx xs (behind_item ctx x w))
        (still_both (outside_item ctx x w) (outside_items ctx xs (behind_item ctx x w)) p.0 (still_outside xs (behind_item ctx x w) rest p.1))

    still_front : (x : Item) (w : Walk) (rest : Option ℕ) → section_jump x rest ≡ None → Still (outside_item ctx x w) × (rest ≡ None)
    still_front (Declares first after d) w rest e = (still_declares first d w, e)
    still_front (States ls p) w rest e = let q = still_plain p w rest e in (by (has_case ls) refl q.0, q.1)
      where
        by : (b : Bool) → has_case ls ≡ b → Still (plain_items ctx p w) →
            Still (cond (b || is_null ls p) [] (labels_items ctx (env_at ctx w) ls ++ plain_items ctx p w))
        by true c h = still_none
        by false c h = still_if (is_null ls p) (labels_items ctx (env_at ctx w) ls ++ plain_items ctx p w)
            (still_both (labels_items ctx (env_at ctx w) ls) (plain_items ctx p w) (still_names w ls c) h)

    still_from : (o : Option Reading) (xs : Items) (notes : List item.Item) (w : Walk) (rest : Option ℕ) → StillReading o → Still notes →
        sections_jump xs rest ≡ None
        → StillSections (sections_from ctx o xs notes w) × (rest ≡ None)
    still_from o NoItem notes w rest h k e = (end_still o notes h k, e)
    still_from o (Then (Declares first after d) xs) notes w rest h k e =
        let new = notes_at ctx (Before first) ++ declaration_items ctx d w in
        still_from (extended o new) xs notes (declared_by ctx d w) rest (extended_still o new h (still_declares first d w)) k e
    still_from o (Then (States ls p) xs) notes w rest h k e =
        let q = still_plain p w (sections_jump xs rest) e in
        let v = behind_plain ctx p w in
        let fresh = begun ctx (env_at ctx w) ls (plain_items ctx p w) in
        let new = labels_items ctx (env_at ctx w) ls ++ plain_items ctx p w in
        let first = still_from fresh xs notes v rest (begun_still w ls (plain_items ctx p w) q.0) k q.1 in (
          still_by o ls p xs notes w h first.0
              (λ c. (still_from (extended o new) xs notes v rest
              (extended_still o new h (still_both (labels_items ctx (env_at ctx w) ls) (plain_items ctx p w) (still_names w ls c) q.0)) k q.1).0),
          first.1,
        )

    still_at : (x : Item) (notes : List item.Item) (w : Walk) (rest : Option ℕ) → Still notes → section_jump x rest ≡ None →
        StillSections (sections_at ctx None x notes w) × (rest ≡ None)
    still_at (Declares first after d) notes w rest k e = (tt, e)
    still_at (States ls p) notes w rest k e = let q = still_plain p w rest e in (still_alone ls p notes w k q.0, q.1)
