-- The walk over a body without violations by the constructs around each place: exits and nested case labels have theirs.
use Rattle.std.proofs.Common.{ℕ, Bool, true, false, not, cond, ◌&&◌, ◌||◌, List, [], ◌∷◌, ◌++◌, map, length, Option, Some, None, option_map, ◌≡◌, sym, ap, subst, ◌∙◌}
use Rattle.c_tree.specs.declared.tree.Item as item
use Rattle.c_tree.specs.declared.tree.Section.{Section}
use Rattle.c_tree.specs.declared.tree.Test as test
use Rattle.c_tree.specs.declared.tree.Selector as selector
use Rattle.c_tree.specs.ExpressionTrees.{ExpressionTree}
use Rattle.c_tree.specs.TestTrees.{TestTree, SelectorTree}
use Rattle.c_tree.specs.Trees.{Tree, Forest, SectionTree, Nil, join, expression_trees, tree_of, trees_of, section_tree, sections, sections_of}
use Rattle.c_tree.specs.Trees as tree
use Rattle.c_tree.proofs.TreeLaws.{tree-Evaluate, tree-Return, tree-If, tree-While, tree-Do, tree-For, tree-Switch, tree-Block, tree-Local, tree-Break, tree-Continue, tree-Goto, tree-Mark, tree-Arrival, tree-Note, trees-none, trees-more, trees-append}
use Rattle.c_tree.specs.SectionLabels.{labels_passed}
use Rattle.c_grammar.specs.Items.{Declarator, Declaration, Label, Named, Case, Default, Start, NoStart, StartValue, StartNames, Item, Declares, States, Plain, From, Statement, Null, Evaluate, If, IfElse, While, DoWhile, For, Switch, Block, Goto, Break, Continue, Return, Unread, Body, Braces, Lone, Items, NoItem}
use Rattle.c_grammar.specs.Items as items
use Rattle.c_kinds.specs.Scopes.{fault_if}
use Rattle.c_kinds.specs.Typing.{constant_faults}
use Rattle.c_statements.specs.declared.extents.Kinded.{Kinded}
use Rattle.c_statements.specs.declared.anchors.Anchor.{Anchor}
use Rattle.c_statements.specs.declared.anchors.Anchor.TheVariants.{Before, AtEnd, AtSection}
use Rattle.c_statements.specs.Context.{Context, Walk, env_at, env_in, enter, notes_at, number_in, Around, in_loop, in_switch}
use Rattle.c_statements.specs.Declarations.{kinded, declared, local, locals, initial, value_at, constant_at}
use Rattle.c_statements.specs.Labels.{has_case, mark, label_items, labels_items, section_marks, label_faults, labels_faults}
use Rattle.c_statements.specs.Sections.{Reading, extended, closed}
use Rattle.c_statements.specs.Statements.{behind_start, behind_item, behind_plain, behind_body, behind_items, declared_by, dropped_at, test_at, start_items, begun, a_switch, item_items, plain_items, statement_items, body_items, list_items, switch_sections, sections_from, sections_at}
use Rattle.c_statements.specs.Statements as statements
use Rattle.c_statements.specs.Violations.{item_faults, plain_faults, statement_faults, body_faults, list_faults, switch_body_faults, outside_faults, outside_fault}
use Rattle.c_resolved_defs.specs.Form.{ends_with_break}
use Rattle.c_resolved_defs.specs.Within.{Each}
use Rattle.c_resolving_laws.proofs.Lists.{none_left, clean_if, not_true, each_append}
use Rattle.c_resolving_laws.proofs.Empty.{constant_empty}
use Rattle.c_resolving_laws.proofs.Parts.{parted, labels_parts, states_parts, list_parts, if_parts, if_else_parts, while_parts, do_parts, for_parts, switch_parts, Outside, outside_declares, outside_parts, outside_one}
use Rattle.c_resolving_laws.proofs.Readings.{longer, beginning}
use Rattle.c_resolving_laws.proofs.SectionTrees.{section_of, ended_tree, has_entry, without_end, passes, with_entries, passed_trees, passed_same, ended_same, sections_are}
use Rattle.c_resolving_laws.proofs.Fronts.{no_front}

-- a list of one item
abbrev pub single : Tree → Forest
single x = tree.Then x Nil

-- an item that no construct around it has to do with
abbrev pub IsPlainLeaf : Tree → Type 0
IsPlainLeaf (tree.Evaluate e) = Unit {0}
IsPlainLeaf (tree.Return e) = Unit {0}
IsPlainLeaf (tree.Local k given) = Unit {0}
IsPlainLeaf (tree.Goto l) = Unit {0}
IsPlainLeaf (tree.Mark l) = Unit {0}
IsPlainLeaf (tree.Note bs) = Unit {0}
IsPlainLeaf _ = ⊥

-- a fact of lists, by the constructs around them
pub record Surrounded (R : Around → Forest → Type 0) : Type 0 where
  pub nil : (a : Around) → R a Nil
  pub joined : (a : Around) (x y : Forest) → R a x → R a y → R a (join x y)
  pub cut : (a : Around) (x : Forest) → R a x → R a (without_end x)
  pub leaf : (a : Around) (x : Tree) → IsPlainLeaf x → R a (single x)
  pub ifs : (a : Around) (t : TestTree) (x y : Forest) → R a x → R a y → R a (single (tree.If t x y))
  pub whiles : (a : Around) (t : TestTree) (x : Forest) → R (in_loop a) x → R a (single (tree.While t x))
  pub dos : (a : Around) (t : TestTree) (x : Forest) → R (in_loop a) x → R a (single (tree.Do x t))
  pub fors : (a : Around) (f : Forest) (t u : Option ExpressionTree) (x : Forest) → R a f → R (in_loop a) x → R a (single (tree.For f t u x))
  pub switches : (a : Around) (s : SelectorTree) (ss : List SectionTree) → Each (λ (c : SectionTree). R (in_switch a) c.list) ss →
      R a (single (tree.Switch s (sections ss)))
  pub block : (a : Around) (x : Forest) → R a x → R a (single (tree.Block x))
  pub arrives : (a : Around) (e : Option ExpressionTree) → a.switch ≡ true → R a (single (tree.Arrival e))
  pub breaks : (a : Around) → (a.loop || a.switch) ≡ true → R a (single tree.Break)
  pub continues : (a : Around) → a.loop ≡ true → R a (single tree.Continue)

module _ (ctx : Context) (R : Around → Forest → Type 0) (c : Surrounded R) where
  abbrev pub Has : Around → List item.Item → Type 0
  Has a xs = R a (trees_of xs)

  has_none : (a : Around) → Has a []
  has_none a = subst (R a) (sym trees-none) (c.nil a)

  has_one : (a : Around) (x : item.Item) (t : Tree) → tree_of x ≡ t → R a (single t) → Has a (x ∷ [])
  has_one a x t e h = subst (R a) (sym (trees-more x [] ∙ (λ i. tree.Then (e i) (trees-none i)))) h

  pub has_both : (a : Around) (xs ys : List item.Item) → Has a xs → Has a ys → Has a (xs ++ ys)
  has_both a xs ys h k = subst (R a) (sym (trees-append xs ys)) (c.joined a (trees_of xs) (trees_of ys) h k)

  has_more : (a : Around) (x : item.Item) (xs : List item.Item) (t : Tree) → tree_of x ≡ t → R a (single t) → Has a xs → Has a (x ∷ xs)
  has_more a x xs t e h k = has_both a (x ∷ []) xs (has_one a x t e h) k

  note_list : (a : Around) (bs : List (List ℕ)) → Has a (map item.Note bs)
  note_list a [] = has_none a
  note_list a (b ∷ bs) = has_more a (item.Note b) (map item.Note bs) (tree.Note b) (tree-Note b) (c.leaf a (tree.Note b) tt) (note_list a bs)

  pub has_notes : (a : Around) (x : Anchor) → Has a (notes_at ctx x)
  has_notes a x = note_list a (ctx.notes x)

  behind_notes : (a : Around) (x : Anchor) (xs : List item.Item) → Has a xs → Has a (notes_at ctx x ++ xs)
  behind_notes a x xs h = has_both a (notes_at ctx x) xs (has_notes a x) h

  has_mark : (a : Around) (at : ℕ) → Has a (mark ctx at)
  has_mark a at = let l = number_in ctx.labels (ctx.word at) in behind_notes a (Before at) (item.Mark l ∷ [])
      (has_one a (item.Mark l) (tree.Mark l) (tree-Mark l) (c.leaf a (tree.Mark l) tt))

  has_label_items : (a : Around) (w : Walk) (l : Label) → label_faults (env_at ctx w) a.switch l [] ≡ [] → Has a (label_items ctx (env_at ctx w) l)
  has_label_items a w (Named at after) e = has_mark a at
  has_label_items a w (Case at after t) e =
      let env = env_at ctx w in
      let k = parted (constant_faults env t) (fault_if (not a.switch) at 29) (constant_empty env t) e in
      let x = item.Arrival (Some (constant_at env t)) in
      behind_notes a (Before at) (x ∷ []) (has_one a x _ (tree-Arrival (Some (constant_at env t)))
      (c.arrives a _ (not_true a.switch (clean_if (not a.switch) at 29 [] k.0).1)))
  has_label_items a w (Default at after) e =
      behind_notes a (Before at) (item.Arrival None ∷ []) (has_one a (item.Arrival None) _ (tree-Arrival None)
      (c.arrives a _ (not_true a.switch (clean_if (not a.switch) at 29 [] e).1)))

  has_labels : (a : Around) (w : Walk) (ls : List Label) → labels_faults (env_at ctx w) a.switch ls [] ≡ [] → Has a (labels_items ctx (env_at ctx w) ls)
  has_labels a w [] e = has_none a
  has_labels a w (l ∷ ls) e =
      let p = labels_parts (env_at ctx w) a.switch l ls e in
      has_both a (label_items ctx (env_at ctx w) l) (labels_items ctx (env_at ctx w) ls) (has_label_items a w l p.0) (has_labels a w ls p.1)

  has_marks : (a : Around) (ls : List Label) → Has a (section_marks ctx ls)
  has_marks a [] = has_none a
  has_marks a (Named at after ∷ ls) = has_both a (mark ctx at) (section_marks ctx ls) (has_mark a at) (has_marks a ls)
  has_marks a (Case at after t ∷ ls) = has_marks a ls
  has_marks a (Default at after ∷ ls) = has_marks a ls

  has_locals : (a : Around) (k : Kinded) (ds : List Declarator) (w : Walk) → Has a (locals ctx.word k ds w)
  has_locals a k [] w = has_none a
  has_locals a k (d ∷ ds) w =
      let v = declared ctx.word k d w in
      let given = initial (value_at (env_in ctx.word v)) d.value in
      has_more a (local ctx.word k d w) (locals ctx.word k ds v) _ (tree-Local (length w.slots) given) (c.leaf a _ tt) (has_locals a k ds v)

  has_start : (a : Around) (start : Start) (w : Walk) → Has a (start_items ctx start w)
  has_start a NoStart w = has_none a
  has_start a (StartValue t) w = let e = dropped_at (env_at ctx w) t in has_one a (item.Evaluate e) _ (tree-Evaluate e) (c.leaf a _ tt)
  has_start a (StartNames d) w = has_locals a (kinded ctx.word d) d.names w

  -- ---- sections

  abbrev HasReading : Around → Option Reading → Type 0
  HasReading a None = Unit {0}
  HasReading a (Some s) = Has a s.list

  abbrev HasSections : Around → List Section → Type 0
  HasSections a ss = Each (λ s. R a (section_tree s).list) ss

  has_extended : (a : Around) (s : Reading) (xs : List item.Item) → HasReading a (Some s) → Has a xs → HasReading a (extended (Some s) xs)
  has_extended a s xs h k = has_both a s.list xs h k

  has_ended : (a : Around) (cs : List ExpressionTree) (d : Bool) (x : Forest) → R a x → R a (ended_tree cs d x).list
  has_ended a cs d x h = by (has_entry cs d && ends_with_break x)
    where
      by : (b : Bool) → R a (cond b (section_of cs d (without_end x) true) (section_of cs d x false)).list
      by true = c.cut a x h
      by false = h

  has_closed : (a : Around) (o : Option Reading) → HasReading a o → HasSections a (closed o)
  has_closed a None h = tt
  has_closed a (Some s) h = (
    subst (λ (t : SectionTree). R a t.list) (sym (ended_same s))
        (has_ended a (expression_trees s.cases) s.default (trees_of s.list) h),
    tt,
  )

  passed_by : (a : Around) (cs : List ExpressionTree) (d : Bool) (s : SectionTree) (ss : List SectionTree) (b : Bool) → R a s.list →
      ((es : List ExpressionTree) (e : Bool) → Each (λ (t : SectionTree). R a t.list) (passed_trees es e ss))
      → Each (λ (t : SectionTree). R a t.list)
      (elim b [ true ↦ passed_trees (cs ++ s.cases) (d || s.default) ss | false ↦ with_entries cs d s ∷ passed_trees [] false ss ])
  passed_by a cs d s ss true h f = f (cs ++ s.cases) (d || s.default)
  passed_by a cs d s ss false h f = (h, f [] false)

  has_passed : (a : Around) (cs : List ExpressionTree) (d : Bool) (ss : List SectionTree) → Each (λ (t : SectionTree). R a t.list) ss →
      Each (λ (t : SectionTree). R a t.list) (passed_trees cs d ss)
  has_passed a cs d [] h = tt
  has_passed a cs d (s ∷ []) h = (h.0, tt)
  has_passed a cs d (s ∷ t ∷ ss) h = passed_by a cs d s (t ∷ ss) (passes s) h.0 (λ es e. has_passed a es e (t ∷ ss) h.1)

  has_trees : (a : Around) (ss : List Section) → HasSections a ss → Each (λ (t : SectionTree). R a t.list) (map section_tree ss)
  has_trees a [] h = tt
  has_trees a (s ∷ ss) h = (h.0, has_trees a ss h.1)

  has_switch : (a : Around) (s : SelectorTree) (ss : List Section) → HasSections (in_switch a) ss →
      R a (single (tree.Switch s (sections_of (labels_passed ss))))
  has_switch a s ss h =
      subst (λ x. R a (single (tree.Switch s x))) (sym (sections_are (labels_passed ss) ∙ ap sections (passed_same ss)))
      (c.switches a s (passed_trees [] false (map section_tree ss)) (has_passed (in_switch a) [] false (map section_tree ss) (has_trees (in_switch a) ss h)))

  has_begun : (a : Around) (w : Walk) (ls : List Label) (xs : List item.Item) → Has a xs → HasReading a (begun ctx (env_at ctx w) ls xs)
  has_begun a w ls xs h = has_both a (notes_at ctx (AtSection (items.first_label ls)) ++ section_marks ctx ls) xs
      (behind_notes a (AtSection (items.first_label ls)) (section_marks ctx ls) (has_marks a ls)) h

  has_end : (a : Around) (o : Option Reading) (notes : List item.Item) → HasReading a o → Has a notes → HasSections a (statements.sections_of o notes)
  has_end a None notes h k = tt
  has_end a (Some s) notes h k = has_closed a (extended (Some s) notes) (has_extended a s notes h k)

  inside_by : (a : Around) (b : Bool) (reading : Option Reading) (xs ys : List Section) → HasReading a reading → HasSections a xs → HasSections a ys →
      HasSections a (elim b [ true ↦ closed reading ++ xs | false ↦ ys ])
  inside_by a true reading xs ys h f g = each_append _ (closed reading) xs (has_closed a reading h) f
  inside_by a false reading xs ys h f g = g

  outside_by : (around : Around) (w : Walk) (ls : List Label) (p : Plain) (xs : Items) (b : Bool) → Outside ctx around w b ls p xs → (ss ts : List Section)
      → (list_faults ctx around xs (behind_plain ctx p w) [] ≡ [] → HasSections around ss) →
      (outside_faults ctx around xs (behind_plain ctx p w) [] ≡ [] → HasSections around ts)
      → HasSections around (elim b [ true ↦ ss | false ↦ ts ])
  outside_by around w ls p xs true o ss ts f g = f o
  outside_by around w ls p xs false o ss ts f g = g o.1

  mutual
    pub has_item : (around : Around) (x : Item) (w : Walk) → item_faults ctx around x w [] ≡ [] → Has around (item_items ctx x w)
    has_item around (Declares first after d) w e = behind_notes around (Before first) (locals ctx.word (kinded ctx.word d) d.names w)
        (has_locals around (kinded ctx.word d) d.names w)
    has_item around (States ls p) w e =
        let q = states_parts ctx around w ls p e in
        has_both around (labels_items ctx (env_at ctx w) ls) (plain_items ctx p w) (has_labels around w ls q.0) (has_plain around p w q.1)

    has_plain : (around : Around) (p : Plain) (w : Walk) → plain_faults ctx around p w [] ≡ [] → Has around (plain_items ctx p w)
    has_plain around (From first after s) w e = behind_notes around (Before first) (statement_items ctx s w) (has_statement around first s w e)

    has_statement : (around : Around) (first : ℕ) (s : Statement) (w : Walk) → statement_faults ctx around first s w [] ≡ [] →
        Has around (statement_items ctx s w)
    has_statement around first Null w e = has_none around
    has_statement around first (Evaluate t) w e = let x = dropped_at (env_at ctx w) t in
        has_one around (item.Evaluate x) _ (tree-Evaluate x) (c.leaf around _ tt)
    has_statement around first (If t b) w e =
        let p = if_parts ctx around w first t b e in
        let x = test.Source (value_at (env_at ctx w) t) in
        let a = body_items ctx b w in
        has_one around (item.If x a []) _ (tree-If x a []) (c.ifs around _ (trees_of a) (trees_of []) (has_body around b w p.1) (has_none around))
    has_statement around first (IfElse t b k) w e =
        let p = if_else_parts ctx around w first t b k e in
        let x = test.Source (value_at (env_at ctx w) t) in
        let u = behind_body ctx b w in
        let a = body_items ctx b w in
        let d = body_items ctx k u in
        has_one around (item.If x a d) _ (tree-If x a d) (c.ifs around _ (trees_of a) (trees_of d) (has_body around b w p.1) (has_body around k u p.2))
    has_statement around first (While t b) w e =
        let p = while_parts ctx around w first t b e in
        let x = test.Source (value_at (env_at ctx w) t) in
        let a = body_items ctx b w in
        has_one around (item.While x a) _ (tree-While x a) (c.whiles around _ (trees_of a) (has_body (in_loop around) b w p.1))
    has_statement around first (DoWhile b t) w e =
        let p = do_parts ctx around w first b t e in
        let x = test.Source (value_at (env_at ctx w) t) in
        let a = body_items ctx b w in
        has_one around (item.Do a x) _ (tree-Do a x) (c.dos around _ (trees_of a) (has_body (in_loop around) b w p.1))
    has_statement around first (For start t u b) w e =
        let p = for_parts ctx around w first start t u b e in
        let inner = behind_start ctx start (enter w) in
        let env = env_at ctx inner in
        let f = start_items ctx start (enter w) in
        let a = body_items ctx b inner in
        let x = option_map (value_at env) t in
        let y = option_map (dropped_at env) u in
        has_one around (item.For f x y a) _ (tree-For f x y a)
        (c.fors around (trees_of f) _ _ (trees_of a) (has_start around start (enter w)) (has_body (in_loop around) b inner p.3))
    has_statement around first (Switch t b) w e =
        let p = switch_parts ctx around w first t b e in
        let v = selector.Source (value_at (env_at ctx w) t) in
        let ss = switch_sections ctx b w in
        has_one around (item.Switch v (labels_passed ss)) _ (tree-Switch v (labels_passed ss))
        (has_switch around _ ss (has_sections (in_switch around) b w p.1))
    has_statement around first (Block b) w e = let a = body_items ctx b w in
        has_one around (item.Block a) _ (tree-Block a) (c.block around (trees_of a) (has_body around b w e))
    has_statement around first (Goto at) w e = let l = number_in ctx.labels (ctx.word at) in has_one around (item.Goto l) _ (tree-Goto l) (c.leaf around _ tt)
    has_statement around first Break w e =
        has_one around item.Break _ tree-Break
        (c.breaks around (not_true (around.loop || around.switch) (clean_if (not (around.loop || around.switch)) first 27 [] e).1))
    has_statement around first Continue w e = has_one around item.Continue _ tree-Continue
        (c.continues around (not_true around.loop (clean_if (not around.loop) first 28 [] e).1))
    has_statement around first (Return t) w e = let x = option_map (value_at (env_at ctx w)) t in
        has_one around (item.Return x) _ (tree-Return x) (c.leaf around _ tt)
    has_statement around first Unread w e = has_none around

    has_body : (around : Around) (b : Body) (w : Walk) → body_faults ctx around b w [] ≡ [] → Has around (body_items ctx b w)
    has_body around (Braces first after xs) w e = has_both around (list_items ctx xs (enter w)) (notes_at ctx (AtEnd first))
        (has_list around xs (enter w) e) (has_notes around (AtEnd first))
    has_body around (Lone first after x) w e = has_both around (item_items ctx x (enter w)) (notes_at ctx (AtEnd first))
        (has_item around x (enter w) e) (has_notes around (AtEnd first))

    pub has_list : (around : Around) (xs : Items) (w : Walk) → list_faults ctx around xs w [] ≡ [] → Has around (list_items ctx xs w)
    has_list around NoItem w e = has_none around
    has_list around (items.Then x xs) w e =
        let p = list_parts ctx around w x xs e in
        let v = behind_item ctx x w in
        has_both around (item_items ctx x w) (list_items ctx xs v) (has_item around x w p.0) (has_list around xs v p.1)

    has_sections : (around : Around) (b : Body) (w : Walk) → switch_body_faults ctx around b w [] ≡ [] → HasSections around (switch_sections ctx b w)
    has_sections around (Braces first after xs) w e =
        subst (HasSections around) (sym (no_front ctx around (Braces first after xs) w e))
        (has_outside around xs (notes_at ctx (AtEnd first)) (enter w) (has_notes around (AtEnd first)) e)
    has_sections around (Lone first after x) w e = subst (HasSections around) (sym (no_front ctx around (Lone first after x) w e))
        (has_lone around x (notes_at ctx (AtEnd first)) (enter w) (has_notes around (AtEnd first)) e)

    has_outside : (around : Around) (xs : Items) (notes : List item.Item) (w : Walk) → Has around notes → outside_faults ctx around xs w [] ≡ [] →
        HasSections around (sections_from ctx None xs notes w)
    has_outside around NoItem notes w k e = tt
    has_outside around (items.Then (Declares first after d) xs) notes w k e = absurd (outside_declares ctx around w first after d xs e)
    has_outside around (items.Then (States ls p) xs) notes w k e =
        let o = outside_parts ctx around w ls p xs e in
        let s = states_parts ctx around w ls p o.0 in
        let v = behind_plain ctx p w in
        let ps = plain_items ctx p w in
        outside_by around w ls p xs (has_case ls) o.1 (sections_from ctx (begun ctx (env_at ctx w) ls ps) xs notes v) (sections_from ctx None xs notes v)
        (λ q. has_inside around (beginning ctx w ls ps) xs notes v (has_begun around w ls ps (has_plain around p w s.1)) k q)
        (λ q. has_outside around xs notes v k q)

    has_inside : (around : Around) (r : Reading) (xs : Items) (notes : List item.Item) (w : Walk) → HasReading around (Some r) → Has around notes →
        list_faults ctx around xs w [] ≡ []
        → HasSections around (sections_from ctx (Some r) xs notes w)
    has_inside around r NoItem notes w h k e = has_end around (Some r) notes h k
    has_inside around r (items.Then (Declares first after d) xs) notes w h k e =
        let p = list_parts ctx around w (Declares first after d) xs e in
        let l = locals ctx.word (kinded ctx.word d) d.names w in
        let new = notes_at ctx (Before first) ++ l in
        has_inside around (longer r new) xs notes (declared_by ctx d w)
        (has_extended around r new h (behind_notes around (Before first) l (has_locals around (kinded ctx.word d) d.names w))) k p.1
    has_inside around r (items.Then (States ls p) xs) notes w h k e =
        let q = list_parts ctx around w (States ls p) xs e in
        let s = states_parts ctx around w ls p q.0 in
        let v = behind_plain ctx p w in
        let env = env_at ctx w in
        let ps = plain_items ctx p w in
        let m = has_plain around p w s.1 in
        let new = labels_items ctx env ls ++ ps in
        let l = has_both around (labels_items ctx env ls) ps (has_labels around w ls s.0) m in
        inside_by around (has_case ls) (Some r) (sections_from ctx (begun ctx env ls ps) xs notes v) (sections_from ctx (extended (Some r) new) xs notes v) h
        (has_inside around (beginning ctx w ls ps) xs notes v (has_begun around w ls ps m) k q.1)
        (has_inside around (longer r new) xs notes v (has_extended around r new h l) k q.1)

    has_lone : (around : Around) (x : Item) (notes : List item.Item) (w : Walk) → Has around notes → outside_fault ctx around x w [] ≡ [] →
        HasSections around (sections_at ctx None x notes w)
    has_lone around (Declares first after d) notes w k e = absurd (none_left _ _ e)
    has_lone around (States ls p) notes w k e =
        let o = outside_one ctx around w ls p e in
        let s = states_parts ctx around w ls p o.0 in
        let ps = plain_items ctx p w in
        let sections = begun ctx (env_at ctx w) ls ps in
        outside_by around w ls p NoItem (has_case ls) o.1 (statements.sections_of sections notes) []
        (λ q. has_end around sections notes (has_begun around w ls ps (has_plain around p w s.1)) k) (λ q. tt)
