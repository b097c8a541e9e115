-- The trees of a list whose sections are in their plain form.
use mathlib.Core.Path.{ap₂}
use Rattle.std.proofs.Common.{◌≡◌, Bool, true, false, not, ◌&&◌, ◌||◌, cond, option_map, List, [], ◌∷◌, ◌++◌, map, refl, sym, ap, subst, ◌∙◌}
use Rattle.c_tree.specs.declared.tree.Expression.{Expression}
use Rattle.c_tree.specs.declared.tree.Item.{Item, Item-F, out-Item, roll-Item, roll-out-Item, fold-roll-Item, ind-Item, map-Item}
use Rattle.c_tree.specs.declared.tree.Item.TheOpen.{Section-F, Evaluate, Return, If, While, Do, For, Switch, Block, Local, Break, Continue, Goto, Mark, Arm, Leap, Land, Arrival, Note}
use Rattle.c_tree.specs.declared.tree.Item.TheVariants.{rolls-Evaluate, rolls-Return, rolls-If, rolls-While, rolls-Do, rolls-For, rolls-Switch, rolls-Block, rolls-Local, rolls-Break, rolls-Continue, rolls-Goto, rolls-Mark, rolls-Arm, rolls-Leap, rolls-Land, rolls-Arrival, rolls-Note}
use Rattle.c_tree.specs.declared.tree.Section.{Section, out-Section, roll-Section, fold-roll-Section}
use Rattle.c_tree.specs.ExpressionTrees.{ExpressionTree, expression_tree}
use Rattle.c_tree.specs.TestTrees.{test_tree, selector_tree}
use Rattle.c_tree.specs.Trees as P
use Rattle.c_tree.specs.Trees.{Tree, Forest, Sections, SectionTree, layer, section_layer, expression_trees, tree_of, trees_of, section_tree, sections_of}
use Rattle.c_tree.proofs.TreeLaws.{tree-Evaluate, tree-Return, tree-If, tree-While, tree-Do, tree-For, tree-Switch, tree-Block, tree-Local, tree-Break, tree-Continue, tree-Goto, tree-Mark, tree-Arm, tree-Leap, tree-Land, tree-Arrival, tree-Note, trees-none, trees-more, sections-none, sections-more, section-parts}
use Rattle.plain_laws.specs.Tidied as D
use Rattle.c_tree.specs.TextItems.{is_empty}
use Rattle.c_tree.specs.SectionLabels.{with_entries, pass_to, labels_passed}
use Rattle.plain_laws.specs.Plain.{is_break_layer, is_break, last_is_break, without_last, ended, tidied_step, tidied_item, tidied_section, tidied}
use Rattle.plain_laws.proofs.ItemTrees.{section_rolled}

-- ---- the last item

break_layer : (f : Item → Tree) (g : Section → SectionTree) (y : Item-F Item Section) →
    is_break_layer y ≡ D.is_break (layer (map-Item Item Section Tree SectionTree f g y))
break_layer f g Break = refl
break_layer f g _ = refl

break_rolled : (y : Item-F Item Section) → is_break_layer y ≡ D.is_break (tree_of (roll-Item y))
unfolding tree_of section_tree
break_rolled y = break_layer tree_of section_tree y ∙ ap D.is_break (sym (fold-roll-Item Tree SectionTree layer section_layer y))

break_same : (x : Item) → is_break x ≡ D.is_break (tree_of x)
break_same x = break_rolled (out-Item x) ∙ ap (λ z. D.is_break (tree_of z)) (roll-out-Item x)

last_same : (xs : List Item) → last_is_break xs ≡ D.last_break (trees_of xs)
last_same [] = ap D.last_break (sym trees-none)
last_same (x ∷ []) = break_same x ∙ ap D.last_break (sym (trees-more x [] ∙ ap (P.Then (tree_of x)) trees-none))
last_same (x ∷ y ∷ ys) = last_same (y ∷ ys) ∙ ap D.last_break (trees-more y ys) ∙
    ap D.last_break (sym (trees-more x (y ∷ ys) ∙ ap (P.Then (tree_of x)) (trees-more y ys)))

without_same : (xs : List Item) → trees_of (without_last xs) ≡ D.without_last (trees_of xs)
without_same [] = trees-none ∙ ap D.without_last (sym trees-none)
without_same (x ∷ []) = trees-none ∙ ap D.without_last (sym (trees-more x [] ∙ ap (P.Then (tree_of x)) trees-none))
without_same (x ∷ y ∷ ys) =
    trees-more x (without_last (y ∷ ys)) ∙ ap (P.Then (tree_of x)) (without_same (y ∷ ys) ∙ ap D.without_last (trees-more y ys))
    ∙ ap D.without_last (sym (trees-more x (y ∷ ys) ∙ ap (P.Then (tree_of x)) (trees-more y ys)))

-- ---- sections

-- a section with its end
abbrev end_tree : SectionTree → SectionTree
end_tree c = cond (not c.ends && D.last_break c.list) (record { cases = c.cases; default = c.default; list = D.without_last c.list; ends = true }) c

abbrev tidy_parts : SectionTree → SectionTree
tidy_parts c = end_tree (record { cases = c.cases; default = c.default; list = D.tidy c.list; ends = c.ends })

abbrev parts : Section-F Item Section → SectionTree
parts c = record { cases = expression_trees c.cases; default = c.default; list = trees_of c.list; ends = c.ends }

ended_by : (b : Bool) (c : Section-F Item Section)
    → section_tree (cond b (roll-Section (record { cases = c.cases; default = c.default; list = without_last c.list; ends = true })) (roll-Section c))
    ≡ cond b (record { cases = expression_trees c.cases; default = c.default; list = D.without_last (trees_of c.list); ends = true }) (parts c)
ended_by true c = section_rolled _ ∙ ap (λ z. record { cases = expression_trees c.cases; default = c.default; list = z; ends = true }) (without_same c.list)
ended_by false c = section_rolled c

ended_tree : (c : Section-F Item Section) → section_tree (ended c) ≡ end_tree (parts c)
ended_tree c =
    ended_by (not c.ends && last_is_break c.list) c
    ∙ ap (λ b. cond (not c.ends && b) (record {
      cases = expression_trees c.cases;
      default = c.default;
      list = D.without_last (trees_of c.list);
      ends = true;
    }) (parts c)) (last_same c.list)

-- a section before others
abbrev put : SectionTree → Sections → Sections
put c ds = D.give c.cases c.default c.list c.ends ds

give_none : (cases : List ExpressionTree) (default : Bool) (a : Forest) (ends : Bool) →
    D.give cases default a ends P.NoSection ≡ P.Section cases default a ends P.NoSection
give_none cases default P.Nil false = refl
give_none cases default P.Nil true = refl
give_none cases default (P.Then x a) ends = refl

append_trees : (xs ys : List Expression) → expression_trees (xs ++ ys) ≡ expression_trees xs ++ expression_trees ys
append_trees [] ys = refl
append_trees (x ∷ xs) ys = ap (λ z. expression_tree x ∷ z) (append_trees xs ys)

-- the sections of a list by its parts
more_sections : (d : Section) (ds : List Section) → (let e = out-Section d in
    sections_of (d ∷ ds) ≡ P.Section (expression_trees e.cases) e.default (trees_of e.list) e.ends (sections_of ds))
more_sections d ds = sections-more d ds ∙ ap (λ (s : SectionTree). P.Section s.cases s.default s.list s.ends (sections_of ds)) (section-parts d)

entries_tree : (c : Section-F Item Section) (d : Section) (ds : List Section)
    → (let e = out-Section d in sections_of (with_entries c d ∷ ds) ≡ P.Section (expression_trees c.cases ++ expression_trees e.cases)
    (c.default || e.default) (trees_of e.list) e.ends (sections_of ds))
entries_tree c d ds =
    let e = out-Section d in
    sections-more (with_entries c d) ds ∙ ap (λ (s : SectionTree). P.Section s.cases s.default s.list s.ends (sections_of ds)) (section_rolled _)
    ∙ ap (λ z. P.Section z (c.default || e.default) (trees_of e.list) e.ends (sections_of ds)) (append_trees c.cases e.cases)

give_by : (xs : List Item) (ends : Bool) (c d : Section) (ds : List Section) → (let o = out-Section c in
    o.list ≡ xs → o.ends ≡ ends → sections_of (cond (is_empty xs && not ends) (with_entries o d ∷ ds) (c ∷ d ∷ ds)) ≡ D.give
    (expression_trees o.cases) o.default (trees_of xs) ends (sections_of (d ∷ ds)))
give_by [] false c d ds e h =
    let o = out-Section c in
    let q = out-Section d in
    entries_tree o d ds ∙ ap₂ (λ z y. D.give (expression_trees o.cases) o.default z false y) (sym trees-none) (sym (more_sections d ds))
give_by [] true c d ds e h =
    let o = out-Section c in
    more_sections c (d ∷ ds) ∙ ap₂ (λ z y. P.Section (expression_trees o.cases) o.default z y (sections_of (d ∷ ds))) (ap trees_of e ∙ trees-none) h
    ∙ ap (λ z. D.give (expression_trees o.cases) o.default z true (sections_of (d ∷ ds))) (sym trees-none)
give_by (x ∷ xs) ends c d ds e h =
    let o = out-Section c in
    more_sections c (d ∷ ds) ∙ ap₂ (λ z y. P.Section (expression_trees o.cases) o.default z y (sections_of (d ∷ ds))) (ap trees_of e ∙ trees-more x xs) h
    ∙ ap (λ z. D.give (expression_trees o.cases) o.default z ends (sections_of (d ∷ ds))) (sym (trees-more x xs))

give_tree : (c : Section) (ds : List Section) → sections_of (pass_to c ds) ≡ put (section_tree c) (sections_of ds)
give_tree c [] =
    let o = out-Section c in
    more_sections c [] ∙ ap (P.Section (expression_trees o.cases) o.default (trees_of o.list) o.ends) sections-none
    ∙ sym (give_none (expression_trees o.cases) o.default (trees_of o.list) o.ends)
    ∙ ap₂ put (sym (section-parts c)) (sym sections-none)
give_tree c (d ∷ ds) = let o = out-Section c in give_by o.list o.ends c d ds refl refl ∙ ap (λ s. put s (sections_of (d ∷ ds))) (sym (section-parts c))

put_by : (b : Bool) (cases : List ExpressionTree) (default : Bool) (a : Forest) (ends : Bool) (ds : Sections)
    → put (cond b (record { cases = cases; default = default; list = D.without_last a; ends = true })
    (record { cases = cases; default = default; list = a; ends = ends })) ds
    ≡ cond b (D.give cases default (D.without_last a) true ds) (D.give cases default a ends ds)
put_by true cases default a ends ds = refl
put_by false cases default a ends ds = refl

-- ---- the induction

abbrev ItemSame : Item → Type 0
ItemSame x = tree_of (tidied_item x) ≡ D.tidy_item (tree_of x)

abbrev SectionSame : Section → Type 0
SectionSame c = section_tree (tidied_section c) ≡ tidy_parts (section_tree c)

abbrev I : Type 0
I = (x : Item) × ItemSame x

abbrev C : Type 0
C = (c : Section) × SectionSame c

abbrev item : I → Item
item e = e.0

abbrev section : C → Section
section e = e.0

list_same : (a : List I) → trees_of (map tidied_item (map item a)) ≡ D.tidy (trees_of (map item a))
list_same [] = trees-none ∙ ap D.tidy (sym trees-none)
list_same (e ∷ a) = trees-more (tidied_item e.0) _ ∙ ap₂ (λ x xs. P.Then x xs) e.1 (list_same a) ∙ ap D.tidy (sym (trees-more e.0 (map item a)))

sections_same : (a : List C) → sections_of (labels_passed (map tidied_section (map section a))) ≡ D.tidy_sections (sections_of (map section a))
sections_same [] = sections-none ∙ ap D.tidy_sections (sym sections-none)
sections_same (e ∷ a) =
    let c = section_tree e.0 in
    give_tree (tidied_section e.0) (labels_passed (map tidied_section (map section a)))
    ∙ ap₂ put e.1 (sections_same a)
    ∙ put_by (not c.ends && D.last_break (D.tidy c.list)) c.cases c.default (D.tidy c.list) c.ends (D.tidy_sections (sections_of (map section a)))
    ∙ ap D.tidy_sections (sym (sections-more e.0 (map section a)))

abbrev plain : Item-F I C → Item-F Item Section
plain y = map-Item I C Item Section item section y

becomes : (y : Tree) (x t z : Tree) → x ≡ z → y ≡ t → D.tidy_item t ≡ z → x ≡ D.tidy_item y
becomes y x t z a b c = a ∙ sym c ∙ ap D.tidy_item (sym b)

layer_same : (y : Item-F I C) → tree_of (tidied_step (map-Item Item Section Item Section tidied_item tidied_section (plain y))) ≡ D.tidy_item
    (tree_of (roll-Item (plain y)))
layer_same (If t a b) =
    becomes _ _ _ (P.If (test_tree t) (D.tidy (trees_of (map item a))) (D.tidy (trees_of (map item b))))
    (ap tree_of (rolls-If t _ _) ∙ tree-If t _ _ ∙ ap₂ (P.If (test_tree t)) (list_same a) (list_same b))
    (ap tree_of (rolls-If t (map item a) (map item b)) ∙ tree-If t (map item a) (map item b)) refl
layer_same (While t a) =
    becomes _ _ _ (P.While (test_tree t) (D.tidy (trees_of (map item a))))
    (ap tree_of (rolls-While t _) ∙ tree-While t _ ∙ ap (P.While (test_tree t)) (list_same a))
    (ap tree_of (rolls-While t (map item a)) ∙ tree-While t (map item a)) refl
layer_same (Do a t) =
    becomes _ _ _ (P.Do (D.tidy (trees_of (map item a))) (test_tree t))
    (ap tree_of (rolls-Do _ t) ∙ tree-Do _ t ∙ ap (λ z. P.Do z (test_tree t)) (list_same a))
    (ap tree_of (rolls-Do (map item a) t) ∙ tree-Do (map item a) t) refl
layer_same (For i t u a) =
    let et = option_map expression_tree t in
    let eu = option_map expression_tree u in
    becomes _ _ _ (P.For (D.tidy (trees_of (map item i))) et eu (D.tidy (trees_of (map item a))))
    (ap tree_of (rolls-For _ t u _) ∙ tree-For _ t u _ ∙ ap₂ (λ z y. P.For z et eu y) (list_same i) (list_same a))
    (ap tree_of (rolls-For (map item i) t u (map item a)) ∙ tree-For (map item i) t u (map item a)) refl
layer_same (Switch s cs) =
    becomes _ _ _ (P.Switch (selector_tree s) (D.tidy_sections (sections_of (map section cs))))
    (tree-Switch s _ ∙ ap (P.Switch (selector_tree s)) (sections_same cs))
    (ap tree_of (rolls-Switch s (map section cs)) ∙ tree-Switch s (map section cs)) refl
layer_same (Block a) =
    becomes _ _ _ (P.Block (D.tidy (trees_of (map item a)))) (ap tree_of (rolls-Block _) ∙ tree-Block _ ∙ ap P.Block (list_same a))
    (ap tree_of (rolls-Block (map item a)) ∙ tree-Block (map item a)) refl
layer_same (Evaluate e) = let h = ap tree_of (rolls-Evaluate e) ∙ tree-Evaluate e in becomes _ _ _ _ h h refl
layer_same (Return e) = let h = ap tree_of (rolls-Return e) ∙ tree-Return e in becomes _ _ _ _ h h refl
layer_same (Local k e) = let h = ap tree_of (rolls-Local k e) ∙ tree-Local k e in becomes _ _ _ _ h h refl
layer_same Break = let h = ap tree_of rolls-Break ∙ tree-Break in becomes _ _ _ _ h h refl
layer_same Continue = let h = ap tree_of rolls-Continue ∙ tree-Continue in becomes _ _ _ _ h h refl
layer_same (Goto l) = let h = ap tree_of (rolls-Goto l) ∙ tree-Goto l in becomes _ _ _ _ h h refl
layer_same (Mark l) = let h = ap tree_of (rolls-Mark l) ∙ tree-Mark l in becomes _ _ _ _ h h refl
layer_same (Arm l e) = let h = ap tree_of (rolls-Arm l e) ∙ tree-Arm l e in becomes _ _ _ _ h h refl
layer_same (Leap l) = let h = ap tree_of (rolls-Leap l) ∙ tree-Leap l in becomes _ _ _ _ h h refl
layer_same (Land l) = let h = ap tree_of (rolls-Land l) ∙ tree-Land l in becomes _ _ _ _ h h refl
layer_same (Arrival e) = let h = ap tree_of (rolls-Arrival e) ∙ tree-Arrival e in becomes _ _ _ _ h h refl
layer_same (Note b) = let h = ap tree_of (rolls-Note b) ∙ tree-Note b in becomes _ _ _ _ h h refl

item_same : (x : Item) → ItemSame x
item_same = ind-Item ItemSame SectionSame
    (λ x y e. subst (λ (z : Item-F Item Section). ItemSame (roll-Item z)) e (ap tree_of (fold-roll-Item Item Section tidied_step ended _) ∙ layer_same y))
    (λ x y e. subst (λ (z : Section-F Item Section). SectionSame (roll-Section z)) e (
    ap section_tree (fold-roll-Section Item Section tidied_step ended _)
    ∙ ended_tree _
    ∙ ap (λ z. end_tree (record { cases = expression_trees y.cases; default = y.default; list = z; ends = y.ends })) (list_same y.list)
    ∙ ap tidy_parts (sym (section_rolled _))))

-- the trees of a list whose sections are in their plain form
pub tidied_trees : (xs : List Item) → trees_of (tidied xs) ≡ D.tidy (trees_of xs)
tidied_trees [] = trees-none ∙ ap D.tidy (sym trees-none)
tidied_trees (x ∷ xs) = trees-more (tidied_item x) (tidied xs) ∙ ap₂ (λ y ys. P.Then y ys) (item_same x) (tidied_trees xs) ∙ ap D.tidy (sym (trees-more x xs))
