-- The trees of a conversion are the conversion of the trees.
use mathlib.Core.Path.{ap₂}
use Rattle.std.proofs.Common.{◌≡◌, ℕ, Option, Some, None, option_map, List, [], ◌∷◌, map, flat_map, refl, sym, ap, subst, ◌∙◌}
use Rattle.std.specs.Option.{option_map_or}
use Rattle.c_tree.specs.declared.tree.Expression.{Expression}
use Rattle.c_tree.specs.declared.tree.Item.{Item, Item-F, roll-Item, fold-roll-Item, ind-Item, map-Item}
use Rattle.c_tree.specs.declared.tree.Item.TheOpen.{Section-F, Evaluate, Return, If, While, Do, For, Switch, Block, Local, Break, Continue, Goto, Mark, Arm, Leap, Land, Arrival, Note}
use Rattle.c_tree.specs.declared.tree.Item as V
use Rattle.c_tree.specs.declared.tree.Item.TheVariants.{rolls-Evaluate, rolls-Return, rolls-If, rolls-While, rolls-Do, rolls-For, rolls-Switch, rolls-Block, rolls-Local, rolls-Break, rolls-Continue, rolls-Goto, rolls-Mark, rolls-Arm, rolls-Leap, rolls-Land, rolls-Arrival, rolls-Note}
use Rattle.c_tree.specs.declared.tree.Section.{Section, fold-roll-Section, roll-Section}
use Rattle.c_tree.specs.declared.tree.Test.{Test, Test-F, roll-Test, ind-Test, map-Test}
use Rattle.c_tree.specs.declared.tree.Test as T
use Rattle.c_tree.specs.declared.tree.Test.TheOpen as OpenTest
use Rattle.c_tree.specs.declared.tree.Test.TheVariants.{rolls-Source, rolls-On, rolls-Off, rolls-AndOff, rolls-OrOn}
use Rattle.c_tree.specs.ExpressionTrees.{expression_tree}
use Rattle.c_tree.specs.TestTrees.{test_tree, selector_tree}
use Rattle.c_tree.specs.Trees as Plain
use Rattle.c_tree.specs.Trees.{Tree, Forest, Nil, Then, join, tree_of, trees_of, section_tree, sections_of}
use Rattle.c_tree.specs.Changed.{one}
use Rattle.c_tree.specs.Rebuilt.{rebuilt_section}
use Rattle.c_tree.proofs.TreeLaws.{tree-Evaluate, tree-Return, tree-If, tree-While, tree-Do, tree-For, tree-Switch, tree-Block, tree-Local, tree-Break, tree-Continue, tree-Goto, tree-Mark, tree-Arm, tree-Leap, tree-Land, tree-Arrival, tree-Note, trees-none, trees-more, trees-append, sections-none, sections-more}
use Rattle.c_tree.proofs.ExpressionLaws.{test-Source, test-On, test-Off, test-AndOff, test-OrOn}
use Rattle.guard_vars.specs.Conversion.{Converted, Jump, Others, items_of, jump, source, lone_jump, conditional_jump, converted_layer, converted_item, converted_section, converted_list}
use Rattle.c_tree.specs.Conversions.{jump_tree, source_tree, lone_goto, conditional_goto, convert, convert_item, convert_sections}

abbrev IsNoGoto : Tree → Type 0
IsNoGoto (Plain.Goto l) = ⊥
IsNoGoto _ = Unit {0}

-- what an item becomes, and what its tree becomes
abbrev Matches : Converted → Tree → Type 0
Matches (Jump l) x = x ≡ Plain.Goto l
Matches (Others xs) x = IsNoGoto x × (trees_of xs ≡ convert_item x)

trees_one : (x : Item) → trees_of (x ∷ []) ≡ one (tree_of x)
trees_one x = trees-more x [] ∙ ap (Then (tree_of x)) trees-none

jump_trees : (l : ℕ) (e : Option Expression) → trees_of (jump l e) ≡ jump_tree l (option_map expression_tree e)
jump_trees l e = trees-more (V.Arm l e) (V.Leap l ∷ []) ∙ ap₂ (λ x a. Then x a) (tree-Arm l e) (trees_one (V.Leap l) ∙ ap one (tree-Leap l))

matched_items : (c : Converted) (x : Tree) → Matches c x → trees_of (items_of c) ≡ convert_item x
matched_items (Jump l) x h = jump_trees l None ∙ ap convert_item (sym h)
matched_items (Others xs) x h = h.1

-- ---- lists

abbrev P : Item → Type 0
P x = Matches (converted_item x) (tree_of x)

abbrev converted_parts : Plain.SectionTree → Plain.SectionTree
converted_parts c = record { cases = c.cases; default = c.default; list = convert c.list; ends = c.ends }

abbrev Q : Section → Type 0
Q c = section_tree (converted_section c) ≡ converted_parts (section_tree c)

abbrev I : Type 0
I = (x : Item) × P x

abbrev C : Type 0
C = (c : Section) × Q c

abbrev item : I → Item
item e = e.0

abbrev section : C → Section
section e = e.0

abbrev become : List I → List Converted
become a = map converted_item (map item a)

list_trees : (a : List I) → trees_of (flat_map items_of (become a)) ≡ convert (trees_of (map item a))
list_trees [] = trees-none ∙ ap convert (sym trees-none)
list_trees (e ∷ a) =
    trees-append (items_of (converted_item e.0)) (flat_map items_of (become a))
    ∙ ap₂ join (matched_items (converted_item e.0) (tree_of e.0) e.1) (list_trees a)
    ∙ ap convert (sym (trees-more e.0 (map item a)))

section_trees : (a : List C) → sections_of (map converted_section (map section a)) ≡ convert_sections (sections_of (map section a))
section_trees [] = sections-none ∙ ap convert_sections (sym sections-none)
section_trees (e ∷ a) =
    sections-more (converted_section e.0) (map converted_section (map section a))
    ∙ ap₂ (λ (s : Plain.SectionTree) c. Plain.Section s.cases s.default s.list s.ends c) e.1 (section_trees a)
    ∙ ap convert_sections (sym (sections-more e.0 (map section a)))

-- ---- gotos with a condition

no_lone : (x : Tree) (a : Forest) → IsNoGoto x → lone_goto (Then x a) ≡ None
no_lone (Plain.Goto l) a h = absurd h
no_lone _ a h = refl

two_lone : (x y : Tree) (a : Forest) → lone_goto (Then x (Then y a)) ≡ None
two_lone (Plain.Goto l) y a = refl
two_lone _ y a = refl

lone_one : (c : Converted) (x : Tree) → Matches c x → lone_jump (c ∷ []) ≡ lone_goto (one x)
lone_one (Jump l) x h = ap (λ x. lone_goto (one x)) (sym h)
lone_one (Others xs) x h = sym (no_lone x Nil h.0)

lone_two : (c d : Converted) (cs : List Converted) → lone_jump (c ∷ d ∷ cs) ≡ None
lone_two (Jump l) d cs = refl
lone_two (Others xs) d cs = refl

lone : (a : List I) → lone_jump (become a) ≡ lone_goto (trees_of (map item a))
lone [] = ap lone_goto (sym trees-none)
lone (e ∷ []) = lone_one (converted_item e.0) (tree_of e.0) e.1 ∙ ap lone_goto (sym (trees_one e.0))
lone (e ∷ d ∷ a) =
    lone_two (converted_item e.0) (converted_item d.0) (become a) ∙ sym (two_lone (tree_of e.0) (tree_of d.0) (trees_of (map item a)))
    ∙ ap lone_goto (sym (trees-more e.0 (map item (d ∷ a)) ∙ ap (Then (tree_of e.0)) (trees-more d.0 (map item a))))

-- what holds of each form of a test holds of each test
each_test : (R : Test → Type 0) → ((c : Expression) → R (T.Source c)) → ((l : ℕ) → R (T.On l)) → ((l : ℕ) → R (T.Off l)) →
    ((l : ℕ) (t : Test) → R (T.AndOff l t)) → ((l : ℕ) (t : Test) → R (T.OrOn l t)) → (t : Test) → R t
each_test R source on off and or = ind-Test R (λ x y e. subst (λ (z : Test-F Test). R (roll-Test z)) e (form y))
  where
    form : (y : Test-F ((t : Test) × R t)) → R (roll-Test (map-Test ((t : Test) × R t) Test (λ e. e.0) y))
    form (OpenTest.Source c) = subst R (sym (rolls-Source c)) (source c)
    form (OpenTest.On l) = subst R (sym (rolls-On l)) (on l)
    form (OpenTest.Off l) = subst R (sym (rolls-Off l)) (off l)
    form (OpenTest.AndOff l t) = subst R (sym (rolls-AndOff l t.0)) (and l t.0)
    form (OpenTest.OrOn l t) = subst R (sym (rolls-OrOn l t.0)) (or l t.0)

by_source : (c : Expression) (a b : List I) → conditional_jump (T.Source c) (become a) (become b) ≡ conditional_goto (test_tree (T.Source c))
    (trees_of (map item a)) (trees_of (map item b))
by_source c a [] = lone a ∙ ap₂ (λ t b. conditional_goto t (trees_of (map item a)) b) (sym (test-Source c)) (sym trees-none)
by_source c a (e ∷ b) = ap₂ (λ t b. conditional_goto t (trees_of (map item a)) b) (sym (test-Source c)) (sym (trees-more e.0 (map item b)))

conditional : (t : Test) (a b : List I) → conditional_jump t (become a) (become b) ≡ conditional_goto (test_tree t) (trees_of (map item a))
    (trees_of (map item b))
conditional = each_test (λ t. (a b : List I) → conditional_jump t (become a) (become b) ≡ conditional_goto (test_tree t) (trees_of (map item a))
    (trees_of (map item b)))
    by_source
    (λ l a b. ap (λ t. conditional_goto t (trees_of (map item a)) (trees_of (map item b))) (sym (test-On l)))
    (λ l a b. ap (λ t. conditional_goto t (trees_of (map item a)) (trees_of (map item b))) (sym (test-Off l)))
    (λ l u a b. ap (λ t. conditional_goto t (trees_of (map item a)) (trees_of (map item b))) (sym (test-AndOff l u)))
    (λ l u a b. ap (λ t. conditional_goto t (trees_of (map item a)) (trees_of (map item b))) (sym (test-OrOn l u)))

source_same : (t : Test) → option_map expression_tree (source t) ≡ source_tree (test_tree t)
source_same = each_test (λ t. option_map expression_tree (source t) ≡ source_tree (test_tree t))
    (λ c. ap source_tree (sym (test-Source c)))
    (λ l. ap source_tree (sym (test-On l)))
    (λ l. ap source_tree (sym (test-Off l)))
    (λ l u. ap source_tree (sym (test-AndOff l u)))
    (λ l u. ap source_tree (sym (test-OrOn l u)))

if_trees : (o : Option ℕ) (t : Test) (x : Item) (y : Tree) → tree_of x ≡ y →
    trees_of (option_map_or (λ l. jump l (source t)) o (x ∷ [])) ≡ option_map_or (λ l. jump_tree l (source_tree (test_tree t))) o (one y)
if_trees None t x y e = trees_one x ∙ ap one e
if_trees (Some l) t x y e = jump_trees l (source t) ∙ ap (jump_tree l) (source_same t)

-- ---- the induction

-- an item whose lists alone are converted
kept : (x : Item) (z t t' : Tree) → z ≡ t → IsNoGoto t → tree_of x ≡ t' → convert_item t ≡ one t' → Matches (Others (x ∷ [])) z
kept x z t t' e n f c = (subst IsNoGoto (sym e) n, trees_one x ∙ ap one f ∙ sym c ∙ ap convert_item (sym e))

abbrev plain : Item-F I C → Item-F Item Section
plain y = map-Item I C Item Section item section y

layer : (y : Item-F I C) → Matches (converted_layer (map-Item Item Section Converted Section converted_item converted_section (plain y)))
    (tree_of (roll-Item (plain y)))
layer (Goto l) = ap tree_of (rolls-Goto l) ∙ tree-Goto l
layer (Mark l) =
    let e = ap tree_of (rolls-Mark l) ∙ tree-Mark l in
    (subst IsNoGoto (sym e) tt, trees_one (V.Land l) ∙ ap one (tree-Land l) ∙ ap convert_item (sym e))
layer (If t a b) =
    let e = ap tree_of (rolls-If t (map item a) (map item b)) ∙ tree-If t (map item a) (map item b) in
    let o = conditional_jump t (become a) (become b) in
    let x = V.If t (flat_map items_of (become a)) (flat_map items_of (become b)) in
    let y = Plain.If (test_tree t) (convert (trees_of (map item a))) (convert (trees_of (map item b))) in (
      subst IsNoGoto (sym e) tt,
      if_trees o t x y (tree-If t (flat_map items_of (become a)) (flat_map items_of (become b)) ∙ ap₂ (Plain.If (test_tree t)) (list_trees a) (list_trees b))
          ∙ ap (λ o. option_map_or (λ l. jump_tree l (source_tree (test_tree t))) o (one y)) (conditional t a b)
          ∙ ap convert_item (sym e),
    )
layer (While t a) =
    kept _ _ (Plain.While (test_tree t) (trees_of (map item a))) (Plain.While (test_tree t) (convert (trees_of (map item a))))
    (ap tree_of (rolls-While t (map item a)) ∙ tree-While t (map item a)) tt
    (tree-While t _ ∙ ap (Plain.While (test_tree t)) (list_trees a)) refl
layer (Do a t) =
    kept _ _ (Plain.Do (trees_of (map item a)) (test_tree t)) (Plain.Do (convert (trees_of (map item a))) (test_tree t))
    (ap tree_of (rolls-Do (map item a) t) ∙ tree-Do (map item a) t) tt
    (tree-Do _ t ∙ ap (λ z. Plain.Do z (test_tree t)) (list_trees a)) refl
layer (For i t u a) =
    let et = option_map expression_tree t in
    let eu = option_map expression_tree u in
    kept _ _ (Plain.For (trees_of (map item i)) et eu (trees_of (map item a)))
    (Plain.For (convert (trees_of (map item i))) et eu (convert (trees_of (map item a))))
    (ap tree_of (rolls-For (map item i) t u (map item a)) ∙ tree-For (map item i) t u (map item a)) tt
    (tree-For _ t u _ ∙ ap₂ (λ z y. Plain.For z et eu y) (list_trees i) (list_trees a)) refl
layer (Switch s cs) =
    kept _ _ (Plain.Switch (selector_tree s) (sections_of (map section cs))) (Plain.Switch (selector_tree s) (convert_sections (sections_of (map section cs))))
    (ap tree_of (rolls-Switch s (map section cs)) ∙ tree-Switch s (map section cs)) tt
    (tree-Switch s _ ∙ ap (Plain.Switch (selector_tree s)) (section_trees cs)) refl
layer (Block a) =
    kept _ _ (Plain.Block (trees_of (map item a))) (Plain.Block (convert (trees_of (map item a))))
    (ap tree_of (rolls-Block (map item a)) ∙ tree-Block (map item a)) tt
    (tree-Block _ ∙ ap Plain.Block (list_trees a)) refl
layer (Evaluate e) = kept _ _ _ _ (ap tree_of (rolls-Evaluate e) ∙ tree-Evaluate e) tt (tree-Evaluate e) refl
layer (Return e) = kept _ _ _ _ (ap tree_of (rolls-Return e) ∙ tree-Return e) tt (tree-Return e) refl
layer (Local k e) = kept _ _ _ _ (ap tree_of (rolls-Local k e) ∙ tree-Local k e) tt (tree-Local k e) refl
layer Break = kept _ _ _ _ (ap tree_of rolls-Break ∙ tree-Break) tt tree-Break refl
layer Continue = kept _ _ _ _ (ap tree_of rolls-Continue ∙ tree-Continue) tt tree-Continue refl
layer (Arm l e) = kept _ _ _ _ (ap tree_of (rolls-Arm l e) ∙ tree-Arm l e) tt (tree-Arm l e) refl
layer (Leap l) = kept _ _ _ _ (ap tree_of (rolls-Leap l) ∙ tree-Leap l) tt (tree-Leap l) refl
layer (Land l) = kept _ _ _ _ (ap tree_of (rolls-Land l) ∙ tree-Land l) tt (tree-Land l) refl
layer (Arrival e) = kept _ _ _ _ (ap tree_of (rolls-Arrival e) ∙ tree-Arrival e) tt (tree-Arrival e) refl
layer (Note b) = kept _ _ _ _ (ap tree_of (rolls-Note b) ∙ tree-Note b) tt (tree-Note b) refl

section_rolled : (z : Section-F Item Section) → section_tree
    (roll-Section z) ≡ record { cases = Plain.expression_trees z.cases; default = z.default; list = trees_of z.list; ends = z.ends }
unfolding section_tree trees_of tree_of
section_rolled z = fold-roll-Section Tree Plain.SectionTree Plain.layer Plain.section_layer z

item_matches : (x : Item) → P x
item_matches = ind-Item P Q
    (λ x y e. subst (λ (z : Item-F Item Section). P (roll-Item z)) e (
    subst (λ v. Matches v (tree_of (roll-Item (plain y)))) (sym (fold-roll-Item Converted Section converted_layer (rebuilt_section items_of) _)) (layer y)))
    (λ x y e. subst (λ (z : Section-F Item Section). Q (roll-Section z)) e (
    ap section_tree (fold-roll-Section Converted Section converted_layer (rebuilt_section items_of) _)
    ∙ section_rolled _
    ∙ ap (λ z. record { cases = Plain.expression_trees y.cases; default = y.default; list = z; ends = y.ends }) (list_trees y.list)
    ∙ ap converted_parts (sym (section_rolled _))))

-- the trees of a conversion
pub converted_trees : (xs : List Item) → trees_of (converted_list xs) ≡ convert (trees_of xs)
converted_trees [] = trees-none ∙ ap convert (sym trees-none)
converted_trees (x ∷ xs) =
    trees-append (items_of (converted_item x)) (converted_list xs)
    ∙ ap₂ join (matched_items (converted_item x) (tree_of x) (item_matches x)) (converted_trees xs)
    ∙ ap convert (sym (trees-more x xs))
