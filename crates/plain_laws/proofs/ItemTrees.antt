-- The trees of a list whose guards are variables, and of one whose sections are in their plain form.
use mathlib.Core.Path.{ap₂}
use Rattle.std.proofs.Common.{◌≡◌, ℕ, pos, option_map, List, [], ◌∷◌, map, refl, sym, ap, subst, ◌∙◌}
use Rattle.c_types.specs.declared.kinds.IntKind.TheVariants.{Int}
use Rattle.c_tree.specs.declared.tree.Expression.{Expression}
use Rattle.c_tree.specs.declared.tree.Item.{Item, Item-F, roll-Item, fold-roll-Item, ind-Item, map-Item}
use Rattle.c_tree.specs.declared.tree.Item.TheOpen.{Section-F, Evaluate, Return, If, While, Do, For, Switch, Block, Local, Break, Continue, Goto, Mark, Arm, Leap, Land, Arrival, Note}
use Rattle.c_tree.specs.declared.tree.Item.TheVariants.{rolls-Evaluate, rolls-Return, rolls-If, rolls-While, rolls-Do, rolls-For, rolls-Switch, rolls-Block, rolls-Local, rolls-Break, rolls-Continue, rolls-Goto, rolls-Mark, rolls-Arm, rolls-Leap, rolls-Land, rolls-Arrival, rolls-Note}
use Rattle.c_tree.specs.declared.tree.Section.{Section, roll-Section, fold-roll-Section}
use Rattle.c_tree.specs.declared.tree.Test as T
use Rattle.c_tree.specs.declared.tree.Selector as S
use Rattle.c_tree.specs.ExpressionTrees.{ExpressionTree, expression_tree}
use Rattle.c_tree.specs.TestTrees.{test_tree, selector_tree}
use Rattle.c_tree.specs.TestTrees as Q
use Rattle.c_tree.specs.Trees as P
use Rattle.c_tree.specs.Trees.{Tree, Forest, Sections, SectionTree, forest, sections, layer, section_layer, expression_trees, tree_of, trees_of, section_tree, sections_of}
use Rattle.c_tree.proofs.TreeLaws.{tree-Evaluate, tree-Return, tree-If, tree-While, tree-Do, tree-For, tree-Switch, tree-Block, tree-Local, tree-Break, tree-Continue, tree-Goto, tree-Mark, tree-Arm, tree-Leap, tree-Land, tree-Arrival, tree-Note, trees-none, trees-more, sections-none, sections-more}
use Rattle.c_tree.proofs.ExpressionLaws.{test-Source, selector-Source}
use Rattle.c_tree.specs.Numerals as Numerals
use Rattle.plain_laws.specs.GuardSlots as G
use Rattle.plain_laws.specs.Plain.{number, guard_set, plain_test, plain_selector, armed, item_step, section_step, plain_item, plain_section, plain_items}
use Rattle.plain_laws.proofs.PlainTrees.{number_tree, set_tree, armed_tree, test_same, selector_same}

pub section_rolled : (z : Section-F Item Section) → section_tree
    (roll-Section z) ≡ record { cases = expression_trees z.cases; default = z.default; list = trees_of z.list; ends = z.ends }
unfolding section_tree trees_of tree_of
section_rolled z = fold-roll-Section Tree SectionTree layer section_layer z

-- ---- guards as variables

module _ (slot : ℕ → ℕ) where
  abbrev plain_parts : SectionTree → SectionTree
  plain_parts c = record { cases = c.cases; default = c.default; list = G.plain_list slot c.list; ends = c.ends }

  abbrev ItemSame : Item → Type 0
  ItemSame x = tree_of (plain_item slot x) ≡ G.plain_item slot (tree_of x)

  abbrev SectionSame : Section → Type 0
  SectionSame c = section_tree (plain_section slot c) ≡ plain_parts (section_tree c)

  abbrev I : Type 0
  I = (x : Item) × ItemSame x

  abbrev C : Type 0
  C = (c : Section) × SectionSame c

  abbrev item : I → Item
  item e = e.0

  abbrev section : C → Section
  section e = e.0

  list_same : (a : List I) → trees_of (map (plain_item slot) (map item a)) ≡ G.plain_list slot (trees_of (map item a))
  list_same [] = trees-none ∙ ap (G.plain_list slot) (sym trees-none)
  list_same (e ∷ a) = trees-more (plain_item slot e.0) _ ∙ ap₂ (λ x xs. P.Then x xs) e.1 (list_same a) ∙
      ap (G.plain_list slot) (sym (trees-more e.0 (map item a)))

  sections_same : (a : List C) → sections_of (map (plain_section slot) (map section a)) ≡ G.plain_sections slot (sections_of (map section a))
  sections_same [] = sections-none ∙ ap (G.plain_sections slot) (sym sections-none)
  sections_same (e ∷ a) =
      sections-more (plain_section slot e.0) (map (plain_section slot) (map section a))
      ∙ ap₂ (λ (s : SectionTree) c. P.Section s.cases s.default s.list s.ends c) e.1 (sections_same a)
      ∙ ap (G.plain_sections slot) (sym (sections-more e.0 (map section a)))

  source_test : (t : T.Test) → test_tree (T.Source (plain_test slot t)) ≡ Q.Source (G.plain_test slot (test_tree t))
  source_test t = test-Source (plain_test slot t) ∙ ap Q.Source (test_same slot t)

  source_selector : (s : S.Selector) → selector_tree (S.Source (plain_selector slot s)) ≡ Q.Selects (G.plain_selector slot (selector_tree s))
  source_selector s = selector-Source (plain_selector slot s) ∙ ap Q.Selects (selector_same slot s)

  set_same : (x : ℕ) (e : Expression) (y : ExpressionTree) → expression_tree e ≡ y → tree_of (guard_set x e) ≡ G.guard_set x y
  set_same x e y h = tree-Evaluate _ ∙ ap P.Evaluate (set_tree x e y h)

  abbrev plain : Item-F I C → Item-F Item Section
  plain y = map-Item I C Item Section item section y

  -- an item that becomes x, whose tree is t
  becomes : (y : Tree) (x t z : Tree) → x ≡ z → y ≡ t → G.plain_item slot t ≡ z → x ≡ G.plain_item slot y
  becomes y x t z a b c = a ∙ sym c ∙ ap (G.plain_item slot) (sym b)

  layer_same : (y : Item-F I C) → tree_of
      (item_step slot (map-Item Item Section Item Section (plain_item slot) (plain_section slot) (plain y))) ≡ G.plain_item slot (tree_of (roll-Item (plain y)))
  layer_same (If t a b) =
      becomes _ _ _ (P.If (Q.Source (G.plain_test slot (test_tree t))) (G.plain_list slot (trees_of (map item a))) (G.plain_list slot (trees_of (map item b))))
      (tree-If (T.Source (plain_test slot t)) _ _ ∙ ap (λ z. P.If z (trees_of (map (plain_item slot) (map item a)))
      (trees_of (map (plain_item slot) (map item b)))) (source_test t) ∙
      ap₂ (P.If (Q.Source (G.plain_test slot (test_tree t)))) (list_same a) (list_same b))
      (ap tree_of (rolls-If t (map item a) (map item b)) ∙ tree-If t (map item a) (map item b)) refl
  layer_same (While t a) =
      becomes _ _ _ (P.While (Q.Source (G.plain_test slot (test_tree t))) (G.plain_list slot (trees_of (map item a))))
      (tree-While (T.Source (plain_test slot t)) _ ∙ ap₂ P.While (source_test t) (list_same a))
      (ap tree_of (rolls-While t (map item a)) ∙ tree-While t (map item a)) refl
  layer_same (Do a t) =
      becomes _ _ _ (P.Do (G.plain_list slot (trees_of (map item a))) (Q.Source (G.plain_test slot (test_tree t))))
      (tree-Do _ (T.Source (plain_test slot t)) ∙ ap₂ P.Do (list_same a) (source_test t))
      (ap tree_of (rolls-Do (map item a) t) ∙ tree-Do (map item a) t) refl
  layer_same (For i t u a) =
      let et = option_map expression_tree t in
      let eu = option_map expression_tree u in
      becomes _ _ _ (P.For (G.plain_list slot (trees_of (map item i))) et eu (G.plain_list slot (trees_of (map item a))))
      (ap tree_of (rolls-For _ t u _) ∙ tree-For _ t u _ ∙ ap₂ (λ z y. P.For z et eu y) (list_same i) (list_same a))
      (ap tree_of (rolls-For (map item i) t u (map item a)) ∙ tree-For (map item i) t u (map item a)) refl
  layer_same (Switch s cs) =
      becomes _ _ _ (P.Switch (Q.Selects (G.plain_selector slot (selector_tree s))) (G.plain_sections slot (sections_of (map section cs))))
      (tree-Switch (S.Source (plain_selector slot s)) _ ∙ ap₂ P.Switch (source_selector s) (sections_same cs))
      (ap tree_of (rolls-Switch s (map section cs)) ∙ tree-Switch s (map section cs)) refl
  layer_same (Block a) =
      becomes _ _ _ (P.Block (G.plain_list slot (trees_of (map item a)))) (ap tree_of (rolls-Block _) ∙ tree-Block _ ∙ ap P.Block (list_same a))
      (ap tree_of (rolls-Block (map item a)) ∙ tree-Block (map item a)) refl
  layer_same (Arm l e) =
      becomes _ _ _ (G.guard_set (slot l) (G.armed (option_map expression_tree e))) (set_same (slot l) (armed e) _ (armed_tree e))
      (ap tree_of (rolls-Arm l e) ∙ tree-Arm l e) refl
  layer_same (Land l) =
      becomes _ _ _ (G.guard_set (slot l) (Numerals.number Int (pos 0))) (set_same (slot l) (number Int (pos 0)) _ (number_tree Int (pos 0)))
      (ap tree_of (rolls-Land l) ∙ tree-Land l) refl
  layer_same (Evaluate e) = let h = ap tree_of (rolls-Evaluate e) ∙ tree-Evaluate e in becomes _ _ _ _ h h refl
  layer_same (Return e) = let h = ap tree_of (rolls-Return e) ∙ tree-Return e in becomes _ _ _ _ h h refl
  layer_same (Local k e) = let h = ap tree_of (rolls-Local k e) ∙ tree-Local k e in becomes _ _ _ _ h h refl
  layer_same Break = let h = ap tree_of rolls-Break ∙ tree-Break in becomes _ _ _ _ h h refl
  layer_same Continue = let h = ap tree_of rolls-Continue ∙ tree-Continue in becomes _ _ _ _ h h refl
  layer_same (Goto l) = let h = ap tree_of (rolls-Goto l) ∙ tree-Goto l in becomes _ _ _ _ h h refl
  layer_same (Mark l) = let h = ap tree_of (rolls-Mark l) ∙ tree-Mark l in becomes _ _ _ _ h h refl
  layer_same (Leap l) = let h = ap tree_of (rolls-Leap l) ∙ tree-Leap l in becomes _ _ _ _ h h refl
  layer_same (Arrival e) = let h = ap tree_of (rolls-Arrival e) ∙ tree-Arrival e in becomes _ _ _ _ h h refl
  layer_same (Note b) = let h = ap tree_of (rolls-Note b) ∙ tree-Note b in becomes _ _ _ _ h h refl

  item_same : (x : Item) → ItemSame x
  item_same = ind-Item ItemSame SectionSame
      (λ x y e. subst (λ (z : Item-F Item Section). ItemSame (roll-Item z)) e
      (ap tree_of (fold-roll-Item Item Section (item_step slot) section_step _) ∙ layer_same y))
      (λ x y e. subst (λ (z : Section-F Item Section). SectionSame (roll-Section z)) e (
      ap section_tree (fold-roll-Section Item Section (item_step slot) section_step _)
      ∙ section_rolled _
      ∙ ap (λ z. record { cases = expression_trees y.cases; default = y.default; list = z; ends = y.ends }) (list_same y.list)
      ∙ ap plain_parts (sym (section_rolled _))))

  -- the trees of a list whose guards are variables
  pub plain_trees : (xs : List Item) → trees_of (plain_items slot xs) ≡ G.plain_list slot (trees_of xs)
  plain_trees [] = trees-none ∙ ap (G.plain_list slot) (sym trees-none)
  plain_trees (x ∷ xs) = trees-more (plain_item slot x) (plain_items slot xs) ∙ ap₂ (λ y ys. P.Then y ys) (item_same x) (plain_trees xs) ∙
      ap (G.plain_list slot) (sym (trees-more x xs))
