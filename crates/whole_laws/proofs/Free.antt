-- Bodies without jumps, and plain ones, as tests of the real items say it.
use Rattle.std.proofs.Common.{◌≡◌, Bool, true, false, ◌&&◌, List, [], ◌∷◌, map, refl, sym, subst, ◌∙◌}
use Rattle.c_tree.specs.declared.tree.Item.{Item, Item-F, roll-Item, fold-roll-Item, ind-Item, map-Item}
use Rattle.c_tree.specs.declared.tree.Item.TheOpen.{Section-F, Evaluate, Return, If, While, Do, For, Switch, Block, Local, Break, Continue, Goto, Mark, Arm, Leap, Land, Arrival, Note}
use Rattle.c_tree.specs.declared.tree.Section.{Section, fold-roll-Section, roll-Section}
use Rattle.c_tree.specs.declared.tree.Section as Real
use Rattle.c_tree.specs.declared.tree.Test.{Test, Test-F, roll-Test, out-Test, roll-out-Test, fold-roll-Test}
use Rattle.c_tree.specs.declared.tree.Test.TheOpen as OpenTest
use Rattle.c_tree.specs.declared.tree.Test.TheVariants as TestRolls
use Rattle.c_tree.specs.declared.tree.Selector.TheVariants as SelectorRolls
use Rattle.c_tree.specs.declared.tree.Selector.{Selector, Selector-F, roll-Selector, out-Selector, roll-out-Selector, fold-roll-Selector}
use Rattle.c_tree.specs.declared.tree.Selector.TheOpen as OpenSelector
use Rattle.c_tree.specs.TestTrees.{TestTree, SelectorTree, test_layer, selector_layer, test_tree, selector_tree}
use Rattle.c_tree.specs.Trees.{Tree, SectionTree, forest, sections, layer, section_layer, tree_of, section_tree, trees_of}
use Rattle.c_tree.specs.Trees as Z
use Rattle.c_tree.specs.Everywhere.{Everywhere, EverywhereOf, EverywhereIn}
use Rattle.c_tree.specs.InRange.{IsSourceTest, IsSourceSelector}
use Rattle.c_tree.specs.Jumps.{all_true, is_source_test, is_source_selector, holds_throughout, section_holds_throughout, throughout_step, section_throughout_step, is_jump_free_layer, is_plain_layer, is_jump_free, is_plain, all_hold_throughout}
use Rattle.c_tree.proofs.ChangeLemmas.{tree-roll}
use Rattle.whole_laws.proofs.Unlabelled.{IsPlainItem}

pub both : (a b : Bool) → a ≡ true → b ≡ true → (a && b) ≡ true
both true b p q = q
both false b p q = p

section_roll : (z : Section-F Item Section) → section_tree (roll-Section z) ≡ section_layer
    (Real.map-Section Item Section Tree SectionTree tree_of section_tree z)
unfolding section_tree tree_of
section_roll z = fold-roll-Section Tree SectionTree layer section_layer z

module _ (L : Item-F Bool Bool → Bool) (T : Tree → Type 0)
    (own : (y : Item-F Item Section) → T (layer (map-Item Item Section Tree SectionTree tree_of section_tree y)) →
    L (map-Item Item Section Bool Bool (holds_throughout L) (section_holds_throughout L) y) ≡ true) where
  abbrev holds : Item → Bool
  holds x = holds_throughout L x

  abbrev section_holds : Section → Bool
  section_holds c = section_holds_throughout L c

  abbrev P : Item → Type 0
  P x = EverywhereOf T (tree_of x) → holds x ≡ true

  abbrev Q : Section → Type 0
  Q c = Everywhere T (section_tree c).list → section_holds c ≡ true

  abbrev I : Type 0
  I = (x : Item) × P x

  abbrev C : Type 0
  C = (c : Section) × Q c

  abbrev item_of : I → Item
  item_of e = e.0

  abbrev section_of : C → Section
  section_of e = e.0

  list_holds : (a : List I) → Everywhere T (forest (map tree_of (map item_of a))) → all_true (map holds (map item_of a)) ≡ true
  list_holds [] h = refl
  list_holds (e ∷ a) h = both (holds e.0) (all_true (map holds (map item_of a))) (e.1 h.0) (list_holds a h.1)

  sections_hold : (cs : List C) → EverywhereIn T (sections (map section_tree (map section_of cs))) → all_true (map section_holds (map section_of cs)) ≡ true
  sections_hold [] h = refl
  sections_hold (e ∷ cs) h = both (section_holds e.0) (all_true (map section_holds (map section_of cs))) (e.1 h.0) (sections_hold cs h.1)

  abbrev real : Item-F I C → Item-F Item Section
  real y = map-Item I C Item Section item_of section_of y

  layered : (y : Item-F I C) → EverywhereOf T (layer (map-Item Item Section Tree SectionTree tree_of section_tree (real y))) →
      throughout_step L (map-Item Item Section Bool Bool holds section_holds (real y)) ≡ true
  layered (If t a b) h = both _ _ (own (real (If t a b)) h.0) (both _ _ (list_holds a h.1) (list_holds b h.2))
  layered (While t a) h = both _ _ (own (real (While t a)) h.0) (list_holds a h.1)
  layered (Do a t) h = both _ _ (own (real (Do a t)) h.0) (list_holds a h.1)
  layered (For f t u a) h = both _ _ (own (real (For f t u a)) h.0) (both _ _ (list_holds f h.1) (list_holds a h.2))
  layered (Switch s cs) h = both _ _ (own (real (Switch s cs)) h.0) (sections_hold cs h.1)
  layered (Block a) h = both _ _ (own (real (Block a)) h.0) (list_holds a h.1)
  layered (Evaluate e) h = both _ _ (own (real (Evaluate e)) h) refl
  layered (Return e) h = both _ _ (own (real (Return e)) h) refl
  layered (Local x e) h = both _ _ (own (real (Local x e)) h) refl
  layered Break h = both _ _ (own (real Break) h) refl
  layered Continue h = both _ _ (own (real Continue) h) refl
  layered (Goto l) h = both _ _ (own (real (Goto l)) h) refl
  layered (Mark l) h = both _ _ (own (real (Mark l)) h) refl
  layered (Arm l e) h = both _ _ (own (real (Arm l e)) h) refl
  layered (Leap l) h = both _ _ (own (real (Leap l)) h) refl
  layered (Land l) h = both _ _ (own (real (Land l)) h) refl
  layered (Arrival e) h = both _ _ (own (real (Arrival e)) h) refl
  layered (Note bs) h = both _ _ (own (real (Note bs)) h) refl

  item_holds : (x : Item) → P x
  item_holds = ind-Item P Q
      (λ x y e. subst (λ (z : Item-F Item Section). P (roll-Item z)) e
      (λ h. fold-roll-Item Bool Bool (throughout_step L) section_throughout_step _ ∙ layered y (subst (EverywhereOf T) (tree-roll _) h)))
      (λ x y e. subst (λ (z : Section-F Item Section). Q (roll-Section z)) e
      (λ h. fold-roll-Section Bool Bool (throughout_step L) section_throughout_step _ ∙
      list_holds y.list (subst (λ (z : SectionTree). Everywhere T z.list) (section_roll _) h)))

  pub items_hold : (xs : List Item) → Everywhere T (trees_of xs) → all_hold_throughout L xs ≡ true
  unfolding trees_of
  items_hold [] h = refl
  items_hold (x ∷ xs) h = both (holds x) (all_hold_throughout L xs) (item_holds x h.0) (items_hold xs h.1)

-- ---- no jump is left

-- an item that is no goto, label, jump or nested case label
abbrev pub IsFree : Tree → Type 0
IsFree (Z.Goto l) = ⊥
IsFree (Z.Mark l) = ⊥
IsFree (Z.Leap l) = ⊥
IsFree (Z.Arrival e) = ⊥
IsFree _ = Unit {0}

own_free : (y : Item-F Item Section) → IsFree (layer (map-Item Item Section Tree SectionTree tree_of section_tree y)) →
    is_jump_free_layer (map-Item Item Section Bool Bool (holds_throughout is_jump_free_layer) (section_holds_throughout is_jump_free_layer) y) ≡ true
own_free (Goto l) h = absurd h
own_free (Mark l) h = absurd h
own_free (Leap l) h = absurd h
own_free (Arrival e) h = absurd h
own_free _ h = refl

pub free_body : (xs : List Item) → Everywhere IsFree (trees_of xs) → is_jump_free xs ≡ true
free_body xs h = items_hold is_jump_free_layer IsFree own_free xs h

-- ---- plain

source_test_layer : (y : Test-F Test) → IsSourceTest (test_tree (roll-Test y)) → is_source_test (roll-Test y) ≡ true
unfolding test_tree
source_test_layer (OpenTest.Source e) h = subst (λ z. is_source_test z ≡ true) (sym (TestRolls.rolls-Source e)) refl
source_test_layer (OpenTest.On l) h = absurd (subst IsSourceTest (fold-roll-Test TestTree test_layer (OpenTest.On l)) h)
source_test_layer (OpenTest.Off l) h = absurd (subst IsSourceTest (fold-roll-Test TestTree test_layer (OpenTest.Off l)) h)
source_test_layer (OpenTest.AndOff l t) h = absurd (subst IsSourceTest (fold-roll-Test TestTree test_layer (OpenTest.AndOff l t)) h)
source_test_layer (OpenTest.OrOn l t) h = absurd (subst IsSourceTest (fold-roll-Test TestTree test_layer (OpenTest.OrOn l t)) h)

source_test : (t : Test) → IsSourceTest (test_tree t) → is_source_test t ≡ true
source_test t h = subst (λ z. is_source_test z ≡ true) (roll-out-Test t)
    (source_test_layer (out-Test t) (subst (λ z. IsSourceTest (test_tree z)) (sym (roll-out-Test t)) h))

source_selector_layer : (y : Selector-F Selector) → IsSourceSelector (selector_tree (roll-Selector y)) → is_source_selector (roll-Selector y) ≡ true
unfolding selector_tree
source_selector_layer (OpenSelector.Source e) h = subst (λ z. is_source_selector z ≡ true) (sym (SelectorRolls.rolls-Source e)) refl
source_selector_layer (OpenSelector.Pick l n t) h = absurd (subst IsSourceSelector (fold-roll-Selector SelectorTree selector_layer (OpenSelector.Pick l n t)) h)

source_selector : (t : Selector) → IsSourceSelector (selector_tree t) → is_source_selector t ≡ true
source_selector t h = subst (λ z. is_source_selector z ≡ true) (roll-out-Selector t)
    (source_selector_layer (out-Selector t) (subst (λ z. IsSourceSelector (selector_tree z)) (sym (roll-out-Selector t)) h))

own_plain : (y : Item-F Item Section) → IsPlainItem (layer (map-Item Item Section Tree SectionTree tree_of section_tree y)) →
    is_plain_layer (map-Item Item Section Bool Bool (holds_throughout is_plain_layer) (section_holds_throughout is_plain_layer) y) ≡ true
own_plain (Goto l) h = absurd h
own_plain (Mark l) h = absurd h
own_plain (Leap l) h = absurd h
own_plain (Arrival e) h = absurd h
own_plain (Arm l e) h = absurd h
own_plain (Land l) h = absurd h
own_plain (If t a b) h = source_test t h
own_plain (While t a) h = source_test t h
own_plain (Do a t) h = source_test t h
own_plain (Switch s cs) h = source_selector s h
own_plain _ h = refl

pub plain_body : (xs : List Item) → Everywhere IsPlainItem (trees_of xs) → is_plain xs ≡ true
plain_body xs h = items_hold is_plain_layer IsPlainItem own_plain xs h
