-- Each label whose guard is named in a body is left, and the slots of those that are left are new and apart.
use Rattle.std.proofs.Common.{◌≡◌, ℕ, suc, ◌+◌, ◌≤◌, ◌<◌, ◌==◌, Bool, true, false, ◌||◌, cond, eqb, List, [], ◌∷◌, map, length, refl, sym, ap, subst, ◌∙◌, true≢false, eqb-true, eq-eqb, arith}
use Rattle.std.proofs.lemmas.Bool.{or_left, or_right, eqb-false}
use Rattle.c_tree.specs.declared.tree.Item.{Item, Item-F, roll-Item, fold-roll-Item, ind-Item, map-Item}
use Rattle.c_tree.specs.declared.tree.Item.TheOpen.{Section-F, If, While, Do, For, Switch, Block, Arm, Land}
use Rattle.c_tree.specs.declared.tree.Section.{Section, roll-Section, fold-roll-Section}
use Rattle.c_tree.specs.declared.tree.Test.{Test, Test-F, roll-Test, ind-Test, map-Test, fold-roll-Test}
use Rattle.c_tree.specs.declared.tree.Test.TheOpen as OpenTest
use Rattle.c_tree.specs.declared.tree.Test.TheVariants.{rolls-Source, rolls-On, rolls-Off, rolls-AndOff, rolls-OrOn}
use Rattle.c_tree.specs.declared.tree.Selector.{Selector, Selector-F, roll-Selector, ind-Selector, map-Selector, fold-roll-Selector}
use Rattle.c_tree.specs.declared.tree.Selector.TheOpen as OpenSelector
use Rattle.c_tree.specs.declared.tree.Selector.TheVariants as SelectorRolls
use Rattle.c_tree.specs.TestTrees.{test_tree, selector_tree}
use Rattle.c_tree.specs.Trees.{Tree, SectionTree, forest, sections, layer, section_layer, tree_of, section_tree, trees_of}
use Rattle.c_tree.specs.Everywhere.{Everywhere, EverywhereOf, EverywhereIn}
use Rattle.c_tree.specs.Labels.{TestLabels, SelectorLabels}
use Rattle.c_tree.proofs.ExpressionLaws.{test-Source, test-On, test-Off, test-AndOff, test-OrOn, selector-Source, selector-Pick}
use Rattle.plain_laws.specs.Slotted.{ArmLabels, AreInts}
use Rattle.plain_laws.specs.Plain.{test_names_step, test_names, selector_names_step, selector_names, any_true, names_step, section_names_step, item_names, section_names, is_left, labels_left, names_left, slot_among, guard_slot}

-- a label of which it is known that it is named has R
module _ (R : ℕ → Type 0) where
  abbrev TestNamed : Test → Type 0
  TestNamed t = ((l : ℕ) → test_names l t ≡ true → R l) → TestLabels R (test_tree t)

  abbrev T : Type 0
  T = (t : Test) × TestNamed t

  test_rolled : (l : ℕ) (z : Test-F Test) → test_names_step l (map-Test Test Bool (test_names l) z) ≡ true → test_names l (roll-Test z) ≡ true
  test_rolled l z e = fold-roll-Test Bool (test_names_step l) z ∙ e

  test_form : (y : Test-F T) → ((l : ℕ) → test_names_step l (map-Test Test Bool (test_names l) (map-Test T Test (λ e. e.0) y)) ≡ true → R l) →
      TestLabels R (test_tree (roll-Test (map-Test T Test (λ e. e.0) y)))
  test_form (OpenTest.Source c) h = subst (TestLabels R) (sym (ap test_tree (rolls-Source c) ∙ test-Source c)) tt
  test_form (OpenTest.On l) h = subst (TestLabels R) (sym (ap test_tree (rolls-On l) ∙ test-On l)) (h l (eq-eqb l l refl))
  test_form (OpenTest.Off l) h = subst (TestLabels R) (sym (ap test_tree (rolls-Off l) ∙ test-Off l)) (h l (eq-eqb l l refl))
  test_form (OpenTest.AndOff l t) h =
      subst (TestLabels R) (sym (ap test_tree (rolls-AndOff l t.0) ∙ test-AndOff l t.0))
      (h l (or_left (eqb l l) _ (eq-eqb l l refl)), t.1 (λ m e. h m (or_right (eqb l m) _ e)))
  test_form (OpenTest.OrOn l t) h =
      subst (TestLabels R) (sym (ap test_tree (rolls-OrOn l t.0) ∙ test-OrOn l t.0))
      (h l (or_left (eqb l l) _ (eq-eqb l l refl)), t.1 (λ m e. h m (or_right (eqb l m) _ e)))

  test_named : (t : Test) → TestNamed t
  test_named = ind-Test TestNamed (λ x y e. subst (λ (z : Test-F Test). TestNamed (roll-Test z)) e (λ h. test_form y (λ l i. h l (test_rolled l _ i))))

  abbrev SelectorNamed : Selector → Type 0
  SelectorNamed s = ((l : ℕ) → selector_names l s ≡ true → R l) → SelectorLabels R (selector_tree s)

  abbrev S : Type 0
  S = (s : Selector) × SelectorNamed s

  selector_form : (y : Selector-F S) → ((l : ℕ) → selector_names_step l
      (map-Selector Selector Bool (selector_names l) (map-Selector S Selector (λ e. e.0) y)) ≡ true → R l) →
      SelectorLabels R (selector_tree (roll-Selector (map-Selector S Selector (λ e. e.0) y)))
  selector_form (OpenSelector.Source c) h = subst (SelectorLabels R) (sym (ap selector_tree (SelectorRolls.rolls-Source c) ∙ selector-Source c)) tt
  selector_form (OpenSelector.Pick l z s) h =
      subst (SelectorLabels R) (sym (ap selector_tree (SelectorRolls.rolls-Pick l z s.0) ∙ selector-Pick l z s.0))
      (h l (or_left (eqb l l) _ (eq-eqb l l refl)), s.1 (λ m e. h m (or_right (eqb l m) _ e)))

  selector_named : (s : Selector) → SelectorNamed s
  selector_named = ind-Selector SelectorNamed (λ x y e. subst (λ (z : Selector-F Selector). SelectorNamed (roll-Selector z)) e
      (λ h. selector_form y (λ l i. h l (fold-roll-Selector Bool (selector_names_step l) _ ∙ i))))

  -- ---- items

  abbrev ItemNamed : Item → Type 0
  ItemNamed x = ((l : ℕ) → item_names l x ≡ true → R l) → EverywhereOf (ArmLabels R) (tree_of x)

  abbrev SectionNamed : Section → Type 0
  SectionNamed c = ((l : ℕ) → section_names l c ≡ true → R l) → Everywhere (ArmLabels R) (section_tree c).list

  abbrev I : Type 0
  I = (x : Item) × ItemNamed x

  abbrev C : Type 0
  C = (c : Section) × SectionNamed c

  abbrev item : I → Item
  item e = e.0

  abbrev section : C → Section
  section e = e.0

  list_named : (a : List I) → ((l : ℕ) → any_true (map (item_names l) (map item a)) ≡ true → R l) → Everywhere (ArmLabels R) (forest (map tree_of (map item a)))
  list_named [] h = tt
  list_named (e ∷ a) h = (e.1 (λ l i. h l (or_left (item_names l e.0) _ i)), list_named a (λ l i. h l (or_right (item_names l e.0) _ i)))

  sections_named : (a : List C) → ((l : ℕ) → any_true (map (section_names l) (map section a)) ≡ true → R l) →
      EverywhereIn (ArmLabels R) (sections (map section_tree (map section a)))
  sections_named [] h = tt
  sections_named (e ∷ a) h = (e.1 (λ l i. h l (or_left (section_names l e.0) _ i)), sections_named a (λ l i. h l (or_right (section_names l e.0) _ i)))

  layer_named : (y : Item-F I C)
      → ((l : ℕ) → names_step l (map-Item Item Section Bool Bool (item_names l) (section_names l) (map-Item I C Item Section item section y)) ≡ true → R l)
      → EverywhereOf (ArmLabels R) (layer (map-Item Item Section Tree SectionTree tree_of section_tree (map-Item I C Item Section item section y)))
  layer_named (If t a b) h = (
    test_named t (λ l i. h l (or_left (test_names l t) _ i)),
    list_named a (λ l i. h l (or_right (test_names l t) _ (or_left (any_true (map (item_names l) (map item a))) _ i))),
    list_named b (λ l i. h l (or_right (test_names l t) _ (or_right (any_true (map (item_names l) (map item a))) _ i))),
  )
  layer_named (While t a) h = (test_named t (λ l i. h l (or_left (test_names l t) _ i)), list_named a (λ l i. h l (or_right (test_names l t) _ i)))
  layer_named (Do a t) h = (test_named t (λ l i. h l (or_left (test_names l t) _ i)), list_named a (λ l i. h l (or_right (test_names l t) _ i)))
  layer_named (For f t u a) h = (
    tt,
    list_named f (λ l i. h l (or_left (any_true (map (item_names l) (map item f))) _ i)),
    list_named a (λ l i. h l (or_right (any_true (map (item_names l) (map item f))) _ i)),
  )
  layer_named (Switch s cs) h = (
    selector_named s (λ l i. h l (or_left (selector_names l s) _ i)),
    sections_named cs (λ l i. h l (or_right (selector_names l s) _ i)),
  )
  layer_named (Block a) h = (tt, list_named a h)
  layer_named (Arm l e) h = h l (eq-eqb l l refl)
  layer_named (Land l) h = h l (eq-eqb l l refl)
  layer_named _ h = tt

  item_named : (x : Item) → ItemNamed x
  unfolding tree_of section_tree
  item_named = ind-Item ItemNamed SectionNamed
      (λ x y e. subst (λ (z : Item-F Item Section). ItemNamed (roll-Item z)) e (λ h.
      subst (EverywhereOf (ArmLabels R)) (sym (fold-roll-Item Tree SectionTree layer section_layer _))
      (layer_named y (λ l i. h l (fold-roll-Item Bool Bool (names_step l) section_names_step _ ∙ i)))))
      (λ x y e. subst (λ (z : Section-F Item Section). SectionNamed (roll-Section z)) e (λ h.
      subst (λ (z : SectionTree). Everywhere (ArmLabels R) z.list) (sym (fold-roll-Section Tree SectionTree layer section_layer _))
      (list_named y.list (λ l i. h l (fold-roll-Section Bool Bool (names_step l) section_names_step _ ∙ i)))))

  -- each label that a body names has what those that are left have
  pub body_named : (xs : List Item) → ((l : ℕ) → is_left xs l ≡ true → R l) → Everywhere (ArmLabels R) (trees_of xs)
  unfolding trees_of
  body_named [] h = tt
  body_named (x ∷ xs) h = (item_named x (λ l i. h l (or_left (item_names l x) _ i)), body_named xs (λ l i. h l (or_right (item_names l x) _ i)))

-- ---- the labels that are left, and their slots

abbrev pub is_among : ℕ → List ℕ → Bool
is_among l [] = false
is_among l (m ∷ ms) = m == l || is_among l ms

among_by : (b c : Bool) (n l : ℕ) (ls : List ℕ) → eqb n l ≡ c → (c ≡ true → b ≡ true) → (c ≡ false → is_among l ls ≡ true) →
    is_among l (cond b (n ∷ ls) ls) ≡ true
among_by true true n l ls q h k = or_left (eqb n l) _ q
among_by true false n l ls q h k = or_right (eqb n l) _ (k refl)
among_by false true n l ls q h k = absurd (true≢false (sym (h refl)))
among_by false false n l ls q h k = k refl

-- a label that is left is among them
pub left_among : (xs : List Item) (n : ℕ) (ms : List (List ℕ)) (l : ℕ) → is_left xs l ≡ true → n ≤ l → l < n + length ms →
    is_among l (labels_left xs n ms) ≡ true
left_among xs n [] l e g h = absurd (omega (arith, g, h))
left_among xs n (m ∷ ms) l e g h =
    among_by (is_left xs n) (eqb n l) n l (labels_left xs (n + 1) ms) refl (λ q. ap (is_left xs) (eqb-true n l q) ∙ e)
    (λ q. let d = eqb-false n l q in left_among xs (n + 1) ms l e (grind arith) (omega (arith, h)))

chosen_below : (c : Bool) (n x y : ℕ) → n ≤ x → n ≤ y → n ≤ cond c x y
chosen_below true n x y h g = h
chosen_below false n x y h g = g

pub slot_below : (base : ℕ) (ms : List ℕ) (l : ℕ) → base ≤ slot_among base ms l
slot_below base [] l = omega arith
slot_below base (m ∷ ms) l = let i = slot_below (base + 1) ms l in chosen_below (eqb m l) base base (slot_among (base + 1) ms l) (omega arith)
    (omega (arith, i))

within_by : (c : Bool) (base n x : ℕ) (rest : Bool) → (c || rest) ≡ true → (rest ≡ true → x < (base + 1) + n) → cond c base x < base + suc n
within_by true base n x rest e h = omega arith
within_by false base n x rest e h = let i = h e in omega (arith, i)

pub slot_within : (base : ℕ) (ms : List ℕ) (l : ℕ) → is_among l ms ≡ true → slot_among base ms l < base + length ms
slot_within base [] l e = cc
slot_within base (m ∷ ms) l e = within_by (eqb m l) base (length ms) (slot_among (base + 1) ms l) (is_among l ms) e (λ i. slot_within (base + 1) ms l i)

apart_by : (b c : Bool) (base k l x y : ℕ) (p q : Bool) (m : ℕ) → eqb m k ≡ b → eqb m l ≡ c → base + 1 ≤ x → base + 1 ≤ y → (b || p) ≡ true →
    (c || q) ≡ true → (p ≡ true → q ≡ true → x ≡ y → k ≡ l) → cond b base x ≡ cond c base y → k ≡ l
apart_by true true base k l x y p q m e f g h i j r z = sym (eqb-true m k e) ∙ eqb-true m l f
apart_by true false base k l x y p q m e f g h i j r z = absurd (omega (arith, h, z))
apart_by false true base k l x y p q m e f g h i j r z = absurd (omega (arith, g, z))
apart_by false false base k l x y p q m e f g h i j r z = r i j z

pub slot_apart : (base : ℕ) (ms : List ℕ) (k l : ℕ) → is_among k ms ≡ true → is_among l ms ≡ true → slot_among base ms k ≡ slot_among base ms l → k ≡ l
slot_apart base [] k l e f z = cc
slot_apart base (m ∷ ms) k l e f z =
    apart_by (eqb m k) (eqb m l) base k l (slot_among (base + 1) ms k) (slot_among (base + 1) ms l) (is_among k ms) (is_among l ms) m refl refl
    (slot_below (base + 1) ms k) (slot_below (base + 1) ms l) e f (λ i j r. slot_apart (base + 1) ms k l i j r) z

-- ---- the slots of guards

count_by : (b : Bool) (n : ℕ) (m : List ℕ) (ls : List ℕ) (ns : List (List ℕ)) → length (map guard_slot ns) ≡ length ls →
    length (map guard_slot (cond b (m ∷ ns) ns)) ≡ length (cond b (n ∷ ls) ls)
count_by true n m ls ns e = ap suc e
count_by false n m ls ns e = e

-- as many as labels
pub slots_left : (xs : List Item) (n : ℕ) (ms : List (List ℕ)) → length (map guard_slot (names_left xs n ms)) ≡ length (labels_left xs n ms)
slots_left xs n [] = refl
slots_left xs n (m ∷ ms) = count_by (is_left xs n) n m (labels_left xs (n + 1) ms) (names_left xs (n + 1) ms) (slots_left xs (n + 1) ms)

pub guard_slots_ints : (ns : List (List ℕ)) → AreInts (map guard_slot ns)
guard_slots_ints [] = tt
guard_slots_ints (n ∷ ns) = (refl, refl, guard_slots_ints ns)

-- as many as names at most
few_by : (b : Bool) (n : List ℕ) (m : ℕ) (ns : List (List ℕ)) → length ns ≤ m → length (cond b (n ∷ ns) ns) ≤ suc m
few_by true n m ns h = omega (arith, h)
few_by false n m ns h = omega (arith, h)

few_from : (xs : List Item) (n : ℕ) (ms : List (List ℕ)) → length (names_left xs n ms) ≤ length ms
few_from xs n [] = omega arith
few_from xs n (m ∷ ms) = few_by (is_left xs n) m (length ms) (names_left xs (n + 1) ms) (few_from xs (n + 1) ms)

pub few_names : (xs : List Item) (ms : List (List ℕ)) → length (names_left xs 0 ms) ≤ length ms
few_names xs ms = few_from xs 0 ms
