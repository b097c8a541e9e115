-- An item by its plain tree: the item itself, and how it is printed.
use Rattle.std.proofs.Common.{◌≡◌, Bool, List, [], ◌∷◌, map, Option, Some, None, refl, ap, sym, subst, ◌∙◌}
use Rattle.std.specs.Prelude.{option_map}
use Rattle.c_tree.specs.declared.tree.Function.{Function}
use Rattle.c_tree.specs.declared.tree.Expression.{Expression}
use Rattle.c_tree.specs.declared.tree.Test.{Test, Test-F, roll-Test, ind-Test, map-Test}
use Rattle.c_tree.specs.declared.tree.Test as test
use Rattle.c_tree.specs.declared.tree.Test.TheOpen as OT
use Rattle.c_tree.specs.declared.tree.Test.TheVariants as TV
use Rattle.c_tree.specs.declared.tree.Selector.{Selector, Selector-F, roll-Selector, ind-Selector, map-Selector}
use Rattle.c_tree.specs.declared.tree.Selector as selector
use Rattle.c_tree.specs.declared.tree.Selector.TheOpen as OS
use Rattle.c_tree.specs.declared.tree.Selector.TheVariants as SV
use Rattle.c_tree.specs.declared.tree.Item.{Item, Item-F, roll-Item, map-Item, ind-Item, fold-roll-Item}
use Rattle.c_tree.specs.declared.tree.Item as item
use Rattle.c_tree.specs.declared.tree.Item.TheOpen as I
use Rattle.c_tree.specs.declared.tree.Item.TheVariants as V
use Rattle.c_tree.specs.declared.tree.Section.{Section as RealSection, roll-Section, map-Section, fold-roll-Section}
use Rattle.c_tree.specs.ExpressionTrees.{expression_tree}
use Rattle.c_tree.specs.TestTrees.{TestTree, SelectorTree, test_tree, selector_tree}
use Rattle.c_tree.specs.TestTrees as te
use Rattle.c_tree.proofs.ExpressionLaws.{test-Source, test-On, test-Off, test-AndOff, test-OrOn, selector-Source, selector-Pick}
use Rattle.c_tree.specs.Trees.{Tree, Forest, Nil, Then, Sections, NoSection, Section, SectionTree, forest, sections, expression_trees, layer, section_layer, tree_of, section_tree, trees_of}
use Rattle.c_tree.specs.Trees as t
use Rattle.c_tree.specs.TextItems.{Printed, PrintedSection, item_step, section_step, printed, printed_section}
use Rattle.reread_parts_laws.proofs.Mirrors.{expression_in, whole}

-- ---- tests and selectors

abbrev pub test_in : TestTree → Test
test_in (te.Source e) = test.Source (expression_in e)
test_in (te.On l) = test.On l
test_in (te.Off l) = test.Off l
test_in (te.AndOff l x) = test.AndOff l (test_in x)
test_in (te.OrOn l x) = test.OrOn l (test_in x)

abbrev TestWhole : Test → Type 0
TestWhole x = test_in (test_tree x) ≡ x

test_form : (y : Test-F ((x : Test) × TestWhole x)) → TestWhole (roll-Test (map-Test ((x : Test) × TestWhole x) Test (λ e. e.0) y))
test_form (OT.Source e) = ap test_in (ap test_tree (TV.rolls-Source e) ∙ test-Source e) ∙ ap test.Source (whole e) ∙ sym (TV.rolls-Source e)
test_form (OT.On l) = ap test_in (ap test_tree (TV.rolls-On l) ∙ test-On l) ∙ sym (TV.rolls-On l)
test_form (OT.Off l) = ap test_in (ap test_tree (TV.rolls-Off l) ∙ test-Off l) ∙ sym (TV.rolls-Off l)
test_form (OT.AndOff l x) = ap test_in (ap test_tree (TV.rolls-AndOff l x.0) ∙ test-AndOff l x.0) ∙ ap (test.AndOff l) x.1 ∙ sym (TV.rolls-AndOff l x.0)
test_form (OT.OrOn l x) = ap test_in (ap test_tree (TV.rolls-OrOn l x.0) ∙ test-OrOn l x.0) ∙ ap (test.OrOn l) x.1 ∙ sym (TV.rolls-OrOn l x.0)

test_whole : (x : Test) → TestWhole x
test_whole = ind-Test TestWhole (λ x y e. subst (λ (z : Test-F Test). TestWhole (roll-Test z)) e (test_form y))

abbrev pub selector_in : SelectorTree → Selector
selector_in (te.Selects e) = selector.Source (expression_in e)
selector_in (te.Pick l k x) = selector.Pick l k (selector_in x)

abbrev SelectorWhole : Selector → Type 0
SelectorWhole x = selector_in (selector_tree x) ≡ x

selector_form : (y : Selector-F ((x : Selector) × SelectorWhole x)) → SelectorWhole
    (roll-Selector (map-Selector ((x : Selector) × SelectorWhole x) Selector (λ e. e.0) y))
selector_form (OS.Source e) = ap selector_in (ap selector_tree (SV.rolls-Source e) ∙ selector-Source e) ∙ ap selector.Source (whole e) ∙ sym (SV.rolls-Source e)
selector_form (OS.Pick l k x) = ap selector_in (ap selector_tree (SV.rolls-Pick l k x.0) ∙ selector-Pick l k x.0) ∙ ap (selector.Pick l k) x.1 ∙
    sym (SV.rolls-Pick l k x.0)

selector_whole : (x : Selector) → SelectorWhole x
selector_whole = ind-Selector SelectorWhole (λ x y e. subst (λ (z : Selector-F Selector). SelectorWhole (roll-Selector z)) e (selector_form y))

-- ---- expressions that may be left out, and lists of them

pub option_whole : (o : Option Expression) → option_map expression_in (option_map expression_tree o) ≡ o
option_whole None = refl
option_whole (Some e) = ap Some (whole e)

pub list_whole : (es : List Expression) → map expression_in (expression_trees es) ≡ es
list_whole [] = refl
list_whole (e ∷ es) = λ i. whole e i ∷ list_whole es i

pub given_whole : (o : Option (List Expression)) → option_map (map expression_in) (option_map expression_trees o) ≡ o
given_whole None = refl
given_whole (Some es) = ap Some (list_whole es)

-- ---- the item that a plain tree is of

abbrev pub a_section : List Expression → Bool → List Item → Bool → RealSection
a_section cases default list ends = roll-Section (record { cases = cases; default = default; list = list; ends = ends })

abbrev mutual
  pub tree_in : Tree → Item
  tree_in (t.Evaluate e) = item.Evaluate (expression_in e)
  tree_in (t.Return e) = item.Return (option_map expression_in e)
  tree_in (t.If x a b) = item.If (test_in x) (forest_in a) (forest_in b)
  tree_in (t.While x a) = item.While (test_in x) (forest_in a)
  tree_in (t.Do a x) = item.Do (forest_in a) (test_in x)
  tree_in (t.For a u v d) = item.For (forest_in a) (option_map expression_in u) (option_map expression_in v) (forest_in d)
  tree_in (t.Switch s c) = item.Switch (selector_in s) (sections_in c)
  tree_in (t.Block a) = item.Block (forest_in a)
  tree_in (t.Local k given) = item.Local k (option_map (map expression_in) given)
  tree_in t.Break = item.Break
  tree_in t.Continue = item.Continue
  tree_in (t.Goto l) = item.Goto l
  tree_in (t.Mark l) = item.Mark l
  tree_in (t.Arm l e) = item.Arm l (option_map expression_in e)
  tree_in (t.Leap l) = item.Leap l
  tree_in (t.Land l) = item.Land l
  tree_in (t.Arrival e) = item.Arrival (option_map expression_in e)
  tree_in (t.Note bytes) = item.Note bytes

  pub forest_in : Forest → List Item
  forest_in Nil = []
  forest_in (Then x xs) = tree_in x ∷ forest_in xs

  pub sections_in : Sections → List RealSection
  sections_in NoSection = []
  sections_in (Section cases default a ends c) = a_section (map expression_in cases) default (forest_in a) ends ∷ sections_in c

-- ---- how a plain tree is printed

abbrev mutual
  pub printed_tree : Function → Tree → Printed
  printed_tree f (t.Evaluate e) = item_step f (I.Evaluate (expression_in e))
  printed_tree f (t.Return e) = item_step f (I.Return (option_map expression_in e))
  printed_tree f (t.If x a b) = item_step f (I.If (test_in x) (printed_forest f a) (printed_forest f b))
  printed_tree f (t.While x a) = item_step f (I.While (test_in x) (printed_forest f a))
  printed_tree f (t.Do a x) = item_step f (I.Do (printed_forest f a) (test_in x))
  printed_tree f (t.For a u v d) = item_step f (I.For (printed_forest f a) (option_map expression_in u) (option_map expression_in v) (printed_forest f d))
  printed_tree f (t.Switch s c) = item_step f (I.Switch (selector_in s) (printed_sections f c))
  printed_tree f (t.Block a) = item_step f (I.Block (printed_forest f a))
  printed_tree f (t.Local k given) = item_step f (I.Local k (option_map (map expression_in) given))
  printed_tree f t.Break = item_step f I.Break
  printed_tree f t.Continue = item_step f I.Continue
  printed_tree f (t.Goto l) = item_step f (I.Goto l)
  printed_tree f (t.Mark l) = item_step f (I.Mark l)
  printed_tree f (t.Arm l e) = item_step f (I.Arm l (option_map expression_in e))
  printed_tree f (t.Leap l) = item_step f (I.Leap l)
  printed_tree f (t.Land l) = item_step f (I.Land l)
  printed_tree f (t.Arrival e) = item_step f (I.Arrival (option_map expression_in e))
  printed_tree f (t.Note bytes) = item_step f (I.Note bytes)

  pub printed_forest : Function → Forest → List Printed
  printed_forest f Nil = []
  printed_forest f (Then x xs) = printed_tree f x ∷ printed_forest f xs

  pub printed_sections : Function → Sections → List PrintedSection
  printed_sections f NoSection = []
  printed_sections f (Section cases default a ends c) = section_step f
      (record { cases = map expression_in cases; default = default; list = printed_forest f a; ends = ends }) ∷ printed_sections f c

-- ---- both are those of the item

module _ (f : Function) where
  abbrev Mirrors : Item → Printed → Tree → Type 0
  Mirrors x s y = (tree_in y ≡ x) × (s ≡ printed_tree f y)

  abbrev section_in : SectionTree → RealSection
  section_in c = a_section (map expression_in c.cases) c.default (forest_in c.list) c.ends

  abbrev printed_one : SectionTree → PrintedSection
  printed_one c = section_step f (record { cases = map expression_in c.cases; default = c.default; list = printed_forest f c.list; ends = c.ends })

  abbrev MirrorsSection : RealSection → PrintedSection → SectionTree → Type 0
  MirrorsSection x s y = (section_in y ≡ x) × (s ≡ printed_one y)

  abbrev AtItem : Item → Type 0
  AtItem x = Mirrors x (printed f x) (tree_of x)

  abbrev AtSection : RealSection → Type 0
  AtSection c = MirrorsSection c (printed_section f c) (section_tree c)

  abbrev IX : Type 0
  IX = (x : Item) × AtItem x

  abbrev IC : Type 0
  IC = (c : RealSection) × AtSection c

  abbrev item_at : IX → Item
  item_at x = x.0

  abbrev section_at : IC → RealSection
  section_at c = c.0

  forest_mirror : (xs : List IX) → let es = map item_at xs in (forest_in (forest (map tree_of es)) ≡ es) ×
      (map (printed f) es ≡ printed_forest f (forest (map tree_of es)))
  forest_mirror [] = (refl, refl)
  forest_mirror (x ∷ xs) = let r = forest_mirror xs in let o = x.1 in ((λ i. o.0 i ∷ r.0 i), (λ i. o.1 i ∷ r.1 i))

  sections_mirror : (xs : List IC) → let es = map section_at xs in (sections_in (sections (map section_tree es)) ≡ es) ×
      (map (printed_section f) es ≡ printed_sections f (sections (map section_tree es)))
  sections_mirror [] = (refl, refl)
  sections_mirror (x ∷ xs) = let r = sections_mirror xs in let o = x.1 in ((λ i. o.0 i ∷ r.0 i), (λ i. o.1 i ∷ r.1 i))

  abbrev open_item : Item-F IX IC → Item-F Item RealSection
  open_item y = map-Item IX IC Item RealSection item_at section_at y

  abbrev printed_parts : Item-F Item RealSection → Item-F Printed PrintedSection
  printed_parts z = map-Item Item RealSection Printed PrintedSection (printed f) (printed_section f) z

  abbrev tree_parts : Item-F Item RealSection → Item-F Tree SectionTree
  tree_parts z = map-Item Item RealSection Tree SectionTree tree_of section_tree z

  layer_mirrors : (y : Item-F IX IC) → Mirrors (roll-Item (open_item y)) (item_step f (printed_parts (open_item y))) (layer (tree_parts (open_item y)))
  layer_mirrors (I.Evaluate e) = (ap item.Evaluate (whole e) ∙ sym (V.rolls-Evaluate e), λ i. item_step f (I.Evaluate (sym (whole e) i)))
  layer_mirrors (I.Return e) = (ap item.Return (option_whole e) ∙ sym (V.rolls-Return e), λ i. item_step f (I.Return (sym (option_whole e) i)))
  layer_mirrors (I.If x a b) =
      let o = forest_mirror a in let r = forest_mirror b in (
        (λ i. item.If (test_whole x i) (o.0 i) (r.0 i)) ∙ sym (V.rolls-If x (map item_at a) (map item_at b)),
        λ i. item_step f (I.If (sym (test_whole x) i) (o.1 i) (r.1 i)),
      )
  layer_mirrors (I.While x a) = let o = forest_mirror a in (
    (λ i. item.While (test_whole x i) (o.0 i)) ∙ sym (V.rolls-While x (map item_at a)),
    λ i.
        item_step f (I.While (sym (test_whole x) i) (o.1 i)),
  )
  layer_mirrors (I.Do a x) = let o = forest_mirror a in (
    (λ i. item.Do (o.0 i) (test_whole x i)) ∙ sym (V.rolls-Do (map item_at a) x),
    λ i. item_step
        f (I.Do (o.1 i) (sym (test_whole x) i)),
  )
  layer_mirrors (I.For a u v d) =
      let o = forest_mirror a in let r = forest_mirror d in (
        (λ i. item.For (o.0 i) (option_whole u i) (option_whole v i) (r.0 i)) ∙ sym (V.rolls-For (map item_at a) u v (map item_at d)),
        λ i. item_step f (I.For (o.1 i) (sym (option_whole u) i) (sym (option_whole v) i) (r.1 i)),
      )
  layer_mirrors (I.Switch s c) = let o = sections_mirror c in (
    (λ i. item.Switch (selector_whole s i) (o.0 i)) ∙ sym (V.rolls-Switch s (map section_at c)),
    λ i. item_step f (I.Switch (sym (selector_whole s) i) (o.1 i)),
  )
  layer_mirrors (I.Block a) = let o = forest_mirror a in (ap item.Block (o.0) ∙ sym (V.rolls-Block (map item_at a)), λ i. item_step f (I.Block (o.1 i)))
  layer_mirrors (I.Local k given) = (
    ap (item.Local k) (given_whole given) ∙ sym (V.rolls-Local k given),
    λ i. item_step f (I.Local k (sym (given_whole given) i)),
  )
  layer_mirrors I.Break = (sym V.rolls-Break, refl)
  layer_mirrors I.Continue = (sym V.rolls-Continue, refl)
  layer_mirrors (I.Goto l) = (sym (V.rolls-Goto l), refl)
  layer_mirrors (I.Mark l) = (sym (V.rolls-Mark l), refl)
  layer_mirrors (I.Arm l e) = (ap (item.Arm l) (option_whole e) ∙ sym (V.rolls-Arm l e), λ i. item_step f (I.Arm l (sym (option_whole e) i)))
  layer_mirrors (I.Leap l) = (sym (V.rolls-Leap l), refl)
  layer_mirrors (I.Land l) = (sym (V.rolls-Land l), refl)
  layer_mirrors (I.Arrival e) = (ap item.Arrival (option_whole e) ∙ sym (V.rolls-Arrival e), λ i. item_step f (I.Arrival (sym (option_whole e) i)))
  layer_mirrors (I.Note bytes) = (sym (V.rolls-Note bytes), refl)

  abbrev open_section : I.Section-F IX IC → I.Section-F Item RealSection
  open_section y = map-Section IX IC Item RealSection item_at section_at y

  section_layer_mirrors : (y : I.Section-F IX IC) → MirrorsSection (roll-Section (open_section y))
      (section_step f (map-Section Item RealSection Printed PrintedSection (printed f) (printed_section f) (open_section y)))
      (section_layer (map-Section Item RealSection Tree SectionTree tree_of section_tree (open_section y)))
  section_layer_mirrors y =
      let o = forest_mirror y.list in (
        (λ i. a_section (list_whole y.cases i) y.default (o.0 i) y.ends),
        λ i. section_step f (record { cases = sym (list_whole y.cases) i; default = y.default; list = o.1 i; ends = y.ends }),
      )

  tree_rolls : (z : Item-F Item RealSection) → tree_of (roll-Item z) ≡ layer (tree_parts z)
  unfolding tree_of section_tree
  tree_rolls z = fold-roll-Item Tree SectionTree layer section_layer z

  section_rolls : (z : I.Section-F Item RealSection) → section_tree (roll-Section z) ≡ section_layer
      (map-Section Item RealSection Tree SectionTree tree_of section_tree z)
  unfolding tree_of section_tree
  section_rolls z = fold-roll-Section Tree SectionTree layer section_layer z

  pub item_mirrors : (x : Item) → AtItem x
  item_mirrors = ind-Item AtItem AtSection
      (λ x y e. subst (λ (z : Item-F Item RealSection). AtItem (roll-Item z)) e
      (subst (λ (p : Printed). Mirrors (roll-Item (open_item y)) p (tree_of (roll-Item (open_item y))))
      (sym (fold-roll-Item Printed PrintedSection (item_step f) (section_step f) _))
      (subst (λ (w : Tree). Mirrors (roll-Item (open_item y)) (item_step f (printed_parts (open_item y))) w) (sym (tree_rolls _)) (layer_mirrors y))))
      (λ x y e. subst (λ (z : I.Section-F Item RealSection). AtSection (roll-Section z)) e
      (subst (λ (p : PrintedSection). MirrorsSection (roll-Section (open_section y)) p (section_tree (roll-Section (open_section y))))
      (sym (fold-roll-Section Printed PrintedSection (item_step f) (section_step f) _))
      (subst (λ (w : SectionTree). MirrorsSection (roll-Section (open_section y))
      (section_step f (map-Section Item RealSection Printed PrintedSection (printed f) (printed_section f) (open_section y))) w)
      (sym (section_rolls _)) (section_layer_mirrors y))))

  -- a list of items is that of its plain trees, and printed as those are
  pub items_whole : (xs : List Item) → forest_in (trees_of xs) ≡ xs
  unfolding trees_of
  items_whole [] = refl
  items_whole (x ∷ xs) = λ i. (item_mirrors x).0 i ∷ items_whole xs i

  pub items_printed : (xs : List Item) → map (printed f) xs ≡ printed_forest f (trees_of xs)
  unfolding trees_of
  items_printed [] = refl
  items_printed (x ∷ xs) = λ i. (item_mirrors x).1 i ∷ items_printed xs i
