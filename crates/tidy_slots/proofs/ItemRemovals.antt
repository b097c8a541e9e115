-- Each form of a test and of a selector with other numbers; lists and sections, entry by entry.
use mathlib.Core.Path.{ap₂}
use Rattle.std.proofs.Common.{ℕ, suc, ℤ, ◌<◌, arith, List, [], ◌∷◌, length, get_or, ◌≡◌, sym, ap, ◌∙◌}
use Rattle.c_tree.specs.declared.tree.Expression.{Expression}
use Rattle.c_tree.specs.declared.tree.Test.{Test, Source, On, Off, AndOff, OrOn}
use Rattle.c_tree.specs.declared.tree.Selector as S
use Rattle.c_tree.specs.declared.tree.Item.{Item}
use Rattle.c_tree.specs.declared.tree.Section as Real
use Rattle.c_tree.specs.Paths.{list_of, with_list}
use Rattle.c_tree.specs.ExpressionTrees.{expression_tree}
use Rattle.c_tree.specs.TestTrees as P
use Rattle.c_tree.specs.TestTrees.{test_tree, selector_tree}
use Rattle.c_tree.specs.Trees.{Then, Sections, Section, expression_trees, trees_of, sections_of}
use Rattle.c_tree.proofs.ExpressionLaws.{test-Source, test-On, test-Off, test-AndOff, test-OrOn, selector-Source, selector-Pick}
use Rattle.c_tree.proofs.TreeLaws.{trees-none, sections-none}
use Rattle.c_tree.specs.Views.{tree_at, before}
use Rattle.c_tree.proofs.Views.{trees-first, section-first}
use Rattle.tidy_laws.specs.Renamed.{renamed, renamed_test, renamed_selector, renamed_item, renamed_list, renamed_sections}

module _ (g : ℕ → ℕ) where
  abbrev SameTest : Test → Test → Type 0
  SameTest t u = test_tree u ≡ renamed_test g (test_tree t)

  in_form : (t : Test) (u : Test) (x : P.TestTree) → t ≡ u → test_tree u ≡ x → renamed_test g (test_tree t) ≡ renamed_test g x
  in_form t u x e h = ap (λ t. renamed_test g (test_tree t)) e ∙ ap (renamed_test g) h

  pub of-Source : (t : Test) (a b : Expression) → t ≡ Source a → expression_tree b ≡ renamed g (expression_tree a) → SameTest t (Source b)
  of-Source t a b e h = test-Source b ∙ ap P.Source h ∙ sym (in_form t (Source a) _ e (test-Source a))

  pub of-On : (t : Test) (l : ℕ) → t ≡ On l → SameTest t (On l)
  of-On t l e = test-On l ∙ sym (in_form t (On l) _ e (test-On l))

  pub of-Off : (t : Test) (l : ℕ) → t ≡ Off l → SameTest t (Off l)
  of-Off t l e = test-Off l ∙ sym (in_form t (Off l) _ e (test-Off l))

  pub of-AndOff : (t : Test) (l : ℕ) (u v : Test) → t ≡ AndOff l u → SameTest u v → SameTest t (AndOff l v)
  of-AndOff t l u v e h = test-AndOff l v ∙ ap (P.AndOff l) h ∙ sym (in_form t (AndOff l u) _ e (test-AndOff l u))

  pub of-OrOn : (t : Test) (l : ℕ) (u v : Test) → t ≡ OrOn l u → SameTest u v → SameTest t (OrOn l v)
  of-OrOn t l u v e h = test-OrOn l v ∙ ap (P.OrOn l) h ∙ sym (in_form t (OrOn l u) _ e (test-OrOn l u))

  abbrev SameSelector : S.Selector → S.Selector → Type 0
  SameSelector s r = selector_tree r ≡ renamed_selector g (selector_tree s)

  pub selects-Source : (s : S.Selector) (a b : Expression) → s ≡ S.Source a → expression_tree b ≡ renamed g (expression_tree a) → SameSelector s (S.Source b)
  selects-Source s a b e h = selector-Source b ∙ ap P.Selects h ∙ sym
      (ap (λ s. renamed_selector g (selector_tree s)) e ∙ ap (renamed_selector g) (selector-Source a))

  pub selects-Pick : (s : S.Selector) (l : ℕ) (z y : ℤ) (r q : S.Selector) → s ≡ S.Pick l z r → y ≡ z → SameSelector r q → SameSelector s (S.Pick l y q)
  selects-Pick s l z y r q e i h = selector-Pick l y q ∙ ap₂ (P.Pick l) i h ∙
      sym (ap (λ s. renamed_selector g (selector_tree s)) e ∙ ap (renamed_selector g) (selector-Pick l z r))

-- ---- lists

module _ (g : ℕ → ℕ) where
  abbrev pub SameItem : Item → Item → Type 0
  SameItem x y = tree_at y ≡ renamed_item g (tree_at x)

  pub items_same : (xs ys : List Item) → length ys ≡ length xs → ((k : ℕ) (d : Item) → k < length ys → SameItem (get_or xs k d) (get_or ys k d)) →
      trees_of ys ≡ renamed_list g (trees_of xs)
  items_same [] [] e h = trees-none ∙ sym (ap (renamed_list g) trees-none)
  items_same [] (y ∷ ys) e h = absurd (omega (arith, e))
  items_same (x ∷ xs) [] e h = absurd (omega (arith, e))
  items_same (x ∷ xs) (y ∷ ys) e h =
      trees-first y ys ∙ ap₂ Then (h 0 x (omega arith)) (items_same xs ys (omega (arith, e)) (λ k d l. h (suc k) d (omega (arith, l))))
      ∙ sym (ap (renamed_list g) (trees-first x xs))

  abbrev pub SameSection : Real.Section → Real.Section → Type 0
  SameSection s t = (trees_of (list_of t) ≡ renamed_list g (trees_of (list_of s))) × (t ≡ with_list (list_of t) s)

  section_same : (s t : Real.Section) (d : Sections) → SameSection s t → before t (renamed_sections g d) ≡ renamed_sections g (before s d)
  section_same s t d h =
      let o = Real.out-Section s in
      ap (λ c. before c (renamed_sections g d)) h.1
      ∙ ap (λ o. Section (expression_trees o.cases) o.default (trees_of o.list) o.ends (renamed_sections g d))
      (Real.out-roll-Section (record { cases = o.cases; default = o.default; list = list_of t; ends = o.ends }))
      ∙ ap (λ a. Section (expression_trees o.cases) o.default a o.ends (renamed_sections g d)) h.0

  pub sections_same : (xs ys : List Real.Section) → length ys ≡ length xs →
      ((k : ℕ) (d : Real.Section) → k < length ys → SameSection (get_or xs k d) (get_or ys k d)) → sections_of ys ≡ renamed_sections g (sections_of xs)
  sections_same [] [] e h = sections-none ∙ sym (ap (renamed_sections g) sections-none)
  sections_same [] (y ∷ ys) e h = absurd (omega (arith, e))
  sections_same (x ∷ xs) [] e h = absurd (omega (arith, e))
  sections_same (x ∷ xs) (y ∷ ys) e h =
      section-first y ys ∙ ap (before y) (sections_same xs ys (omega (arith, e)) (λ k d l. h (suc k) d (omega (arith, l))))
      ∙ section_same x y (sections_of xs) (h 0 x (omega arith))
      ∙ sym (ap (renamed_sections g) (section-first x xs))
