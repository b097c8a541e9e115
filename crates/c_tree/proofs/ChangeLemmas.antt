-- An exchange at a path changes the trees of a body in one place.
use Rattle.std.proofs.Common.{◌≡◌, ℕ, zero, suc, List, [], ◌∷◌, map, Some, option_map, take, drop, slice_get, slice_set, refl, sym, ap, subst, ◌∙◌}
use Rattle.c_tree.specs.declared.tree.Item.{Item, Item-F, out-Item, roll-Item, roll-out-Item, map-Item, fold-roll-Item}
use Rattle.c_tree.specs.declared.tree.Item.TheOpen as Open
use Rattle.c_tree.specs.declared.tree.Section as Real
use Rattle.c_tree.specs.declared.tree.Branch.{Branch}
use Rattle.c_tree.specs.declared.tree.Branch.TheVariants as B
use Rattle.c_tree.specs.declared.tree.Step.{Step}
use Rattle.c_tree.specs.Paths.{list_of, with_list, child_F, child, with_child_F, with_child, list_at, put_at}
use Rattle.c_tree.specs.ExpressionTrees.{expression_tree}
use Rattle.c_tree.specs.TestTrees.{test_tree, selector_tree}
use Rattle.c_tree.specs.Trees.{Tree, Forest, Then, Sections, Section, SectionTree, join, sections, layer, section_layer, expression_trees, tree_of, trees_of, section_tree, sections_of}
use Rattle.c_tree.specs.Changed as C
use Rattle.c_tree.specs.Changed.{Changed, ChangedSections, one}
use Rattle.c_tree.proofs.PathLemmas.{stepped, put_step, with_there, map_some}
use Rattle.c_tree.proofs.TreeLaws.{section-parts}

-- a list, at one of its items

pub trees-split : (xs : List Item) (i : ℕ) (x : Item) → slice_get xs i ≡ Some x →
    trees_of xs ≡ join (trees_of (take i xs)) (join (one (tree_of x)) (trees_of (drop (suc i) xs)))
unfolding trees_of
trees-split [] i x e = cc
trees-split (y ∷ ys) zero x e = let h : y ≡ x = cc in ap (λ z. Then (tree_of z) (trees_of ys)) h
trees-split (y ∷ ys) (suc i) x e = ap (Then (tree_of y)) (trees-split ys i x e)

pub trees-set : (xs : List Item) (i : ℕ) (x y : Item) → slice_get xs i ≡ Some x →
    trees_of (slice_set xs i y) ≡ join (trees_of (take i xs)) (join (one (tree_of y)) (trees_of (drop (suc i) xs)))
unfolding trees_of
trees-set [] i x y e = cc
trees-set (z ∷ zs) zero x y e = refl
trees-set (z ∷ zs) (suc i) x y e = ap (Then (tree_of z)) (trees-set zs i x y e)

-- one layer

abbrev pub layer_tree : Item-F Item Real.Section → Tree
layer_tree y = layer (map-Item Item Real.Section Tree SectionTree tree_of section_tree y)

pub tree-roll : (y : Item-F Item Real.Section) → tree_of (roll-Item y) ≡ layer_tree y
unfolding tree_of section_tree
tree-roll y = fold-roll-Item Tree SectionTree layer section_layer y

pub tree-out : (x : Item) → tree_of x ≡ layer_tree (out-Item x)
tree-out x = ap tree_of (sym (roll-out-Item x)) ∙ tree-roll (out-Item x)

abbrev parts_tree : Real.Section-F Item Real.Section → SectionTree
parts_tree z = record { cases = expression_trees z.cases; default = z.default; list = trees_of z.list; ends = z.ends }

abbrev pub relisted : SectionTree → Forest → SectionTree
relisted z a = record { cases = z.cases; default = z.default; list = a; ends = z.ends }

abbrev pub first : SectionTree → Sections → Sections
first z c = Section z.cases z.default z.list z.ends c

pub section-with : (w : List Item) (c : Real.Section) →
    section_tree (with_list w c) ≡ relisted (section_tree c) (trees_of w)
section-with w c =
    let o = Real.out-Section c in
    section-parts (with_list w c)
    ∙ ap (λ (z : Real.Section-F Item Real.Section). parts_tree z)
    (Real.out-roll-Section (record { cases = o.cases; default = o.default; list = w; ends = o.ends }))
    ∙ ap (λ (z : SectionTree). relisted z (trees_of w)) (sym (section-parts c))

module _ (R : Forest → Forest → Type 0) where
  sections_changed : (cs : List Real.Section) (k : ℕ) (c : Real.Section) (w : List Item) → slice_get cs k ≡ Some c →
      Changed R (trees_of (list_of c)) (trees_of w)
      → ChangedSections R (sections_of cs) (sections_of (slice_set cs k (with_list w c)))
  unfolding sections_of
  sections_changed [] k c w e h = cc
  sections_changed (d ∷ cs) zero c w e h =
      let f : d ≡ c = cc in
      let s = section_tree c in
      let rest = sections (map section_tree cs) in
      let g = subst (λ z. Changed R z (trees_of w)) (sym (ap (λ (z : SectionTree). z.list) (section-parts c))) h in
      subst (λ z. ChangedSections R (first (section_tree z) rest) (first (section_tree (with_list w c)) rest)) (sym f)
      (subst (λ z. ChangedSections R (first s rest) (first z rest)) (sym (section-with w c)) (C.in_section s.cases s.default s.ends rest g))
  sections_changed (d ∷ cs) (suc k) c w e h = let s = section_tree d in C.in_later s.cases s.default s.ends s.list (sections_changed cs k c w e h)

  layer_changed : (b : Branch) (y : Item-F Item Real.Section) (a w : List Item) → child_F b y ≡ Some a → Changed R (trees_of a) (trees_of w)
      → Changed R (one (layer_tree y)) (one (layer_tree (with_child_F b w y)))
  unfolding trees_of sections_of
  layer_changed B.Body (Open.While t x) a w e h = let f : x ≡ a = cc in C.in_while (test_tree t) (subst (λ z. Changed R (trees_of z) (trees_of w)) (sym f) h)
  layer_changed B.Body (Open.Do x t) a w e h = let f : x ≡ a = cc in C.in_do (test_tree t) (subst (λ z. Changed R (trees_of z) (trees_of w)) (sym f) h)
  layer_changed B.Body (Open.For g t u x) a w e h =
      let f : x ≡ a = cc in C.in_for (trees_of g) (option_map expression_tree t) (option_map expression_tree u)
      (subst (λ z. Changed R (trees_of z) (trees_of w)) (sym f) h)
  layer_changed B.Body (Open.Block x) a w e h = let f : x ≡ a = cc in C.in_block (subst (λ z. Changed R (trees_of z) (trees_of w)) (sym f) h)
  layer_changed B.Then (Open.If t x z) a w e h = let f : x ≡ a = cc in
      C.in_then (test_tree t) (trees_of z) (subst (λ v. Changed R (trees_of v) (trees_of w)) (sym f) h)
  layer_changed B.Else (Open.If t x z) a w e h = let f : z ≡ a = cc in
      C.in_else (test_tree t) (trees_of x) (subst (λ v. Changed R (trees_of v) (trees_of w)) (sym f) h)
  layer_changed (B.Section k) (Open.Switch s cs) a w e h =
      let p = map_some list_of (slice_get cs k) a e in
      C.in_switch (selector_tree s)
      (subst (λ d. ChangedSections R (sections_of cs) (sections_of d)) (sym (with_there k w cs p.0 p.1))
      (sections_changed cs k p.0 w p.1 (subst (λ z. Changed R (trees_of z) (trees_of w)) (sym p.2) h)))
  layer_changed _ _ a w e h = cc

  item_changed : (b : Branch) (x : Item) (a w : List Item) → child b x ≡ Some a → Changed R (trees_of a) (trees_of w) →
      Changed R (one (tree_of x)) (one (tree_of (with_child b w x)))
  item_changed b x a w e h =
      subst (λ t. Changed R (one t) (one (tree_of (with_child b w x)))) (sym (tree-out x))
      (subst (λ t. Changed R (one (layer_tree (out-Item x))) (one t)) (sym (tree-roll (with_child_F b w (out-Item x)))) (layer_changed b (out-Item x) a w e h))

  -- a body with w in place of the list a at the steps, where w is a changed in one place
  pub changed_at : (xs : List Item) (ss : List Step) (a w : List Item) → list_at xs ss ≡ Some a → Changed R (trees_of a) (trees_of w) →
      Changed R (trees_of xs) (trees_of (put_at xs ss w))
  changed_at xs [] a w e r = let f : xs ≡ a = cc in subst (λ z. Changed R (trees_of z) (trees_of w)) (sym f) r
  changed_at xs (s ∷ ss) a w e r =
      let t = stepped xs s ss a e in
      let made = with_child s.branch (put_at t.inner ss w) t.item in
      let h = item_changed s.branch t.item t.inner (put_at t.inner ss w) t.inner_is (changed_at t.inner ss a w t.rest r) in
      subst (λ z. Changed R (trees_of xs) (trees_of z)) (sym (put_step xs s ss w t.item t.inner t.item_is t.inner_is))
      (subst (λ z. Changed R (trees_of xs) z) (sym (trees-set xs s.item t.item made t.item_is))
      (subst (λ z. Changed R z (join (trees_of (take s.item xs)) (join (one (tree_of made)) (trees_of (drop (suc s.item) xs)))))
      (sym (trees-split xs s.item t.item t.item_is))
      (C.within (trees_of (take s.item xs)) (trees_of (drop (suc s.item) xs)) h)))
