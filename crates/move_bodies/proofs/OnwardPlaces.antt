-- The next simplification of a body stands at the place of the last one or behind it, where that left an item settled.
use Rattle.std.proofs.Common.{◌≡◌, ℕ, zero, suc, ◌+◌, inl, inr, Bool, true, List, [], ◌∷◌, drop, Option, Some, None, IsSome, slice_get, slice_set, option_map, refl, sym, ap, subst, ◌∙◌, arith}
use Rattle.c_tree.specs.declared.tree.Item.{Item, Item-F, out-Item}
use Rattle.c_tree.specs.declared.tree.Item.TheOpen as O
use Rattle.c_tree.specs.declared.tree.Section as Real
use Rattle.c_tree.specs.declared.tree.Branch.{Branch}
use Rattle.c_tree.specs.declared.tree.Branch.TheVariants as B
use Rattle.c_tree.specs.declared.tree.Path.{Path}
use Rattle.c_tree.specs.declared.tree.Step.{Step}
use Rattle.c_tree.specs.ExpressionTrees.{expression_tree}
use Rattle.c_tree.specs.Paths.{list_of, with_list, child_F, child, with_child_F, with_child, list_at, put_at}
use Rattle.c_tree.specs.TestTrees.{test_tree, selector_tree}
use Rattle.c_tree.specs.Trees.{Tree, Forest, Then, SectionTree, tree_of, trees_of, section_tree, sections_of}
use Rattle.c_tree.proofs.ChangeLemmas.{layer_tree, tree-out, tree-roll, first as first_section, section-with}
use Rattle.c_tree.proofs.PathLemmas.{map_some, stepped, put_step, with_there, list_put}
use Rattle.c_tree.proofs.TreeLaws.{section-parts}
use Rattle.report_moves.specs.declared.moves.MoveKind.{MoveKind}
use Rattle.report_moves.specs.declared.moves.MoveKind.TheVariants.{Z1, Z2, Z3, Z4, Z5}
use Rattle.guard_simplify.specs.declared.choice.Choice.{Choice}
use Rattle.guard_simplify.specs.declared.choice.Repeat.{Repeat}
use Rattle.guard_simplify.specs.Choice.{repeat_of, repeat_label, neighbours, is_nested, choices, barred, first}
use Rattle.guard_simplify.specs.Application.{shortened, edit_here, edited, IsEdited, applied_as, IsNext}
use Rattle.guard_simplify.specs.Later.{first_from}
use Rattle.guard_simplify.proofs.Members.{OwnAt, Located, in_first, located}
use Rattle.guard_simplify.proofs.ViewLaws.{neighbours-item, same_choices}
use Rattle.move_bodies.specs.Simplified.{IsApart, IsApartAt, GoesOn}
use Rattle.move_bodies.proofs.Alike.{Way, last, into, Settled, Quiet, InList, at_here, at_later, InItem, this, then_list, else_list, while_list, do_list, for_list, block_list, section_list, InSections, section_here, section_later, list_bars}
use Rattle.move_bodies.proofs.SettledItems.{short_settled, IsNest, nest_of, unnest, nest_settled, nest_apart}
use Rattle.move_bodies.proofs.Onward.{path_from, tail_list, quiet_here, quiet_later, list_follows}
use Rattle.move_bodies.proofs.Tails.{index, way, from_tail}

path_is : (ss : List Step) (i : ℕ) → path_from (index ss i) (way ss i) ≡ record { steps = ss; item = i }
path_is [] i = refl
path_is (s ∷ ss) i = ap (λ (p : Path). record { steps = s ∷ p.steps; item = p.item }) (path_is ss i)

quiet_set : (b : Branch) (m : ℕ) (w : Way) (z : Tree) (xs : List Item) (i : ℕ) (x y : Item) → slice_get xs i ≡ Some x →
    InItem (into b m w) (tree_of x) (tree_of y) → Quiet z (trees_of xs) (trees_of (slice_set xs i y))
unfolding trees_of
quiet_set b m w z [] i x y e h = cc
quiet_set b m w z (v ∷ vs) zero x y e h = let f : x ≡ v = cc in quiet_here z (trees_of vs) (subst (λ u. InItem (into b m w) (tree_of u) (tree_of y)) f h)
quiet_set b m w z (v ∷ vs) (suc i) x y e h = quiet_later z (tree_of v) (trees_of vs) (trees_of (slice_set vs i y))

set_in : (b : Branch) (m : ℕ) (w : Way) (xs : List Item) (i : ℕ) (x y : Item) → slice_get xs i ≡ Some x →
    InItem (into b m w) (tree_of x) (tree_of y) → InList i (into b m w) (trees_of xs) (trees_of (slice_set xs i y))
unfolding trees_of
set_in b m w [] i x y e h = cc
set_in b m w (z ∷ zs) zero x y e h = let f : x ≡ z = cc in at_here (into b m w) (tree_of z) (tree_of y) (trees_of zs)
    (subst (λ v. InItem (into b m w) (tree_of v) (tree_of y)) f h)
set_in b m w (z ∷ zs) (suc i) x y e h = at_later i (into b m w) (tree_of z) (trees_of zs) (trees_of (slice_set zs i y))
    (quiet_set b m w (tree_of z) zs i x y e h) (set_in b m w zs i x y e h)

sections_in : (m : ℕ) (w : Way) (cs : List Real.Section) (k : ℕ) (c : Real.Section) (v : List Item) → slice_get cs k ≡ Some c →
    InList m w (trees_of (list_of c)) (trees_of v)
    → InSections k m w (sections_of cs) (sections_of (slice_set cs k (with_list v c)))
unfolding sections_of
sections_in m w [] k c v e h = cc
sections_in m w (d ∷ cs) zero c v e h =
    let f : d ≡ c = cc in
    let s = section_tree c in
    let rest = sections_of cs in
    let g = subst (λ z. InList m w z (trees_of v)) (sym (ap (λ (z : SectionTree). z.list) (section-parts c))) h in
    subst (λ z. InSections zero m w (first_section (section_tree z) rest) (first_section (section_tree (with_list v c)) rest)) (sym f)
    (subst (λ z. InSections zero m w (first_section s rest) (first_section z rest)) (sym (section-with v c))
    (section_here m w s.cases s.default s.ends s.list (trees_of v) rest g))
sections_in m w (d ∷ cs) (suc k) c v e h =
    let s = section_tree d in
    section_later k m w s.cases s.default s.ends s.list (sections_of cs) (sections_of (slice_set cs k (with_list v c))) (sections_in m w cs k c v e h)

layer_in : (b : Branch) (m : ℕ) (w : Way) (y : Item-F Item Real.Section) (a v : List Item) → child_F b y ≡ Some a →
    InList m w (trees_of a) (trees_of v) → InItem (into b m w) (layer_tree y) (layer_tree (with_child_F b v y))
unfolding trees_of sections_of
layer_in B.Then m w (O.If t x z) a v e h = let f : x ≡ a = cc in then_list m w (test_tree t) (trees_of x) (trees_of v) (trees_of z)
    (subst (λ u. InList m w (trees_of u) (trees_of v)) (sym f) h)
layer_in B.Else m w (O.If t z x) a v e h = let f : x ≡ a = cc in else_list m w (test_tree t) (trees_of x) (trees_of v) (trees_of z)
    (subst (λ u. InList m w (trees_of u) (trees_of v)) (sym f) h)
layer_in B.Body m w (O.While t x) a v e h = let f : x ≡ a = cc in while_list m w (test_tree t) (trees_of x) (trees_of v)
    (subst (λ u. InList m w (trees_of u) (trees_of v)) (sym f) h)
layer_in B.Body m w (O.Do x t) a v e h = let f : x ≡ a = cc in do_list m w (test_tree t) (trees_of x) (trees_of v)
    (subst (λ u. InList m w (trees_of u) (trees_of v)) (sym f) h)
layer_in B.Body m w (O.For g t u x) a v e h =
    let f : x ≡ a = cc in for_list m w (trees_of g) (option_map expression_tree t) (option_map expression_tree u) (trees_of x) (trees_of v)
    (subst (λ z. InList m w (trees_of z) (trees_of v)) (sym f) h)
layer_in B.Body m w (O.Block x) a v e h = let f : x ≡ a = cc in block_list m w (trees_of x) (trees_of v)
    (subst (λ u. InList m w (trees_of u) (trees_of v)) (sym f) h)
layer_in (B.Section k) m w (O.Switch s cs) a v e h =
    let p = map_some list_of (slice_get cs k) a e in
    subst (λ d. InItem (into (B.Section k) m w) (layer_tree (O.Switch s cs)) (layer_tree (O.Switch s d))) (sym (with_there k v cs p.0 p.1))
    (section_list k m w (selector_tree s) (sections_of cs) (sections_of (slice_set cs k (with_list v p.0)))
    (sections_in m w cs k p.0 v p.1 (subst (λ z. InList m w (trees_of z) (trees_of v)) (sym p.2) h)))
layer_in _ m w _ a v e h = cc

item_in : (b : Branch) (m : ℕ) (w : Way) (x : Item) (a v : List Item) → child b x ≡ Some a → InList m w (trees_of a) (trees_of v) →
    InItem (into b m w) (tree_of x) (tree_of (with_child b v x))
item_in b m w x a v e h =
    subst (λ t. InItem (into b m w) t (tree_of (with_child b v x))) (sym (tree-out x))
    (subst (λ t. InItem (into b m w) (layer_tree (out-Item x)) t) (sym (tree-roll (with_child_F b v (out-Item x)))) (layer_in b m w (out-Item x) a v e h))

placed_in : (ss : List Step) (i : ℕ) (xs a v : List Item) → list_at xs ss ≡ Some a → InList i last (trees_of a) (trees_of v) →
    InList (index ss i) (way ss i) (trees_of xs) (trees_of (put_at xs ss v))
placed_in [] i xs a v e h = let f : xs ≡ a = cc in subst (λ z. InList i last (trees_of z) (trees_of v)) (sym f) h
placed_in (s ∷ ss) i xs a v e h =
    let t = stepped xs s ss a e in
    let inner = placed_in ss i t.inner a v t.rest h in
    let item = item_in s.branch (index ss i) (way ss i) t.item t.inner (put_at t.inner ss v) t.inner_is inner in
    subst (λ z. InList s.item (way (s ∷ ss) i) (trees_of xs) (trees_of z)) (sym (put_step xs s ss v t.item t.inner t.item_is t.inner_is))
    (set_in s.branch (index ss i) (way ss i) xs s.item t.item (with_child s.branch (put_at t.inner ss v) t.item) t.item_is item)

-- ---- the list at the place

-- the item before the item i does not become one with it, after an edit of this kind there
abbrev Unjoined : MoveKind → List Item → ℕ → Type 0
Unjoined k (z ∷ zs) (suc zero) = neighbours (tree_of z) (edited k zero (trees_of zs)) ≡ None
Unjoined k (z ∷ zs) (suc (suc i)) = Unjoined k zs (suc i)
Unjoined k _ _ = Unit {0}

quiet_edit : (k : MoveKind) (z : Item) (zs : List Item) (i : ℕ) (x : Item) → slice_get zs i ≡ Some x → Unjoined k (z ∷ zs) (suc i) →
    Quiet (tree_of z) (trees_of zs) (edited k i (trees_of zs))
unfolding trees_of
quiet_edit k z zs zero x e h = λ n. h
quiet_edit k z [] (suc i) x e h = cc
quiet_edit k z (v ∷ vs) (suc i) x e h = quiet_later (tree_of z) (tree_of v) (trees_of vs) (edited k i (trees_of vs))

unjoined_later : (k : MoveKind) (z : Item) (zs : List Item) (i : ℕ) → Unjoined k (z ∷ zs) (suc i) → Unjoined k zs i
unjoined_later k z [] i h = tt
unjoined_later k z (v ∷ vs) zero h = tt
unjoined_later k z (v ∷ vs) (suc i) h = h

tip_in : (k : MoveKind) (xs : List Item) (i : ℕ) (x : Item) (y : Tree) → slice_get xs i ≡ Some x → Settled (tree_of x) y →
    ((rest : Forest) → edit_here k (Then (tree_of x) rest) ≡ Then y rest) → Unjoined k xs i
    → InList i last (trees_of xs) (edited k i (trees_of xs))
unfolding trees_of
tip_in k [] i x y e s h u = cc
tip_in k (z ∷ zs) zero x y e s h u =
    let f : x ≡ z = cc in
    let g : edit_here k (Then (tree_of z) (trees_of zs)) ≡ Then y (trees_of zs) =
    ap (λ v. edit_here k (Then (tree_of v) (trees_of zs))) (sym f) ∙ h (trees_of zs) in
    subst (InList zero last (Then (tree_of z) (trees_of zs))) (sym g)
    (at_here last (tree_of z) y (trees_of zs) (this (tree_of z) y (subst (λ v. Settled (tree_of v) y) f s)))
tip_in k (z ∷ zs) (suc i) x y e s h u =
    at_later i last (tree_of z) (trees_of zs) (edited k i (trees_of zs)) (quiet_edit k z zs i x e u) (tip_in k zs i x y e s h (unjoined_later k z zs i u))

first_same : (u v : Tree) (us vs : Forest) → Then u us ≡ Then v vs → u ≡ v
first_same u v us vs e = cc

rest_same : (u v : Tree) (us vs : Forest) → Then u us ≡ Then v vs → us ≡ vs
rest_same u v us vs e = cc

apart_unjoined : (k : MoveKind) (xs ys : List Item) (i : ℕ) → trees_of ys ≡ edited k i (trees_of xs) → IsApart ys i → Unjoined k xs i
unfolding trees_of
apart_unjoined k [] ys i e h = tt
apart_unjoined k (z ∷ zs) ys zero e h = tt
apart_unjoined k (z ∷ zs) [] (suc zero) e h = cc
apart_unjoined k (z ∷ zs) (v ∷ vs) (suc zero) e h =
    ap (λ t. neighbours t (edited k zero (trees_of zs))) (sym (first_same (tree_of v) (tree_of z) (trees_of vs) (edited k zero (trees_of zs)) e))
    ∙ ap (neighbours (tree_of v)) (sym (rest_same (tree_of v) (tree_of z) (trees_of vs) (edited k zero (trees_of zs)) e))
    ∙ neighbours-item v (v ∷ vs) 0 ∙ h 0 v refl refl
apart_unjoined k (z ∷ zs) [] (suc (suc i)) e h = cc
apart_unjoined k (z ∷ zs) (v ∷ vs) (suc (suc i)) e h =
    apart_unjoined k zs vs (suc i) (rest_same (tree_of v) (tree_of z) (trees_of vs) (edited k (suc i) (trees_of zs)) e) (λ n x f g. h (suc n) x (ap suc f) g)

nest_unjoined : (xs : List Item) (i : ℕ) (x : Item) (n : IsNest (tree_of x)) → slice_get xs i ≡ Some x →
    ((rest : Forest) → edit_here Z4 (Then (tree_of x) rest) ≡ Then (unnest n) rest) → Unjoined Z4 xs i
unfolding trees_of
nest_unjoined [] i x n e h = tt
nest_unjoined (z ∷ zs) zero x n e h = tt
nest_unjoined (z ∷ []) (suc zero) x n e h = cc
nest_unjoined (z ∷ v ∷ vs) (suc zero) x n e h =
    let f : x ≡ v = cc in
    ap (λ u. neighbours (tree_of z) (edit_here Z4 (Then (tree_of u) (trees_of vs)))) (sym f) ∙ ap (neighbours (tree_of z)) (h (trees_of vs)) ∙
    nest_apart n (tree_of z) (trees_of vs)
nest_unjoined (z ∷ zs) (suc (suc i)) x n e h = nest_unjoined zs (suc i) x n e h

unnested_is : {x : Tree} (n : IsNest x) (rest : Forest) → edit_here Z4 (Then x rest) ≡ Then (unnest n) rest
unnested_is n rest = ap (λ z. edit_here Z4 (Then z rest)) n.is

-- ---- the next simplification

some_label : (o : Option Repeat) → IsSome (repeat_label o) → (q : Repeat) × (o ≡ Some q)
some_label None h = cc
some_label (Some q) h = (q, refl)

found_repeat : (bar : ℕ → Bool) (i : ℕ) (x : Tree) (rest : Forest) (c : Choice) → c.kind ≡ Z2 → OwnAt bar i x rest c → (q : Repeat) × (repeat_of x ≡ Some q)
found_repeat bar i x rest c k h = elim h [
  | inl a ↦ let f : Z2 ≡ Z1 = sym k ∙ a.0 in cc
  | inr h ↦ elim h [
    | inl a ↦ some_label (repeat_of x) (subst IsSome a.1 a.2)
    | inr h ↦ elim h [
      | inl a ↦ let f : Z2 ≡ Z3 = sym k ∙ a.0 in cc
      | inr h ↦ elim h [
        | inl a ↦ let f : Z2 ≡ Z4 = sym k ∙ a.0 in cc
        | inr a ↦ let f : Z2 ≡ Z5 = sym k ∙ a.0 in cc
      ]
    ]
  ]
]

found_nest : (bar : ℕ → Bool) (i : ℕ) (x : Tree) (rest : Forest) (c : Choice) → c.kind ≡ Z4 → OwnAt bar i x rest c → is_nested x ≡ true
found_nest bar i x rest c k h = elim h [
  | inl a ↦ let f : Z4 ≡ Z1 = sym k ∙ a.0 in cc
  | inr h ↦ elim h [
    | inl a ↦ let f : Z4 ≡ Z2 = sym k ∙ a.0 in cc
    | inr h ↦ elim h [
      | inl a ↦ let f : Z4 ≡ Z3 = sym k ∙ a.0 in cc
      | inr h ↦ elim h [
        | inl a ↦ a.2
        | inr a ↦ let f : Z4 ≡ Z5 = sym k ∙ a.0 in cc
      ]
    ]
  ]
]

same_some : {A : Type 0} (o : Option A) (a b : A) → o ≡ Some a → o ≡ Some b → a ≡ b
same_some o a b e f = let g : Some a ≡ Some b = sym e ∙ f in cc

-- one item of the body was changed, which is as settled as before
abbrev IsChanged : Choice → List Item → List Item → Type 0
IsChanged c old new = InList (index c.path.steps c.path.item) (way c.path.steps c.path.item) (trees_of old) (trees_of new)

placed : (c : Choice) (old new : List Item) (a : IsEdited c old new) → InList c.path.item last (trees_of a.list) (trees_of a.other) → IsChanged c old new
placed c old new a h =
    let ss = c.path.steps in
    let i = c.path.item in
    subst (λ z. InList (index ss i) (way ss i) (trees_of old) (trees_of z)) (sym a.put) (placed_in ss i old a.list a.other a.list_is h)

module _ (c : Choice) (old new : List Item) (n : IsNext c old new) where
  abbrev bar : ℕ → Bool
  bar l = barred l (trees_of old)

  found : Located bar old c
  found = located bar c.path.steps old c refl (in_first (choices (trees_of old)) c n.next)

  item_found : (a : IsEdited c old new) → slice_get a.list c.path.item ≡ Some found.item
  item_found a = ap (λ z. slice_get z c.path.item) (same_some (list_at old c.path.steps) a.list found.list a.list_is found.list_is) ∙ found.item_is

  after_short : c.kind ≡ Z2 → IsApartAt new c.path → IsChanged c old new
  after_short k h =
      let a : IsEdited c old new = subst (λ z. applied_as z c old new) k n.applied in
      let i = c.path.item in
      let x = found.item in
      let q = found_repeat bar i (tree_of x) (trees_of (drop (suc i) found.list)) c k found.shape in
      let put : list_at new c.path.steps ≡ Some a.other = ap (λ z. list_at z c.path.steps) a.put ∙ list_put old c.path.steps a.other a.list a.list_is in
      let edit : trees_of a.other ≡ edited Z2 i (trees_of a.list) = a.trees ∙ ap (λ z. edited z i (trees_of a.list)) k in
      let one = tip_in Z2 a.list i x (shortened (tree_of x)) (item_found a) (short_settled q.0 (tree_of x) q.1) (λ rest. refl)
      (apart_unjoined Z2 a.list a.other i edit (h a.other put)) in
      placed c old new a (subst (InList i last (trees_of a.list)) (sym edit) one)

  after_nest : c.kind ≡ Z4 → IsChanged c old new
  after_nest k =
      let a : IsEdited c old new = subst (λ z. applied_as z c old new) k n.applied in
      let i = c.path.item in
      let x = found.item in
      let m = nest_of (tree_of x) (found_nest bar i (tree_of x) (trees_of (drop (suc i) found.list)) c k found.shape) in
      let edit : trees_of a.other ≡ edited Z4 i (trees_of a.list) = a.trees ∙ ap (λ z. edited z i (trees_of a.list)) k in
      let one = tip_in Z4 a.list i x (unnest m) (item_found a) (nest_settled m) (unnested_is m) (nest_unjoined a.list i x m (item_found a) (unnested_is m)) in
      placed c old new a (subst (InList i last (trees_of a.list)) (sym edit) one)

  changed : GoesOn c new → IsChanged c old new
  changed g = elim g [ inl p ↦ after_short p.0 p.1 | inr k ↦ after_nest k ]

  -- the labels whose guards can't go are the same
  pub same_bars : GoesOn c new → (l : ℕ) → barred l (trees_of new) ≡ barred l (trees_of old)
  same_bars g l = list_bars l (changed g)

  tail_is : GoesOn c new → choices (trees_of new) ≡ tail_list bar 0 (trees_of new) (index c.path.steps c.path.item) (way c.path.steps c.path.item)
  tail_is g =
      let ss = c.path.steps in
      let i = c.path.item in
      let zero_first : 0 + index ss i ≡ index ss i = omega arith in
      let here : path_from (0 + index ss i) (way ss i) ≡ c.path = ap (λ j. path_from j (way ss i)) zero_first ∙ path_is ss i in
      same_choices (λ l. barred l (trees_of new)) bar (trees_of new) (same_bars g) ∙ list_follows bar 0 (changed g) c (sym here) n.next

  list_new : GoesOn c new → (xs : List Item) × (list_at new c.path.steps ≡ Some xs)
  list_new g = elim g [
    | inl p ↦ let a : IsEdited c old new = subst (λ z. applied_as z c old new) p.0 n.applied in
        (a.other, ap (λ z. list_at z c.path.steps) a.put ∙ list_put old c.path.steps a.other a.list a.list_is)
    | inr k ↦ let a : IsEdited c old new = subst (λ z. applied_as z c old new) k n.applied in
        (a.other, ap (λ z. list_at z c.path.steps) a.put ∙ list_put old c.path.steps a.other a.list a.list_is)
  ]

  -- the search goes on at the place
  pub goes_on_from : GoesOn c new → first_from bar new c.path.steps c.path.item ≡ first (choices (trees_of new))
  goes_on_from g = let t = list_new g in from_tail bar c.path.steps c.path.item new t.0 t.1 ∙ ap first (sym (tail_is g))
