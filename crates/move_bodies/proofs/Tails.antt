-- The simplifications at the place of a change and behind it, as the search from a path finds them.
use Rattle.std.proofs.Common.{◌≡◌, ℕ, zero, suc, ◌+◌, Bool, List, [], ◌∷◌, ◌++◌, drop, Some, slice_get, option_map, option_and_then, refl, sym, ap, ◌∙◌, arith}
use Rattle.std.proofs.lemmas.List.{append-nil, append_assoc}
use Rattle.c_tree.specs.declared.tree.Item.{Item, Item-F, out-Item}
use Rattle.c_tree.specs.declared.tree.Item.TheOpen as O
use Rattle.c_tree.specs.declared.tree.Section as Real
use Rattle.c_tree.specs.declared.tree.Branch.{Branch}
use Rattle.c_tree.specs.declared.tree.Branch.TheVariants as B
use Rattle.c_tree.specs.declared.tree.Step.{Step}
use Rattle.c_tree.specs.Paths.{list_of, child_F, child, list_at}
use Rattle.c_tree.specs.Trees.{SectionTree, tree_of, trees_of, sections_of}
use Rattle.c_tree.proofs.ChangeLemmas.{layer_tree, tree-out}
use Rattle.c_tree.proofs.PathLemmas.{map_some, stepped}
use Rattle.c_tree.proofs.TreeLaws.{section-parts}
use Rattle.guard_simplify.specs.declared.choice.Choice.{Choice}
use Rattle.guard_simplify.specs.Choice.{under_one, under, choices_from, choices_of_sections, first}
use Rattle.guard_simplify.specs.Later.{behind_F, behind, after, else_first, first_from}
use Rattle.guard_simplify.proofs.ViewLaws.{under_first}
use Rattle.move_bodies.proofs.Alike.{Way, last, into}
use Rattle.move_bodies.proofs.Onward.{tail_list, tail_item, tail_sections}

-- the number of the item that a path begins at, and the way from there
abbrev pub index : List Step → ℕ → ℕ
index [] i = i
index (s ∷ ss) i = s.item

abbrev pub way : List Step → ℕ → Way
way [] i = last
way (s ∷ ss) i = into s.branch (index ss i) (way ss i)

-- ---- a list

tail_last : (bar : ℕ → Bool) (k : ℕ) (xs : List Item) (n : ℕ) → tail_list bar k (trees_of xs) n last ≡ choices_from bar (k + n) (trees_of (drop n xs))
unfolding trees_of
tail_last bar k [] zero = refl
tail_last bar k [] (suc n) = refl
tail_last bar k (x ∷ xs) zero = let m : k ≡ k + 0 = omega arith in ap (λ j. choices_from bar j (trees_of (x ∷ xs))) m
tail_last bar k (x ∷ xs) (suc n) = let m : k + 1 + n ≡ k + suc n = omega arith in
    tail_last bar (k + 1) xs n ∙ ap (λ j. choices_from bar j (trees_of (drop n xs))) m

tail_into : (bar : ℕ → Bool) (k : ℕ) (xs : List Item) (n : ℕ) (x : Item) (b : Branch) (m : ℕ) (w : Way) → slice_get xs n ≡ Some x
    → tail_list bar k (trees_of xs) n (into b m w) ≡ tail_item bar (k + n) (tree_of x) b m w ++ choices_from bar (k + n + 1) (trees_of (drop (suc n) xs))
unfolding trees_of
tail_into bar k [] n x b m w e = cc
tail_into bar k (y ∷ ys) zero x b m w e =
    let f : y ≡ x = cc in
    let j : k ≡ k + 0 = omega arith in
    ap (λ z. tail_item bar k (tree_of z) b m w ++ choices_from bar (k + 1) (trees_of ys)) f ∙
    ap (λ i. tail_item bar i (tree_of x) b m w ++ choices_from bar (i + 1) (trees_of ys)) j
tail_into bar k (y ∷ ys) (suc n) x b m w e =
    let j : k + 1 + n ≡ k + suc n = omega arith in
    tail_into bar (k + 1) ys n x b m w e ∙ ap (λ i. tail_item bar i (tree_of x) b m w ++ choices_from bar (i + 1) (trees_of (drop (suc n) ys))) j

-- ---- an item

section_into : (bar : ℕ → Bool) (i j : ℕ) (cs : List Real.Section) (n : ℕ) (c : Real.Section) (m : ℕ) (w : Way) → slice_get cs n ≡ Some c
    → tail_sections bar i j (sections_of cs) n m w ≡ under i (B.Section (j + n)) (tail_list bar 0 (trees_of (list_of c)) m w) ++
    choices_of_sections bar i (j + n + 1) (sections_of (drop (suc n) cs))
unfolding sections_of
section_into bar i j [] n c m w e = cc
section_into bar i j (d ∷ cs) zero c m w e =
    let f : d ≡ c = cc in
    let h : j ≡ j + 0 = omega arith in
    ap (λ (z : SectionTree). under i (B.Section j) (tail_list bar 0 z.list m w) ++ choices_of_sections bar i (j + 1) (sections_of cs)) (section-parts d)
    ∙ ap (λ z. under i (B.Section j) (tail_list bar 0 (trees_of (list_of z)) m w) ++ choices_of_sections bar i (j + 1) (sections_of cs)) f
    ∙ ap (λ v. under i (B.Section v) (tail_list bar 0 (trees_of (list_of c)) m w) ++ choices_of_sections bar i (v + 1) (sections_of cs)) h
section_into bar i j (d ∷ cs) (suc n) c m w e =
    let h : j + 1 + n ≡ j + suc n = omega arith in
    section_into bar i (j + 1) cs n c m w e ∙ ap (λ v. under i (B.Section v) (tail_list bar 0 (trees_of (list_of c)) m w) ++ choices_of_sections bar i
    (v + 1) (sections_of (drop (suc n) cs))) h

layer_into : (bar : ℕ → Bool) (i : ℕ) (b : Branch) (y : Item-F Item Real.Section) (a : List Item) (m : ℕ) (w : Way) → child_F b y ≡ Some a
    → tail_item bar i (layer_tree y) b m w ≡ under i b (tail_list bar 0 (trees_of a) m w) ++ behind_F bar i b y
unfolding trees_of sections_of
layer_into bar i B.Then (O.If t x z) a m w e = let g : x ≡ a = cc in
    ap (λ v. under i B.Then (tail_list bar 0 (trees_of v) m w) ++ under i B.Else (choices_from bar 0 (trees_of z))) g
layer_into bar i B.Else (O.If t z x) a m w e = let g : x ≡ a = cc in ap (λ v. under i B.Else (tail_list bar 0 (trees_of v) m w)) g ∙ sym
    (append-nil (under i B.Else (tail_list bar 0 (trees_of a) m w)))
layer_into bar i B.Body (O.While t x) a m w e = let g : x ≡ a = cc in ap (λ v. under i B.Body (tail_list bar 0 (trees_of v) m w)) g ∙ sym
    (append-nil (under i B.Body (tail_list bar 0 (trees_of a) m w)))
layer_into bar i B.Body (O.Do x t) a m w e = let g : x ≡ a = cc in ap (λ v. under i B.Body (tail_list bar 0 (trees_of v) m w)) g ∙ sym
    (append-nil (under i B.Body (tail_list bar 0 (trees_of a) m w)))
layer_into bar i B.Body (O.For f t u x) a m w e = let g : x ≡ a = cc in
    ap (λ v. under i B.Body (tail_list bar 0 (trees_of v) m w)) g ∙ sym (append-nil (under i B.Body (tail_list bar 0 (trees_of a) m w)))
layer_into bar i B.Body (O.Block x) a m w e = let g : x ≡ a = cc in ap (λ v. under i B.Body (tail_list bar 0 (trees_of v) m w)) g ∙ sym
    (append-nil (under i B.Body (tail_list bar 0 (trees_of a) m w)))
layer_into bar i (B.Section k) (O.Switch s cs) a m w e =
    let p = map_some list_of (slice_get cs k) a e in
    let h : 0 + k ≡ k = omega arith in
    let more : suc k ≡ k + 1 = omega arith in
    section_into bar i 0 cs k p.0 m w p.1
    ∙ ap (λ v. under i (B.Section (0 + k)) (tail_list bar 0 (trees_of (list_of p.0)) m w) ++
    choices_of_sections bar i (0 + k + 1) (sections_of (drop v cs))) more
    ∙ ap (λ v. under i (B.Section v) (tail_list bar 0 (trees_of (list_of p.0)) m w) ++ choices_of_sections bar i (v + 1) (sections_of (drop (k + 1) cs))) h
    ∙ ap (λ z. under i (B.Section k) (tail_list bar 0 (trees_of z) m w) ++ choices_of_sections bar i (k + 1) (sections_of (drop (k + 1) cs))) p.2
layer_into bar i _ _ a m w e = cc

item_into : (bar : ℕ → Bool) (i : ℕ) (b : Branch) (x : Item) (a : List Item) (m : ℕ) (w : Way) → child b x ≡ Some a
    → tail_item bar i (tree_of x) b m w ≡ under i b (tail_list bar 0 (trees_of a) m w) ++ behind bar i b x
item_into bar i b x a m w e = ap (λ t. tail_item bar i t b m w) (tree-out x) ∙ layer_into bar i b (out-Item x) a m w e

-- ---- the first of them

first_of_two : (xs ys : List Choice) → first (xs ++ ys) ≡ else_first (first xs) (first ys)
first_of_two [] ys = refl
first_of_two (x ∷ xs) ys = refl

pub from_tail : (bar : ℕ → Bool) (ss : List Step) (i : ℕ) (xs a : List Item) → list_at xs ss ≡ Some a →
    first_from bar xs ss i ≡ first (tail_list bar 0 (trees_of xs) (index ss i) (way ss i))
from_tail bar [] i xs a e = let m : i ≡ 0 + i = omega arith in ap (λ j. first (choices_from bar j (trees_of (drop i xs)))) m ∙ sym
    (ap first (tail_last bar 0 xs i))
from_tail bar (s ∷ ss) i xs a e =
    let t = stepped xs s ss a e in
    let n = s.item in
    let b = s.branch in
    let zs = tail_list bar 0 (trees_of t.inner) (index ss i) (way ss i) in
    let rest = choices_from bar (n + 1) (trees_of (drop (n + 1) xs)) in
    let m : 0 + n ≡ n = omega arith in
    let more : suc n ≡ n + 1 = omega arith in
    let split : tail_list bar 0 (trees_of xs) n (way (s ∷ ss) i) ≡ under n b zs ++ (behind bar n b t.item ++ rest) =
    tail_into bar 0 xs n t.item b (index ss i) (way ss i) t.item_is
    ∙ ap (λ j. tail_item bar (0 + n) (tree_of t.item) b (index ss i) (way ss i) ++ choices_from bar (0 + n + 1) (trees_of (drop j xs))) more
    ∙ ap (λ j. tail_item bar j (tree_of t.item) b (index ss i) (way ss i) ++ choices_from bar (j + 1) (trees_of (drop (n + 1) xs))) m
    ∙ ap (λ z. z ++ rest) (item_into bar n b t.item t.inner (index ss i) (way ss i) t.inner_is)
    ∙ append_assoc (under n b zs) (behind bar n b t.item) rest in
    ap (option_and_then (λ x. else_first (option_and_then (λ a. option_map (under_one n b) (first_from bar a ss i)) (child b x))
    (first (after bar xs x s)))) t.item_is
    ∙ ap (λ o. else_first (option_and_then (λ a. option_map (under_one n b) (first_from bar a ss i)) o) (first (after bar xs t.item s))) t.inner_is
    ∙ ap (λ o. else_first (option_map (under_one n b) o) (first (after bar xs t.item s))) (from_tail bar ss i t.inner a t.rest)
    ∙ ap (λ o. else_first o (first (after bar xs t.item s))) (under_first n b zs)
    ∙ sym (first_of_two (under n b zs) (behind bar n b t.item ++ rest)) ∙ sym (ap first split)
