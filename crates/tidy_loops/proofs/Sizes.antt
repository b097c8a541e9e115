-- How many items a list has, at any depth.
use Rattle.std.proofs.Common.{ℕ, zero, suc, ◌+◌, ◌≤◌, ◌<◌, List, [], ◌∷◌, length, get_or, Option, Some, slice_get, ◌≡◌, ap, ◌∙◌, arith}
use Rattle.c_tree.specs.declared.tree.Item.{Item, If, While, Do, For, Switch, Block}
use Rattle.c_tree.specs.declared.tree.Section.{Section}
use Rattle.c_tree.specs.declared.tree.Test.{Test}
use Rattle.c_tree.specs.declared.tree.Selector.{Selector}
use Rattle.c_tree.specs.declared.tree.Expression.{Expression}
use Rattle.c_tree.specs.Paths.{list_of}
use Rattle.c_tree.specs.Everywhere.{total, total_of, total_in}
use Rattle.c_tree.specs.Trees.{Tree, Forest, Sections, SectionTree, tree_of, trees_of, sections_of}
use Rattle.c_tree.proofs.TreeLaws.{tree-If, tree-While, tree-Do, tree-For, tree-Switch, tree-Block, section-parts}

abbrev pub items : Forest → ℕ
items xs = total (λ x. 1) xs

abbrev pub items_of : Tree → ℕ
items_of x = total_of (λ x. 1) x

abbrev pub items_in : Sections → ℕ
items_in c = total_in (λ x. 1) c

pub of_if : (x : Item) (t : Test) (a b : List Item) → x ≡ If t a b → items_of (tree_of x) ≡ 1 + items (trees_of a) + items (trees_of b)
of_if x t a b e = ap items_of (ap tree_of e ∙ tree-If t a b)

pub of_while : (x : Item) (t : Test) (a : List Item) → x ≡ While t a → items_of (tree_of x) ≡ 1 + items (trees_of a)
of_while x t a e = ap items_of (ap tree_of e ∙ tree-While t a)

pub of_do : (x : Item) (t : Test) (a : List Item) → x ≡ Do a t → items_of (tree_of x) ≡ 1 + items (trees_of a)
of_do x t a e = ap items_of (ap tree_of e ∙ tree-Do a t)

pub of_for : (x : Item) (a : List Item) (t u : Option Expression) (b : List Item) → x ≡ For a t u b →
    items_of (tree_of x) ≡ 1 + items (trees_of a) + items (trees_of b)
of_for x a t u b e = ap items_of (ap tree_of e ∙ tree-For a t u b)

pub of_switch : (x : Item) (s : Selector) (c : List Section) → x ≡ Switch s c → items_of (tree_of x) ≡ 1 + items_in (sections_of c)
of_switch x s c e = ap items_of (ap tree_of e ∙ tree-Switch s c)

pub of_block : (x : Item) (a : List Item) → x ≡ Block a → items_of (tree_of x) ≡ 1 + items (trees_of a)
of_block x a e = ap items_of (ap tree_of e ∙ tree-Block a)

pub item_within : (xs : List Item) (i : ℕ) (x : Item) → slice_get xs i ≡ Some x → items_of (tree_of x) ≤ items (trees_of xs)
unfolding trees_of
item_within [] i x e = cc
item_within (z ∷ zs) zero x e = let g : x ≡ z = cc in let h = ap (λ w. items_of (tree_of w)) g in omega (arith, h)
item_within (z ∷ zs) (suc i) x e = let h = item_within zs i x e in omega (arith, h)

pub section_within : (cs : List Section) (k : ℕ) (s : Section) → slice_get cs k ≡ Some s → items (trees_of (list_of s)) ≤ items_in (sections_of cs)
unfolding sections_of
section_within [] k s e = cc
section_within (z ∷ zs) zero s e =
    let g : s ≡ z = cc in
    let h = ap (λ w. items (trees_of (list_of w))) g in
    let k = ap (λ (w : SectionTree). items w.list) (section-parts z) in
    omega (arith, h, k)
section_within (z ∷ zs) (suc k) s e = let h = section_within zs k s e in omega (arith, h)

pub item_there : (xs : List Item) (i : ℕ) (x : Item) → i < length xs → x ≡ get_or xs i x → items_of (tree_of x) ≤ items (trees_of xs)
unfolding trees_of
item_there [] i x h e = absurd (omega (arith, h))
item_there (z ∷ zs) zero x h e = let g = ap (λ w. items_of (tree_of w)) e in omega (arith, g)
item_there (z ∷ zs) (suc i) x h e = let k : i < length zs = omega (arith, h) in let m = item_there zs i x k e in omega (arith, m)

pub section_there : (cs : List Section) (i : ℕ) (s : Section) → i < length cs → s ≡ get_or cs i s → items (trees_of (list_of s)) ≤ items_in (sections_of cs)
unfolding sections_of
section_there [] i s h e = absurd (omega (arith, h))
section_there (z ∷ zs) zero s h e =
    let g = ap (λ w. items (trees_of (list_of w))) e in
    let k = ap (λ (w : SectionTree). items w.list) (section-parts z) in
    omega (arith, g, k)
section_there (z ∷ zs) (suc i) s h e = let k : i < length zs = omega (arith, h) in let m = section_there zs i s k e in omega (arith, m)
