-- An item of a list is changed, or goes.
use Rattle.std.proofs.Common.{◌≡◌, ℕ, zero, suc, ◌<◌, List, [], ◌∷◌, length, Option, Some, None, slice_get, slice_set, refl, sym, ap, ◌∙◌, arith}
use Rattle.std.specs.Prelude.{remove}
use Rattle.c_tree.specs.declared.tree.Item.{Item, If, While, Do, Switch}
use Rattle.c_tree.specs.declared.tree.Section.{Section}
use Rattle.c_tree.specs.declared.tree.Test.{Test}
use Rattle.c_tree.specs.declared.tree.Selector.{Selector}
use Rattle.c_tree.specs.TestTrees.{test_tree, selector_tree}
use Rattle.c_tree.specs.Trees as P
use Rattle.c_tree.proofs.TreeLaws.{tree-If, tree-While, tree-Do, tree-Switch}
use Rattle.c_tree.specs.Trees.{Tree, Then, tree_of, trees_of, sections_of}
use Rattle.report_moves.specs.declared.moves.MoveKind.TheVariants.{Z1, Z2}
use Rattle.guard_simplify.specs.Application.{edited, shortened, without, without_pick, without_repeat, without_repeat_pick}
use Rattle.guard_simplify.specs.declared.choice.Repeat.{Repeat}
use Rattle.guard_simplify.specs.Choice.{repeat_of}
use Rattle.guard_simplify.specs.Views.{repeat_in}
use Rattle.guard_simplify.proofs.ViewLaws.{repeat-item}

pub removed : (xs : List Item) (i : ℕ) → i < length xs → trees_of (remove xs i) ≡ edited Z1 i (trees_of xs)
unfolding trees_of
removed [] i h = absurd (omega arith)
removed (x ∷ xs) zero h = refl
removed (x ∷ xs) (suc i) h = let l : i < length xs = omega arith in ap (Then (tree_of x)) (removed xs i l)

pub set_shortened : (xs : List Item) (i : ℕ) (x y : Item) → slice_get xs i ≡ Some x → tree_of y ≡ shortened (tree_of x) →
    trees_of (slice_set xs i y) ≡ edited Z2 i (trees_of xs)
unfolding trees_of
set_shortened [] i x y e h = cc
set_shortened (z ∷ xs) zero x y e h = let f : z ≡ x = cc in ap (λ t. Then t (trees_of xs)) (h ∙ ap (λ w. shortened (tree_of w)) (sym f))
set_shortened (z ∷ xs) (suc i) x y e h = ap (Then (tree_of z)) (set_shortened xs i x y e h)

pub none_shortened : (xs : List Item) (i : ℕ) (x : Item) → slice_get xs i ≡ Some x → shortened (tree_of x) ≡ tree_of x → trees_of xs ≡ edited Z2 i (trees_of xs)
unfolding trees_of
none_shortened [] i x e h = cc
none_shortened (z ∷ xs) zero x e h = let f : z ≡ x = cc in ap (λ t. Then t (trees_of xs)) (ap tree_of f ∙ sym h ∙ ap (λ w. shortened (tree_of w)) (sym f))
none_shortened (z ∷ xs) (suc i) x e h = ap (Then (tree_of z)) (none_shortened xs i x e h)

-- ---- an item with a wrapper fewer

tree_repeat : (x : Item) (t : Tree) (o : Option Repeat) → tree_of x ≡ t → repeat_in x ≡ o → repeat_of t ≡ o
tree_repeat x t o e f = ap repeat_of (sym e) ∙ repeat-item x ∙ f

pub short_if : (x : Item) (r : Repeat) (t u : Test) (a b : List Item) → x ≡ If t a b → repeat_in x ≡ Some r →
    test_tree u ≡ without r.at (test_tree t) → tree_of (If u a b) ≡ shortened (tree_of x)
short_if x r t u a b e f h =
    let tree : tree_of x ≡ P.If (test_tree t) (trees_of a) (trees_of b) = ap tree_of e ∙ tree-If t a b in
    tree-If u a b ∙ ap (λ w. P.If w (trees_of a) (trees_of b))
    (h ∙ sym (ap (λ o. without_repeat o (test_tree t)) (tree_repeat x _ (Some r) tree f))) ∙ ap shortened (sym tree)

pub short_while : (x : Item) (r : Repeat) (t u : Test) (a : List Item) → x ≡ While t a → repeat_in x ≡ Some r →
    test_tree u ≡ without r.at (test_tree t) → tree_of (While u a) ≡ shortened (tree_of x)
short_while x r t u a e f h =
    let tree : tree_of x ≡ P.While (test_tree t) (trees_of a) = ap tree_of e ∙ tree-While t a in
    tree-While u a ∙ ap (λ w. P.While w (trees_of a)) (h ∙ sym (ap (λ o. without_repeat o (test_tree t)) (tree_repeat x _ (Some r) tree f))) ∙
    ap shortened (sym tree)

pub short_do : (x : Item) (r : Repeat) (t u : Test) (a : List Item) → x ≡ Do a t → repeat_in x ≡ Some r → test_tree u ≡ without r.at (test_tree t) →
    tree_of (Do a u) ≡ shortened (tree_of x)
short_do x r t u a e f h =
    let tree : tree_of x ≡ P.Do (trees_of a) (test_tree t) = ap tree_of e ∙ tree-Do a t in
    tree-Do a u ∙ ap (P.Do (trees_of a)) (h ∙ sym (ap (λ o. without_repeat o (test_tree t)) (tree_repeat x _ (Some r) tree f))) ∙ ap shortened (sym tree)

pub short_switch : (x : Item) (r : Repeat) (s u : Selector) (cs : List Section) → x ≡ Switch s cs → repeat_in x ≡ Some r →
    selector_tree u ≡ without_pick r.at (selector_tree s) → tree_of (Switch u cs) ≡ shortened (tree_of x)
short_switch x r s u cs e f h =
    let tree : tree_of x ≡ P.Switch (selector_tree s) (sections_of cs) = ap tree_of e ∙ tree-Switch s cs in
    tree-Switch u cs ∙ ap (λ w. P.Switch w (sections_of cs))
    (h ∙ sym (ap (λ o. without_repeat_pick o (selector_tree s)) (tree_repeat x _ (Some r) tree f))) ∙ ap shortened (sym tree)

not_short_tree : (t : Tree) → repeat_of t ≡ None → shortened t ≡ t
not_short_tree (P.If t a b) h = ap (λ o. P.If (without_repeat o t) a b) h
not_short_tree (P.While t a) h = ap (λ o. P.While (without_repeat o t) a) h
not_short_tree (P.Do a t) h = ap (λ o. P.Do a (without_repeat o t)) h
not_short_tree (P.Switch s c) h = ap (λ o. P.Switch (without_repeat_pick o s) c) h
not_short_tree _ h = refl

pub not_short : (x : Item) → repeat_in x ≡ None → shortened (tree_of x) ≡ tree_of x
not_short x h = not_short_tree (tree_of x) (repeat-item x ∙ h)
