-- Two neighbours that are `if`s become one.
use Rattle.std.proofs.Common.{◌≡◌, ℕ, zero, suc, ◌+◌, Bool, List, [], ◌∷◌, ◌++◌, drop, Option, Some, None, IsSome, slice_get, slice_set, refl, sym, ap, subst, ◌∙◌, arith}
use Rattle.std.specs.Prelude.{remove}
use Rattle.c_tree.specs.declared.tree.Item.{Item, Item-F, If, out-Item, roll-Item, roll-out-Item}
use Rattle.c_tree.specs.declared.tree.Section.{Section}
use Rattle.c_tree.specs.declared.tree.Item.TheOpen as O
use Rattle.c_tree.specs.declared.tree.Item.TheVariants.{rolls-If}
use Rattle.c_tree.specs.declared.tree.Test.{Test}
use Rattle.c_tree.specs.TestTrees.{test_tree}
use Rattle.c_tree.specs.Trees.{Then, tree_of, trees_of}
use Rattle.c_tree.specs.Trees as P
use Rattle.c_tree.proofs.TreeLaws.{tree-If, trees-append}
use Rattle.report_moves.specs.declared.moves.MoveKind.TheVariants.{Z3}
use Rattle.guard_simplify.specs.Application.{edited, joined}
use Rattle.guard_simplify.specs.Choice.{neighbours}
use Rattle.guard_simplify.specs.Views.{guard_F, guard, beside, next_guard, arms_item}
use Rattle.guard_simplify.proofs.ViewLaws.{neighbours-item}
use Rattle.guard_edits.specs.Built.{IsIf, IsJoined, ArePair}

pub join_is : (x y : Item) (t u : Test) (a b c d all : List Item) → x ≡ If t a b → y ≡ If u c d → all ≡ a ++ c → IsJoined x y (If t all b)
join_is x y t u a b c d all e f g rest =
    ap (λ z. Then z rest) (tree-If t all b ∙ ap (λ z. P.If (test_tree t) (trees_of z) (trees_of b)) g ∙
    ap (λ z. P.If (test_tree t) z (trees_of b)) (trees-append a c))
    ∙ sym (ap (λ z. joined (Then (tree_of z) (Then (tree_of y) rest))) e ∙ ap (λ z. joined (Then (tree_of (If t a b)) (Then (tree_of z) rest))) f
    ∙ ap (λ z. joined (Then z (Then (tree_of (If u c d)) rest))) (tree-If t a b) ∙
    ap (λ z. joined (Then (P.If (test_tree t) (trees_of a) (trees_of b)) (Then z rest))) (tree-If u c d))

-- ---- in a list

pub one_item : (o : Option Item) (x y : Item) → o ≡ Some x → o ≡ Some y → x ≡ y
one_item o x y e f = let g : Some x ≡ Some y = sym e ∙ f in cc

pub still_first : (xs : List Item) (i : ℕ) → slice_get (remove xs (suc i)) i ≡ slice_get xs i
still_first [] zero = refl
still_first [] (suc i) = refl
still_first (x ∷ []) zero = refl
still_first (x ∷ y ∷ xs) zero = refl
still_first (x ∷ xs) (suc i) = still_first xs i

pub set_joined : (xs : List Item) (i : ℕ) (x y w : Item) → slice_get xs i ≡ Some x → slice_get xs (suc i) ≡ Some y → IsJoined x y w →
    trees_of (slice_set (remove xs (suc i)) i w) ≡ edited Z3 i (trees_of xs)
unfolding trees_of
set_joined [] i x y w e f h = cc
set_joined (a ∷ []) zero x y w e f h = cc
set_joined (a ∷ b ∷ xs) zero x y w e f h =
    let p : a ≡ x = cc in
    let q : b ≡ y = cc in
    h (trees_of xs) ∙ ap (λ z. joined (Then (tree_of z) (Then (tree_of y) (trees_of xs)))) (sym p) ∙
    ap (λ z. joined (Then (tree_of a) (Then (tree_of z) (trees_of xs)))) (sym q)
set_joined (a ∷ xs) (suc i) x y w e f h = ap (Then (tree_of a)) (set_joined xs i x y w e f h)

-- the second is taken out, and the first changed
pub pair_joined : (xs ys : List Item) (i : ℕ) (x y w : Item) → slice_get xs (i + 1) ≡ Some y → ys ≡ remove xs (i + 1) → slice_get ys i ≡ Some x →
    IsJoined x y w → trees_of (slice_set ys i w) ≡ edited Z3 i (trees_of xs)
pair_joined xs ys i x y w f e h j =
    let more : i + 1 ≡ suc i = omega arith in
    let rest : ys ≡ remove xs (suc i) = e ∙ ap (remove xs) more in
    let first : slice_get xs i ≡ Some x = sym (still_first xs i) ∙ ap (λ z. slice_get z i) (sym rest) ∙ h in
    let next : slice_get xs (suc i) ≡ Some y = ap (slice_get xs) (sym more) ∙ f in
    ap (λ z. trees_of (slice_set z i w)) rest ∙ set_joined xs i x y w first next j

-- ---- neighbours under one guard are such a pair

guarded_layer : (x : Item) (y : Item-F Item Section) → x ≡ roll-Item y → IsSome (guard_F y) → IsIf x
guarded_layer x (O.If t a b) e h = record { test = t; list = a; other = b; is = e ∙ rolls-If t a b }
guarded_layer x _ e h = cc

guarded : (x : Item) → IsSome (guard x) → IsIf x
guarded x h = guarded_layer x (out-Item x) (sym (roll-out-Item x)) h

record Both (first : Option ℕ) (next : Option Item) : Type 0 where
  item : Item
  is : next ≡ Some item
  first_some : IsSome first
  next_some : IsSome (guard item)

both_guards : (first : Option ℕ) (next : Option Item) (f : ℕ → Bool) → IsSome (beside first (next_guard next) f) → Both first next
both_guards None next f h = cc
both_guards (Some l) None f h = cc
both_guards (Some l) (Some y) f h = record { item = y; is = refl; first_some = refl; next_some = by (guard y) h } where
  by : (o : Option ℕ) → IsSome (beside (Some l) o f) → IsSome o
  by None h = cc
  by (Some m) h = refl

pub pair_of : (xs : List Item) (i : ℕ) (x : Item) → slice_get xs i ≡ Some x → IsSome (neighbours (tree_of x) (trees_of (drop (suc i) xs))) → ArePair xs i
pair_of xs i x e h =
    let more : i + 1 ≡ suc i = omega arith in
    let g : IsSome (beside (guard x) (next_guard (slice_get xs (suc i))) (λ l. arms_item l x)) =
    subst (λ k. IsSome (beside (guard x) (next_guard (slice_get xs k)) (λ l. arms_item l x))) more
    (subst IsSome (neighbours-item x xs i) (subst (λ k. IsSome (neighbours (tree_of x) (trees_of (drop k xs)))) (sym more) h)) in
    let b = both_guards (guard x) (slice_get xs (suc i)) (λ l. arms_item l x) g in
    record { first = x; next = b.item; first_is = e; next_is = b.is; first_if = guarded x b.first_some; next_if = guarded b.item b.next_some }
