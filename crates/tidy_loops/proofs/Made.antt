-- What the items of a list become, and what gives way among them.
use mathlib.Core.Path.{ap₂}
use Rattle.std.proofs.Common.{ℕ, ◌+◌, ◌<◌, Bool, true, false, cond, ◌&&◌, List, [], ◌∷◌, ◌++◌, length, drop, get_or, ◌≡◌, refl, sym, ap, ◌∙◌}
use Rattle.c_tree.specs.declared.tree.Item as I
use Rattle.c_tree.specs.declared.tree.Item.{Item, Item-F, out-Item, roll-Item, roll-out-Item}
use Rattle.c_tree.specs.declared.tree.Item.TheOpen as O
use Rattle.c_tree.specs.declared.tree.Item.TheVariants.{rolls-If}
use Rattle.c_tree.specs.declared.tree.Expression.{Expression}
use Rattle.c_tree.specs.declared.tree.Test as S
use Rattle.c_tree.specs.declared.tree.Test.{Test}
use Rattle.c_tree.specs.ExpressionTrees.{expression_tree}
use Rattle.c_tree.specs.declared.tree.Section as Real
use Rattle.c_tree.specs.TestTrees.{TestTree, Source}
use Rattle.c_tree.proofs.ExpressionLaws.{test-Source}
use Rattle.c_tree.specs.Trees.{Tree, Forest, Nil, Then, If, Evaluate, Block, trees_of, join}
use Rattle.c_tree.proofs.TreeLaws.{trees-none, trees-append}
use Rattle.c_tree.specs.Views.{layer_at, tree_at}
use Rattle.c_tree.proofs.Views.{trees-first, trees-at, at-If}
use Rattle.c_tree.specs.Changed.{one}
use Rattle.tidy_laws.specs.Tails.{is_check}
use Rattle.tidy_laws.specs.Changes.{has_local, are_low, is_low, checks, given_way, unchecked, inner, inner_item, tailed, tailed_item}
use Rattle.tidy_loops.specs.Exits.{then_list, inner_kept, tailed_kept}
use Rattle.tidy_loops.proofs.FormLaws.{check_if}

unchecked_at : (t : TestTree) (a b : Forest) (c : Bool) → unchecked c t a b ≡ cond c (given_way a) (one (If t a b))
unchecked_at t a b true = refl
unchecked_at t a b false = refl

pub inner_by : (g : ℕ) (x : Tree) → inner_item g x ≡ cond (is_check g x) (given_way (inner g (then_list x))) (one (inner_kept g x))
inner_by g (If t a b) = unchecked_at t (inner g a) (inner g b) (checks g t b) ∙
    ap (λ c. cond c (given_way (inner g a)) (one (If t (inner g a) (inner g b)))) (sym (check_if g t a b))
inner_by g x = refl

pub tailed_by : (g : ℕ) (l x : Tree) → tailed_item g l x ≡ cond (is_check g x) (given_way (tailed g l (then_list x))) (one (tailed_kept g l x))
tailed_by g l (If t a b) = unchecked_at t (tailed g l a) (tailed g l b) (checks g t b) ∙
    ap (λ c. cond c (given_way (tailed g l a)) (one (If t (tailed g l a) (tailed g l b)))) (sym (check_if g t a b))
tailed_by g l (Evaluate e) = refl
tailed_by g l x = inner_by g x

-- ---- low sets

pub low_first : (g n : ℕ) (xs : List Item) (i : ℕ) (x : Item) (b : Bool) → i < length xs → x ≡ get_or xs i x → is_low g n (tree_at x) ≡ b →
    (b && are_low g n (trees_of (drop (i + 1) xs))) ≡ are_low g n (trees_of (drop i xs))
low_first g n xs i x b h e l = ap (λ z. z && are_low g n (trees_of (drop (i + 1) xs))) (sym l) ∙ sym (ap (are_low g n) (trees-at xs i x h e))

-- ---- what gives way

pub given_block : (a : Forest) → has_local a ≡ true → one (Block a) ≡ given_way a
given_block a h = sym (ap (λ b. cond b (one (Block a)) a) h)

pub given_items : (a : Forest) → has_local a ≡ false → a ≡ given_way a
given_items a h = sym (ap (λ b. cond b (one (Block a)) a) h)

pub trees_join : (xs ys : List Item) → trees_of (xs ++ ys) ≡ join (trees_of xs) (trees_of ys)
trees_join xs ys = trees-append xs ys

then_layer : (x : Item) (y : Item-F Item Real.Section) → x ≡ roll-Item y → ((t : Test) (a b : List Item) → x ≡ I.If t a b → ⊥) → then_list (layer_at y) ≡ Nil
then_layer x (O.If t a b) e h = absurd (h t a b (e ∙ rolls-If t a b))
then_layer x _ e h = refl

pub then_none : (x : Item) → ((t : Test) (a b : List Item) → x ≡ I.If t a b → ⊥) → then_list (tree_at x) ≡ Nil
then_none x h = then_layer x (out-Item x) (sym (roll-out-Item x)) h

-- ---- what a set becomes

pub left_if : (l : Tree) (e v : Expression) (j : Item) (a b : List Item) → v ≡ e → tree_at j ≡ l → a ≡ j ∷ [] → b ≡ [] →
    tree_at (I.If (S.Source v) a b) ≡ If (Source (expression_tree e)) (one l) Nil
left_if l e v j a b h k p q =
    at-If (S.Source v) a b ∙ ap (λ z. If z (trees_of a) (trees_of b)) (test-Source v ∙ ap (λ z. Source (expression_tree z)) h)
    ∙ ap (λ z. If (Source (expression_tree e)) z (trees_of b)) (ap trees_of p ∙ trees-first j [] ∙ ap₂ Then k trees-none)
    ∙ ap (If (Source (expression_tree e)) (one l)) (ap trees_of q ∙ trees-none)
