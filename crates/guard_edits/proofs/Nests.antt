-- An `if` round one `if` becomes one.
use Rattle.std.proofs.Common.{◌≡◌, true, false, ℕ, zero, suc, List, [], ◌∷◌, ◌++◌, Some, slice_get, slice_set, refl, sym, ap, ◌∙◌}
use Rattle.std.proofs.lemmas.Bool.{and_parts}
use Rattle.c_tree.specs.declared.tree.Item.{Item, Item-F, If, out-Item, roll-Item, out-roll-Item, roll-out-Item}
use Rattle.c_tree.specs.declared.tree.Section.{Section}
use Rattle.c_tree.specs.declared.tree.Item.TheOpen as O
use Rattle.c_tree.specs.declared.tree.Item.TheVariants.{rolls-If}
use Rattle.c_tree.specs.declared.tree.Test.{Test}
use Rattle.c_tree.specs.TestTrees.{test_tree}
use Rattle.c_tree.specs.Trees.{Nil, Then, tree_of, trees_of}
use Rattle.c_tree.specs.Trees as P
use Rattle.c_tree.proofs.TreeLaws.{tree-If, trees-more, trees-none}
use Rattle.report_moves.specs.declared.moves.MoveKind.TheVariants.{Z4}
use Rattle.move_laws.specs.Simplifications.{round}
use Rattle.guard_simplify.specs.Application.{edited, unnested}
use Rattle.guard_simplify.specs.Choice.{is_nil, is_off, is_nested}
use Rattle.guard_simplify.specs.Views.{made_if_F, one_if, nested_F}
use Rattle.guard_simplify.proofs.ViewLaws.{nil_is, nested-item}
use Rattle.guard_edits.specs.Built.{IsNest, IsUnnested}

pub out_if : (t : Test) (a b : List Item) → out-Item (If t a b) ≡ O.If t a b
out_if t a b = ap out-Item (sym (rolls-If t a b)) ∙ out-roll-Item (O.If t a b)

if_same : (t u : Test) (a b c d : List Item) → If t a b ≡ If u c d → (t ≡ u) × (a ≡ c) × (b ≡ d)
if_same t u a b c d e =
    let f : O.If t a b ≡ O.If u c d = sym (out_if t a b) ∙ ap out-Item e ∙ out_if u c d in
    let p : t ≡ u = cc in
    let q : a ≡ c = cc in
    let r : b ≡ d = cc in
    (p, q, r)

last_of : (zs : List Item) (x y : Item) → y ∷ [] ≡ zs ++ x ∷ [] → x ≡ y
last_of [] x y e = cc
last_of (z ∷ []) x y e = cc
last_of (z ∷ w ∷ zs) x y e = cc

-- the parts that the code has
module _ (x : Item) (n : IsNest x) (t : Test) (list c : List Item) (e : x ≡ If t list c) where
  parts : (n.test ≡ t) × (If n.inner n.list [] ∷ [] ≡ list) × ([] ≡ c)
  parts = if_same n.test t (If n.inner n.list [] ∷ []) [] list c (sym n.is ∙ e)

  pub last_is : (zs : List Item) (last : Item) → list ≡ zs ++ last ∷ [] → last ≡ If n.inner n.list []
  last_is zs last f = last_of zs last (If n.inner n.list []) (parts.1 ∙ f)

  pub unnest_is : (w u : Test) (a b zs : List Item) (last : Item) → list ≡ zs ++ last ∷ [] → last ≡ If u a b →
      test_tree w ≡ round (test_tree t) (test_tree u) → IsUnnested x (If w a c)
  unnest_is w u a b zs last f g h rest =
      let alone : list ≡ last ∷ [] = sym parts.1 ∙ ap (λ (z : Item). z ∷ []) (sym (last_is zs last f)) in
      let tree : tree_of x ≡ P.If (test_tree t) (Then (P.If (test_tree u) (trees_of a) (trees_of b)) Nil) (trees_of c) =
      ap tree_of e ∙ tree-If t list c ∙ ap (λ z. P.If (test_tree t) z (trees_of c))
      (ap trees_of alone ∙ trees-more last [] ∙ ap (Then (tree_of last)) trees-none ∙ ap (λ z. Then z Nil) (ap tree_of g ∙ tree-If u a b)) in
      ap (λ z. Then z rest) (tree-If w a c) ∙ ap (λ z. Then (P.If z (trees_of a) (trees_of c)) rest) h ∙ ap (λ z. unnested (Then z rest)) (sym tree)

pub set_unnested : (xs : List Item) (i : ℕ) (x y : Item) → slice_get xs i ≡ Some x → IsUnnested x y → trees_of (slice_set xs i y) ≡ edited Z4 i (trees_of xs)
unfolding trees_of
set_unnested [] i x y e h = cc
set_unnested (z ∷ xs) zero x y e h = let f : z ≡ x = cc in h (trees_of xs) ∙ ap (λ w. unnested (Then (tree_of w) (trees_of xs))) (sym f)
set_unnested (z ∷ xs) (suc i) x y e h = ap (Then (tree_of z)) (set_unnested xs i x y e h)

-- ---- the shape that Z4 asks for has these parts

nil_list : (b : List Item) → is_nil (trees_of b) ≡ true → b ≡ []
nil_list [] h = refl
nil_list (y ∷ ys) h = let f : false ≡ true = sym (nil_is (y ∷ ys)) ∙ h in cc

record MadeIf (y : Item) : Type 0 where
  inner : Test
  list : List Item
  is : y ≡ If inner list []

made_parts : (y : Item) (z : Item-F Item Section) → y ≡ roll-Item z → made_if_F z ≡ true → MadeIf y
made_parts y (O.If u c d) e h =
    let p = and_parts (is_nil (trees_of d)) _ h in
    record { inner = u; list = c; is = e ∙ rolls-If u c d ∙ ap (If u c) (nil_list d p.0) }
made_parts y _ e h = cc

nest_list : (x : Item) (t : Test) (a : List Item) → x ≡ If t a [] → one_if a ≡ true → IsNest x
nest_list x t (y ∷ []) e h =
    let m = made_parts y (out-Item y) (sym (roll-out-Item y)) h in
    record { test = t; inner = m.inner; list = m.list; is = e ∙ ap (λ (z : Item). If t (z ∷ []) []) m.is }
nest_list x t _ e h = cc

nest_parts : (x : Item) (z : Item-F Item Section) → x ≡ roll-Item z → nested_F z ≡ true → IsNest x
nest_parts x (O.If t a b) e h =
    let p = and_parts (is_nil (trees_of b)) _ h in
    let q = and_parts (is_off (test_tree t)) (one_if a) p.1 in
    nest_list x t a (e ∙ rolls-If t a b ∙ ap (If t a) (nil_list b p.0)) q.1
nest_parts x _ e h = cc

pub nest_of : (x : Item) → is_nested (tree_of x) ≡ true → IsNest x
nest_of x h = nest_parts x (out-Item x) (sym (roll-out-Item x)) (sym (nested-item x) ∙ h)
