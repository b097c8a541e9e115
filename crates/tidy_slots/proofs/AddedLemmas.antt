-- Counts added one after another.
use Rattle.std.proofs.Common.{ℕ, ◌+◌, ◌<◌, ◌≤◌, List, map, length, get_or, drop, Result, Ok, Err, OnOk, ◌≡◌, refl, sym, ap, ◌∙◌, subst, arith}
use Rattle.std.proofs.lemmas.List.{at_drop_more, at_drop_all}
use Rattle.c_tree.specs.declared.tree.Expression.{Expression, out-Expression}
use Rattle.c_tree.specs.declared.tree.Place.{Place}
use Rattle.c_tree.specs.declared.tree.Node.{Node}
use Rattle.c_tree.specs.declared.tree.Test.{Test}
use Rattle.c_tree.specs.declared.tree.Selector.{Selector}
use Rattle.c_tree.specs.declared.tree.Item.{Item}
use Rattle.c_tree.specs.ExpressionTrees.{PlaceTree, NodeTree, expression_tree, place_tree, node_tree, arguments}
use Rattle.c_tree.specs.TestTrees.{TestTree, SelectorTree, test_tree, selector_tree}
use Rattle.c_tree.specs.declared.tree.Section.{Section}
use Rattle.c_tree.specs.Trees.{Tree, trees_of, sections_of, expression_trees}
use Rattle.c_tree.proofs.ExpressionLaws.{expression-parts}
use Rattle.c_tree.specs.Views.{tree_at}
use Rattle.tidy_slots.specs.Counts.{expression_count, place_count, node_count, arguments_count, test_count, selector_count, all_count, list_count, item_count, sections_count}
use Rattle.tidy_slots.specs.Added.{Adds}

pub none_added : (a : List ℕ) → Adds a (λ g. 0) a
none_added a = record { as_long = refl; counted = λ g h. omega arith }

pub both_added : {m n : ℕ → ℕ} {a b c : List ℕ} → Adds a m b → Adds b n c → Adds a (λ g. m g + n g) c
both_added {m} {n} {a} {b} {c} p q = record {
  as_long = q.as_long ∙ p.as_long;
  counted = λ g h. let k : g < length b = omega (arith, h, p.as_long) in let i = p.counted g h in let j = q.counted g k in omega (arith, i, j);
}

pub then_added : {T E : Type 0} {m : ℕ → ℕ} {a b : List ℕ} (n : ℕ → ℕ) (c : List ℕ) (r : Result T E) → Adds a m b → OnOk r (Adds b n c) →
    OnOk r (Adds a (λ g. m g + n g) c)
then_added n c (Ok u) p q = both_added p q
then_added n c (Err e) p q = q

-- said by the form of a node or of an item
pub by_node : {T E : Type 0} (r : Result T E) (a b : List ℕ) (n m : Node) (t : NodeTree) → n ≡ m → node_tree m ≡ t →
    OnOk r (Adds a (λ g. node_count g t) b) → OnOk r (Adds a (λ g. node_count g (node_tree n)) b)
by_node r a b n m t e h p = subst (λ t. OnOk r (Adds a (λ g. node_count g t) b)) (sym (ap node_tree e ∙ h)) p

pub by_item : {T E : Type 0} (r : Result T E) (a b : List ℕ) (n m : Item) (t : Tree) → n ≡ m → tree_at m ≡ t →
    OnOk r (Adds a (λ g. item_count g t) b) → OnOk r (Adds a (λ g. item_count g (tree_at n)) b)
by_item r a b n m t e h p = subst (λ t. OnOk r (Adds a (λ g. item_count g t) b)) (sym (ap tree_at e ∙ h)) p

pub none_node : (a : List ℕ) (n m : Node) (t : NodeTree) → n ≡ m → node_tree m ≡ t → Adds a (λ g. node_count g t) a → Adds a (λ g. node_count g (node_tree n)) a
none_node a n m t e h p = subst (λ t. Adds a (λ g. node_count g t) a) (sym (ap node_tree e ∙ h)) p

pub none_item : (a : List ℕ) (n m : Item) (t : Tree) → n ≡ m → tree_at m ≡ t → Adds a (λ g. item_count g t) a → Adds a (λ g. item_count g (tree_at n)) a
none_item a n m t e h p = subst (λ t. Adds a (λ g. item_count g t) a) (sym (ap tree_at e ∙ h)) p

pub none_test : (a : List ℕ) (n m : Test) (t : TestTree) → n ≡ m → test_tree m ≡ t → Adds a (λ g. test_count g t) a → Adds a (λ g. test_count g (test_tree n)) a
none_test a n m t e h p = subst (λ t. Adds a (λ g. test_count g t) a) (sym (ap test_tree e ∙ h)) p

-- what was counted is behind a reference or a box
pub got : {T E : Type 0} (r : Result T E) (a b : List ℕ) (e x : Expression) → e ≡ x →
    OnOk r (Adds a (λ g. expression_count g (expression_tree e)) b) → OnOk r (Adds a (λ g. expression_count g (expression_tree x)) b)
got r a b e x h p = subst (λ z. OnOk r (Adds a (λ g. expression_count g (expression_tree z)) b)) h p

pub each_got : {T E : Type 0} (r : Result T E) (a b : List ℕ) (xs ys : List Expression) → xs ≡ ys →
    OnOk r (Adds a (λ g. arguments_count g (arguments (map expression_tree xs))) b) →
    OnOk r (Adds a (λ g. arguments_count g (arguments (map expression_tree ys))) b)
each_got r a b xs ys h p = subst (λ z. OnOk r (Adds a (λ g. arguments_count g (arguments (map expression_tree z))) b)) h p

pub list_got : {T E : Type 0} (r : Result T E) (a b : List ℕ) (xs ys : List Item) → xs ≡ ys → OnOk r (Adds a (λ g. list_count g (trees_of xs)) b) →
    OnOk r (Adds a (λ g. list_count g (trees_of ys)) b)
list_got r a b xs ys h p = subst (λ z. OnOk r (Adds a (λ g. list_count g (trees_of z)) b)) h p

pub list_have : (a b : List ℕ) (xs ys : List Item) → ys ≡ xs → Adds a (λ g. list_count g (trees_of xs)) b → Adds a (λ g. list_count g (trees_of ys)) b
list_have a b xs ys h p = subst (λ z. Adds a (λ g. list_count g (trees_of z)) b) (sym h) p

pub sections_got : {T E : Type 0} (r : Result T E) (a b : List ℕ) (xs ys : List Section) → xs ≡ ys →
    OnOk r (Adds a (λ g. sections_count g (sections_of xs)) b) → OnOk r (Adds a (λ g. sections_count g (sections_of ys)) b)
sections_got r a b xs ys h p = subst (λ z. OnOk r (Adds a (λ g. sections_count g (sections_of z)) b)) h p

pub test_got : {T E : Type 0} (r : Result T E) (a b : List ℕ) (u t : Test) → u ≡ t → OnOk r (Adds a (λ g. test_count g (test_tree u)) b) →
    OnOk r (Adds a (λ g. test_count g (test_tree t)) b)
test_got r a b u t h p = subst (λ z. OnOk r (Adds a (λ g. test_count g (test_tree z)) b)) h p

pub selector_got : {T E : Type 0} (r : Result T E) (a b : List ℕ) (u t : Selector) → u ≡ t →
    OnOk r (Adds a (λ g. selector_count g (selector_tree u)) b) → OnOk r (Adds a (λ g. selector_count g (selector_tree t)) b)
selector_got r a b u t h p = subst (λ z. OnOk r (Adds a (λ g. selector_count g (selector_tree z)) b)) h p

pub seen : (a b : List ℕ) (e x : Expression) → e ≡ x → Adds a (λ g. expression_count g (expression_tree e)) b →
    Adds a (λ g. expression_count g (expression_tree x)) b
seen a b e x h p = subst (λ z. Adds a (λ g. expression_count g (expression_tree z)) b) h p

-- ---- one more

-- ---- over a list

-- the counts so far, and what is left
pub record AddsUpTo (old : List ℕ) (whole : ℕ → ℕ) (new : List ℕ) (rest : ℕ → ℕ) : Type 0 where
  pub as_long : length new ≡ length old
  pub counted : (g : ℕ) → g < length old → get_or new g 0 + rest g ≡ get_or old g 0 + whole g

pub begun : (a : List ℕ) (whole : ℕ → ℕ) → AddsUpTo a whole a whole
begun a whole = record { as_long = refl; counted = λ g h. refl }

pub went_on : (a : List ℕ) (whole : ℕ → ℕ) (b c : List ℕ) (rest more later : ℕ → ℕ) → ((g : ℕ) → rest g ≡ more g + later g) → Adds b more c →
    AddsUpTo a whole b rest → AddsUpTo a whole c later
went_on a whole b c rest more later e p q = record {
  as_long = p.as_long ∙ q.as_long;
  counted = λ g h. let k : g < length b = omega (arith, h, q.as_long) in let i = p.counted g k in let j = q.counted g h in let l = e g in
      omega (arith, i, j, l);
}

pub all_added : (a : List ℕ) (whole : ℕ → ℕ) (b : List ℕ) (rest : ℕ → ℕ) → ((g : ℕ) → rest g ≡ 0) → AddsUpTo a whole b rest → Adds a whole b
all_added a whole b rest e q = record { as_long = q.as_long; counted = λ g h. let j = q.counted g h in let l = e g in omega (arith, j, l) }

-- ---- lists of expressions

pub arguments_at : (xs : List Expression) (i : ℕ) (x : Expression) → i < length xs → x ≡ get_or xs i x → (g : ℕ) →
    arguments_count g (arguments (map expression_tree (drop i xs))) ≡ expression_count g (expression_tree x) + arguments_count g
    (arguments (map expression_tree (drop (i + 1) xs)))
arguments_at xs i x h e g = at_drop_more (λ ys. arguments_count g (arguments (map expression_tree ys))) xs i x h ∙
    ap (λ y. expression_count g (expression_tree y) + arguments_count g (arguments (map expression_tree (drop (i + 1) xs)))) (sym e)

pub arguments_end : (xs : List Expression) (i : ℕ) → length xs ≤ i → (g : ℕ) → arguments_count g (arguments (map expression_tree (drop i xs))) ≡ 0
arguments_end xs i h g = at_drop_all (λ ys. arguments_count g (arguments (map expression_tree ys))) xs i h

pub each_at : (xs : List Expression) (i : ℕ) (x : Expression) → i < length xs → x ≡ get_or xs i x → (g : ℕ) →
    all_count g (expression_trees (drop i xs)) ≡ expression_count g (expression_tree x) + all_count g (expression_trees (drop (i + 1) xs))
each_at xs i x h e g = at_drop_more (λ ys. all_count g (expression_trees ys)) xs i x h ∙
    ap (λ y. expression_count g (expression_tree y) + all_count g (expression_trees (drop (i + 1) xs))) (sym e)

pub each_end : (xs : List Expression) (i : ℕ) → length xs ≤ i → (g : ℕ) → all_count g (expression_trees (drop i xs)) ≡ 0
each_end xs i h g = at_drop_all (λ ys. all_count g (expression_trees ys)) xs i h

-- an expression by its parts
pub by_parts : {T E : Type 0} (r : Result T E) (a b : List ℕ) (e : Expression) →
    OnOk r (Adds a (λ g. node_count g (node_tree (out-Expression e).node)) b) → OnOk r (Adds a (λ g. expression_count g (expression_tree e)) b)
by_parts r a b e p = subst (λ t. OnOk r (Adds a (λ g. expression_count g t) b)) (sym (expression-parts e)) p

pub by_place : {T E : Type 0} (r : Result T E) (a b : List ℕ) (n m : Place) (t : PlaceTree) → n ≡ m → place_tree m ≡ t →
    OnOk r (Adds a (λ g. place_count g t) b) → OnOk r (Adds a (λ g. place_count g (place_tree n)) b)
by_place r a b n m t e h p = subst (λ t. OnOk r (Adds a (λ g. place_count g t) b)) (sym (ap place_tree e ∙ h)) p

pub by_test : {T E : Type 0} (r : Result T E) (a b : List ℕ) (n m : Test) (t : TestTree) → n ≡ m → test_tree m ≡ t →
    OnOk r (Adds a (λ g. test_count g t) b) → OnOk r (Adds a (λ g. test_count g (test_tree n)) b)
by_test r a b n m t e h p = subst (λ t. OnOk r (Adds a (λ g. test_count g t) b)) (sym (ap test_tree e ∙ h)) p

pub by_selector : {T E : Type 0} (r : Result T E) (a b : List ℕ) (n m : Selector) (t : SelectorTree) → n ≡ m → selector_tree m ≡ t →
    OnOk r (Adds a (λ g. selector_count g t) b) → OnOk r (Adds a (λ g. selector_count g (selector_tree n)) b)
by_selector r a b n m t e h p = subst (λ t. OnOk r (Adds a (λ g. selector_count g t) b)) (sym (ap selector_tree e ∙ h)) p
