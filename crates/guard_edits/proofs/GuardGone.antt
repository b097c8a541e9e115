-- A guard goes from items, lists and sections.
use Rattle.std.proofs.Common.{◌≡◌, ◌≢◌, ℕ, zero, suc, ◌+◌, ◌≤◌, drop, eqb, Bool, true, false, cond, List, [], ◌∷◌, length, Option, Some, None, slice_get, slice_set, refl, sym, ap, ◌∙◌, arith}
use Rattle.std.specs.Prelude.{remove, option_map}
use Rattle.std.proofs.lemmas.Bool.{eq-eqb, ne_eqb}
use Rattle.c_tree.specs.declared.tree.Item.{Item, Item-F, out-Item, roll-Item, roll-out-Item, out-roll-Item, Evaluate, If, While, Do, For, Switch, Block, Arm}
use Rattle.c_tree.specs.declared.tree.Item.TheOpen as O
use Rattle.c_tree.specs.declared.tree.Item.TheVariants.{rolls-If, rolls-While, rolls-Do, rolls-For, rolls-Switch, rolls-Block, rolls-Arm}
use Rattle.c_tree.specs.declared.tree.Section.{Section}
use Rattle.c_tree.specs.declared.tree.Test.{Test}
use Rattle.c_tree.specs.declared.tree.Selector.{Selector}
use Rattle.c_tree.specs.declared.tree.Expression.{Expression}
use Rattle.c_tree.specs.Paths.{list_of}
use Rattle.c_tree.specs.Changed.{one}
use Rattle.c_tree.specs.Everywhere.{total, total_of, total_in}
use Rattle.c_tree.specs.TestTrees.{test_tree, selector_tree}
use Rattle.c_tree.specs.ExpressionTrees.{expression_tree}
use Rattle.c_tree.specs.Trees.{Tree, Forest, Nil, Then, Sections, NoSection, SectionTree, tree_of, trees_of, section_tree, sections_of, join}
use Rattle.c_tree.specs.Trees as P
use Rattle.c_tree.proofs.TreeLaws.{tree-If, tree-While, tree-Do, tree-For, tree-Switch, tree-Block, tree-Arm, tree-Evaluate, section-parts}
use Rattle.c_tree.proofs.ChangeLemmas.{layer_tree, tree-out, first, section-with}
use Rattle.move_laws.specs.Drops.{dropped, dropped_item, dropped_sections}
use Rattle.guard_edits.specs.Goes.{goes_F, goes, IsWithoutGuard}

-- ---- one item

pub goes-Arm : (l m : ℕ) (e : Option Expression) → goes l (Arm m e) ≡ goes_F l (O.Arm m e)
goes-Arm l m e = ap (goes l) (sym (rolls-Arm m e)) ∙ ap (goes_F l) (out-roll-Item (O.Arm m e))

gone_layer : (l : ℕ) (y : Item-F Item Section) → goes_F l y ≡ true → dropped_item (eqb l) (layer_tree y) ≡ Nil
gone_layer l (O.Arm m None) h = ap (λ b. cond b Nil (one (P.Arm m None))) h
gone_layer l (O.Arm m (Some e)) h = cc
gone_layer l (O.Land m) h = ap (λ b. cond b Nil (one (P.Land m))) h
gone_layer l _ h = cc

pub gone : (l : ℕ) (x : Item) → goes l x ≡ true → dropped_item (eqb l) (tree_of x) ≡ Nil
gone l x h = ap (dropped_item (eqb l)) (tree-out x) ∙ gone_layer l (out-Item x) h

pub in_if : (l : ℕ) (x : Item) (t : Test) (a b v w : List Item) → x ≡ If t a b → trees_of v ≡ dropped (eqb l) (trees_of a) →
    trees_of w ≡ dropped (eqb l) (trees_of b)
    → one (tree_of (If t v w)) ≡ dropped_item (eqb l) (tree_of x)
in_if l x t a b v w e f g =
    ap one (tree-If t v w ∙ ap (λ z. P.If (test_tree t) z (trees_of w)) f ∙ ap (P.If (test_tree t) (dropped (eqb l) (trees_of a))) g)
    ∙ sym (ap (dropped_item (eqb l)) (ap tree_of e ∙ tree-If t a b))

pub in_while : (l : ℕ) (x : Item) (t : Test) (a v : List Item) → x ≡ While t a → trees_of v ≡ dropped (eqb l) (trees_of a) →
    one (tree_of (While t v)) ≡ dropped_item (eqb l) (tree_of x)
in_while l x t a v e f = ap one (tree-While t v ∙ ap (P.While (test_tree t)) f) ∙ sym (ap (dropped_item (eqb l)) (ap tree_of e ∙ tree-While t a))

pub in_do : (l : ℕ) (x : Item) (t : Test) (a v : List Item) → x ≡ Do a t → trees_of v ≡ dropped (eqb l) (trees_of a) →
    one (tree_of (Do v t)) ≡ dropped_item (eqb l) (tree_of x)
in_do l x t a v e f = ap one (tree-Do v t ∙ ap (λ z. P.Do z (test_tree t)) f) ∙ sym (ap (dropped_item (eqb l)) (ap tree_of e ∙ tree-Do a t))

pub in_for : (l : ℕ) (x : Item) (a : List Item) (t u : Option Expression) (b v w : List Item) → x ≡ For a t u b →
    trees_of v ≡ dropped (eqb l) (trees_of a) → trees_of w ≡ dropped (eqb l) (trees_of b)
    → one (tree_of (For v t u w)) ≡ dropped_item (eqb l) (tree_of x)
in_for l x a t u b v w e f g =
    ap one (tree-For v t u w ∙ ap (λ z. P.For z (option_map expression_tree t) (option_map expression_tree u) (trees_of w)) f
    ∙ ap (P.For (dropped (eqb l) (trees_of a)) (option_map expression_tree t) (option_map expression_tree u)) g)
    ∙ sym (ap (dropped_item (eqb l)) (ap tree_of e ∙ tree-For a t u b))

pub in_switch : (l : ℕ) (x : Item) (s : Selector) (c d : List Section) → x ≡ Switch s c → sections_of d ≡ dropped_sections (eqb l) (sections_of c) →
    one (tree_of (Switch s d)) ≡ dropped_item (eqb l) (tree_of x)
in_switch l x s c d e f = ap one (tree-Switch s d ∙ ap (P.Switch (selector_tree s)) f) ∙ sym (ap (dropped_item (eqb l)) (ap tree_of e ∙ tree-Switch s c))

pub in_block : (l : ℕ) (x : Item) (a v : List Item) → x ≡ Block a → trees_of v ≡ dropped (eqb l) (trees_of a) →
    one (tree_of (Block v)) ≡ dropped_item (eqb l) (tree_of x)
in_block l x a v e f = ap one (tree-Block v ∙ ap P.Block f) ∙ sym (ap (dropped_item (eqb l)) (ap tree_of e ∙ tree-Block a))

kept_layer : (l : ℕ) (x : Item) (y : Item-F Item Section) → x ≡ roll-Item y
    → ((t : Test) (a b : List Item) → x ≡ If t a b → ⊥) → ((t : Test) (a : List Item) → x ≡ While t a → ⊥) → ((a : List Item) (t : Test) → x ≡ Do a t → ⊥)
    → ((f : List Item) (t u : Option Expression) (a : List Item) → x ≡ For f t u a → ⊥) → ((s : Selector) (c : List Section) → x ≡ Switch s c → ⊥)
    → ((a : List Item) → x ≡ Block a → ⊥) → ((m : ℕ) (e : Option Expression) → x ≡ Arm m e → ⊥)
    → goes_F l y ≡ false → one (layer_tree y) ≡ dropped_item (eqb l) (layer_tree y)
kept_layer l x (O.If t a b) e p q r s u v w h = absurd (p t a b (e ∙ rolls-If t a b))
kept_layer l x (O.While t a) e p q r s u v w h = absurd (q t a (e ∙ rolls-While t a))
kept_layer l x (O.Do a t) e p q r s u v w h = absurd (r a t (e ∙ rolls-Do a t))
kept_layer l x (O.For f t g a) e p q r s u v w h = absurd (s f t g a (e ∙ rolls-For f t g a))
kept_layer l x (O.Switch k c) e p q r s u v w h = absurd (u k c (e ∙ rolls-Switch k c))
kept_layer l x (O.Block a) e p q r s u v w h = absurd (v a (e ∙ rolls-Block a))
kept_layer l x (O.Arm m o) e p q r s u v w h = absurd (w m o (e ∙ rolls-Arm m o))
kept_layer l x (O.Land m) e p q r s u v w h = sym (ap (λ b. cond b Nil (one (P.Land m))) h)
kept_layer l x _ e p q r s u v w h = refl

-- any other item stays
pub kept : (l : ℕ) (x y : Item) → x ≡ y → goes l x ≡ false
    → ((t : Test) (a b : List Item) → y ≡ If t a b → ⊥) → ((t : Test) (a : List Item) → y ≡ While t a → ⊥) → ((a : List Item) (t : Test) → y ≡ Do a t → ⊥)
    → ((f : List Item) (t u : Option Expression) (a : List Item) → y ≡ For f t u a → ⊥) → ((s : Selector) (c : List Section) → y ≡ Switch s c → ⊥)
    → ((a : List Item) → y ≡ Block a → ⊥) → ((m : ℕ) (e : Option Expression) → y ≡ Arm m e → ⊥)
    → one (tree_of y) ≡ dropped_item (eqb l) (tree_of x)
kept l x y f h p q r s u v w =
    ap one (tree-out y) ∙ kept_layer l y (out-Item y) (sym (roll-out-Item y)) p q r s u v w (ap (goes l) (sym f) ∙ h)
    ∙ ap (dropped_item (eqb l)) (sym (tree-out y) ∙ ap tree_of (sym f))

-- an Arm becomes its condition, or stays
pub arm_evaluates : (l m : ℕ) (e : Expression) → l ≡ m → one (tree_of (Evaluate e)) ≡ dropped_item (eqb l) (tree_of (Arm m (Some e)))
arm_evaluates l m e h =
    ap one (tree-Evaluate e)
    ∙ sym (ap (dropped_item (eqb l)) (tree-Arm m (Some e)) ∙
    ap (λ b. cond b (one (P.Evaluate (expression_tree e))) (one (P.Arm m (Some (expression_tree e))))) (eq-eqb l m h))

pub arm_stays : (l m : ℕ) (e : Expression) → l ≢ m → one (tree_of (Arm m (Some e))) ≡ dropped_item (eqb l) (tree_of (Arm m (Some e)))
arm_stays l m e h =
    ap one (tree-Arm m (Some e))
    ∙ sym (ap (dropped_item (eqb l)) (tree-Arm m (Some e)) ∙
    ap (λ b. cond b (one (P.Evaluate (expression_tree e))) (one (P.Arm m (Some (expression_tree e))))) (ne_eqb l m h))

pub arm_none : (l m : ℕ) → goes l (Arm m None) ≡ false → one (tree_of (Arm m None)) ≡ dropped_item (eqb l) (tree_of (Arm m None))
arm_none l m h =
    ap one (tree-Arm m None) ∙ sym (ap (dropped_item (eqb l)) (tree-Arm m None) ∙ ap (λ b. cond b Nil (one (P.Arm m None))) (sym (goes-Arm l m None) ∙ h))

-- ---- lists, from an item on

abbrev pub dropped_from : (ℕ → Bool) → ℕ → Forest → Forest
dropped_from d zero xs = dropped d xs
dropped_from d (suc i) Nil = Nil
dropped_from d (suc i) (Then x xs) = Then x (dropped_from d i xs)

removed_at : (l : ℕ) (x : Item) → goes l x ≡ true → (xs : List Item) (i : ℕ) → slice_get xs i ≡ Some x →
    dropped_from (eqb l) i (trees_of (remove xs i)) ≡ dropped_from (eqb l) i (trees_of xs)
unfolding trees_of
removed_at l x h [] i e = cc
removed_at l x h (z ∷ zs) zero e = let g : x ≡ z = cc in sym
    (ap (λ w. join w (dropped (eqb l) (trees_of zs))) (ap (λ w. dropped_item (eqb l) (tree_of w)) (sym g) ∙ gone l x h))
removed_at l x h (z ∷ zs) (suc i) e = ap (Then (tree_of z)) (removed_at l x h zs i e)

pub one_goes : (l : ℕ) (xs ys : List Item) (i : ℕ) (x : Item) → slice_get xs i ≡ Some x → goes l x ≡ true → ys ≡ remove xs i →
    dropped_from (eqb l) i (trees_of ys) ≡ dropped_from (eqb l) i (trees_of xs)
one_goes l xs ys i x e h f = ap (λ z. dropped_from (eqb l) i (trees_of z)) f ∙ removed_at l x h xs i e

pub one_stays : (l : ℕ) (xs : List Item) (i : ℕ) (x y : Item) → slice_get xs i ≡ Some x → one (tree_of y) ≡ dropped_item (eqb l) (tree_of x)
    → dropped_from (eqb l) (suc i) (trees_of (slice_set xs i y)) ≡ dropped_from (eqb l) i (trees_of xs)
unfolding trees_of
one_stays l [] i x y e h = cc
one_stays l (z ∷ zs) zero x y e h = let g : x ≡ z = cc in ap (λ w. join w (dropped (eqb l) (trees_of zs))) (h ∙ ap (λ w. dropped_item (eqb l) (tree_of w)) g)
one_stays l (z ∷ zs) (suc i) x y e h = ap (Then (tree_of z)) (one_stays l zs i x y e h)

pub all_done : (d : ℕ → Bool) (xs : List Item) (i : ℕ) → length xs ≤ i → dropped_from d i (trees_of xs) ≡ trees_of xs
unfolding trees_of
all_done d [] zero h = refl
all_done d [] (suc i) h = refl
all_done d (x ∷ xs) zero h = absurd (omega arith)
all_done d (x ∷ xs) (suc i) h = let g : length xs ≤ i = omega arith in ap (Then (tree_of x)) (all_done d xs i g)

-- ---- sections, from one on

abbrev pub sections_from : (ℕ → Bool) → ℕ → Sections → Sections
sections_from d zero c = dropped_sections d c
sections_from d (suc k) NoSection = NoSection
sections_from d (suc k) (P.Section cases default a ends c) = P.Section cases default a ends (sections_from d k c)

section_drops : (l : ℕ) (s t : Section) (rest : Sections) → IsWithoutGuard l s t →
    first (section_tree t) (dropped_sections (eqb l) rest) ≡ dropped_sections (eqb l) (first (section_tree s) rest)
section_drops l s t rest h =
    let o = section_tree s in
    ap (λ z. first z (dropped_sections (eqb l) rest)) (ap section_tree h.is ∙ section-with h.list s)
    ∙ ap (λ z. P.Section o.cases o.default z o.ends (dropped_sections (eqb l) rest))
    (h.trees ∙ ap (dropped (eqb l)) (sym (ap (λ (z : SectionTree). z.list) (section-parts s))))

pub section_done : (l : ℕ) (cs : List Section) (k : ℕ) (s t : Section) → slice_get cs k ≡ Some s → IsWithoutGuard l s t →
    sections_from (eqb l) (suc k) (sections_of (slice_set cs k t)) ≡ sections_from (eqb l) k (sections_of cs)
unfolding sections_of
section_done l [] k s t e h = cc
section_done l (c ∷ cs) zero s t e h = let g : s ≡ c = cc in section_drops l s t (sections_of cs) h ∙
    ap (λ z. dropped_sections (eqb l) (first (section_tree z) (sections_of cs))) g
section_done l (c ∷ cs) (suc k) s t e h =
    let z = section_tree c in
    ap (λ r. P.Section z.cases z.default z.list z.ends r) (section_done l cs k s t e h)

pub sections_done : (d : ℕ → Bool) (cs : List Section) (k : ℕ) → length cs ≤ k → sections_from d k (sections_of cs) ≡ sections_of cs
unfolding sections_of
sections_done d [] zero h = refl
sections_done d [] (suc k) h = refl
sections_done d (c ∷ cs) zero h = absurd (omega arith)
sections_done d (c ∷ cs) (suc k) h =
    let g : length cs ≤ k = omega arith in
    let z = section_tree c in
    ap (λ r. P.Section z.cases z.default z.list z.ends r) (sections_done d cs k g)

-- ---- how many items there are, at any depth

abbrev pub items : Forest → ℕ
items xs = total (λ x. 1) xs

abbrev pub items_of : Tree → ℕ
items_of x = total_of (λ x. 1) x

abbrev pub items_in : Sections → ℕ
items_in c = total_in (λ x. 1) c

pub of_if : (x : Item) (t : Test) (a b : List Item) → x ≡ If t a b → items_of (tree_of x) ≡ 1 + items (trees_of a) + items (trees_of b)
of_if x t a b e = ap items_of (ap tree_of e ∙ tree-If t a b)

pub of_while : (x : Item) (t : Test) (a : List Item) → x ≡ While t a → items_of (tree_of x) ≡ 1 + items (trees_of a)
of_while x t a e = ap items_of (ap tree_of e ∙ tree-While t a)

pub of_do : (x : Item) (t : Test) (a : List Item) → x ≡ Do a t → items_of (tree_of x) ≡ 1 + items (trees_of a)
of_do x t a e = ap items_of (ap tree_of e ∙ tree-Do a t)

pub of_for : (x : Item) (a : List Item) (t u : Option Expression) (b : List Item) → x ≡ For a t u b →
    items_of (tree_of x) ≡ 1 + items (trees_of a) + items (trees_of b)
of_for x a t u b e = ap items_of (ap tree_of e ∙ tree-For a t u b)

pub of_switch : (x : Item) (s : Selector) (c : List Section) → x ≡ Switch s c → items_of (tree_of x) ≡ 1 + items_in (sections_of c)
of_switch x s c e = ap items_of (ap tree_of e ∙ tree-Switch s c)

pub of_block : (x : Item) (a : List Item) → x ≡ Block a → items_of (tree_of x) ≡ 1 + items (trees_of a)
of_block x a e = ap items_of (ap tree_of e ∙ tree-Block a)

item_and_rest : (xs : List Item) (i : ℕ) (x : Item) → slice_get xs i ≡ Some x →
    items (trees_of (drop i xs)) ≡ items_of (tree_of x) + items (trees_of (drop (suc i) xs))
unfolding trees_of
item_and_rest [] i x e = cc
item_and_rest (z ∷ zs) zero x e = let g : x ≡ z = cc in ap (λ w. items_of (tree_of w) + items (trees_of zs)) (sym g)
item_and_rest (z ∷ zs) (suc i) x e = item_and_rest zs i x e

section_and_rest : (cs : List Section) (k : ℕ) (s : Section) → slice_get cs k ≡ Some s →
    items_in (sections_of (drop k cs)) ≡ items (trees_of (list_of s)) + items_in (sections_of (drop (suc k) cs))
unfolding sections_of
section_and_rest [] k s e = cc
section_and_rest (z ∷ zs) zero s e =
    let g : s ≡ z = cc in
    ap (λ (w : SectionTree). items w.list + items_in (sections_of zs)) (section-parts z) ∙
    ap (λ w. items (trees_of (list_of w)) + items_in (sections_of zs)) (sym g)
section_and_rest (z ∷ zs) (suc k) s e = section_and_rest zs k s e

after_set : {A : Type 0} (xs : List A) (i : ℕ) (y : A) → drop (suc i) (slice_set xs i y) ≡ drop (suc i) xs
after_set [] i y = refl
after_set (x ∷ xs) zero y = refl
after_set (x ∷ xs) (suc i) y = after_set xs i y

after_remove : {A : Type 0} (xs : List A) (i : ℕ) (x : A) → slice_get xs i ≡ Some x → drop i (remove xs i) ≡ drop (suc i) xs
after_remove [] i x e = cc
after_remove (z ∷ zs) zero x e = refl
after_remove (z ∷ zs) (suc i) x e = after_remove zs i x e

-- ---- how far a list or sections have come

pub record IsDroppedTo (l i : ℕ) (old new : List Item) : Type 0 where
  pub dropped : dropped_from (eqb l) i (trees_of new) ≡ dropped (eqb l) (trees_of old)
  pub left : items (trees_of (drop i new)) ≤ items (trees_of old)

pub item_gone : (l i : ℕ) (old new other : List Item) (x : Item) → slice_get new i ≡ Some x → goes l x ≡ true → other ≡ remove new i →
    IsDroppedTo l i old new → IsDroppedTo l i old other
item_gone l i old new other x e h f d =
    let n = item_and_rest new i x e in
    let m = ap (λ z. items (trees_of (drop i z))) f ∙ ap (λ z. items (trees_of z)) (after_remove new i x e) in
    record { dropped = one_goes l new other i x e h f ∙ d.dropped; left = omega (arith, n, m, d.left) }

pub item_kept : (l i : ℕ) (old new : List Item) (x y : Item) → slice_get new i ≡ Some x → one (tree_of y) ≡ dropped_item (eqb l) (tree_of x) →
    IsDroppedTo l i old new → IsDroppedTo l (suc i) old (slice_set new i y)
item_kept l i old new x y e h d =
    let n = item_and_rest new i x e in
    let m = ap (λ z. items (trees_of z)) (after_set new i y) in
    record { dropped = one_stays l new i x y e h ∙ d.dropped; left = omega (arith, n, m, d.left) }

pub list_done : (l i : ℕ) (old new : List Item) → length new ≤ i → IsDroppedTo l i old new → trees_of new ≡ dropped (eqb l) (trees_of old)
list_done l i old new h d = sym (all_done (eqb l) new i h) ∙ d.dropped

pub item_within : (l i : ℕ) (old new : List Item) (x : Item) → slice_get new i ≡ Some x → IsDroppedTo l i old new → items_of (tree_of x) ≤ items (trees_of old)
item_within l i old new x e d = let n = item_and_rest new i x e in omega (arith, n, d.left)

pub record AreDroppedTo (l k : ℕ) (old new : List Section) : Type 0 where
  pub dropped : sections_from (eqb l) k (sections_of new) ≡ dropped_sections (eqb l) (sections_of old)
  pub left : items_in (sections_of (drop k new)) ≤ items_in (sections_of old)

pub section_gone : (l k : ℕ) (old new : List Section) (s t : Section) → slice_get new k ≡ Some s → IsWithoutGuard l s t → AreDroppedTo l k old new →
    AreDroppedTo l (suc k) old (slice_set new k t)
section_gone l k old new s t e h d =
    let n = section_and_rest new k s e in
    let m = ap (λ z. items_in (sections_of z)) (after_set new k t) in
    record { dropped = section_done l new k s t e h ∙ d.dropped; left = omega (arith, n, m, d.left) }

pub all_sections_done : (l k : ℕ) (old new : List Section) → length new ≤ k → AreDroppedTo l k old new →
    sections_of new ≡ dropped_sections (eqb l) (sections_of old)
all_sections_done l k old new h d = sym (sections_done (eqb l) new k h) ∙ d.dropped

pub section_within : (l k : ℕ) (old new : List Section) (s : Section) → slice_get new k ≡ Some s → AreDroppedTo l k old new →
    items (trees_of (list_of s)) ≤ items_in (sections_of old)
section_within l k old new s e d = let n = section_and_rest new k s e in omega (arith, n, d.left)

pub same_item : (xs : List Item) (i : ℕ) (x y : Item) → slice_get xs i ≡ Some x → slice_get xs i ≡ Some y → x ≡ y
same_item xs i x y e f = let g : Some x ≡ Some y = sym e ∙ f in cc
