-- The Lands of a label in an item, as they stand in its lists.
use Rattle.std.proofs.Common.{◌≡◌, ℕ, zero, suc, ◌+◌, ◌<◌, ◌≤◌, ◌↔◌, List, [], ◌∷◌, Option, Some, Bool, true, false, cond, length, take, drop, get_or, refl, sym, ap, ◌∙◌, arith}
use Rattle.std.proofs.lemmas.List.{at_drop_more, at_drop_all}
use Rattle.std.proofs.lemmas.Bool.{iff_false, false≢true, eq-eqb, eqb-true}
use Rattle.c_tree.specs.declared.tree.Item.{Item, Item-F, If, For, Leap, Land, out-Item, roll-Item, out-roll-Item, roll-out-Item}
use Rattle.c_tree.specs.declared.tree.Item.TheOpen as O
use Rattle.c_tree.specs.declared.tree.Item.TheVariants.{rolls-If, rolls-For, rolls-Leap, rolls-Land}
use Rattle.c_tree.specs.declared.tree.Section.{Section}
use Rattle.c_tree.specs.declared.tree.Test.{Test}
use Rattle.c_tree.specs.declared.tree.Expression.{Expression}
use Rattle.c_tree.specs.Paths.{list_of}
use Rattle.c_tree.specs.Trees.{SectionTree, tree_of, trees_of, sections_of}
use Rattle.c_tree.specs.Everywhere.{total_in}
use Rattle.c_tree.specs.Labels.{land_of, lands, lands_of, lands_inside}
use Rattle.c_tree.proofs.TreeLaws.{trees-none, trees-more, sections-none, sections-more, section-parts}
use Rattle.c_tree.proofs.ChangeLemmas.{layer_tree, tree-out}
use Rattle.label_offsets.specs.Marks.{leap_label_F, leap_label, is_land_F, is_land, held_F, held}

layer_held : (l : ℕ) (y : Item-F Item Section) → lands_inside l (layer_tree y) ≡ held_F l y
unfolding trees_of sections_of
layer_held l (O.If t a b) = omega arith
layer_held l (O.While t a) = omega arith
layer_held l (O.Do a t) = omega arith
layer_held l (O.For f t u a) = omega arith
layer_held l (O.Switch s cs) = omega arith
layer_held l (O.Block a) = omega arith
layer_held l _ = refl

pub held-is : (l : ℕ) (x : Item) → lands_inside l (tree_of x) ≡ held l x
held-is l x = ap (lands_inside l) (tree-out x) ∙ layer_held l (out-Item x)

layer_parts : (l : ℕ) (y : Item-F Item Section) → lands_of l (layer_tree y) ≡ cond (is_land_F l y) 1 0 + held_F l y
unfolding trees_of sections_of
layer_parts l (O.If t a b) = omega arith
layer_parts l (O.While t a) = omega arith
layer_parts l (O.Do a t) = omega arith
layer_parts l (O.For f t u a) = omega arith
layer_parts l (O.Switch s cs) = omega arith
layer_parts l (O.Block a) = omega arith
layer_parts l (O.Land m) = omega arith
layer_parts l _ = refl

-- the Land itself, and those in the lists
pub lands-parts : (l : ℕ) (x : Item) → lands_of l (tree_of x) ≡ cond (is_land l x) 1 0 + held l x
lands-parts l x = ap (lands_of l) (tree-out x) ∙ layer_parts l (out-Item x)

pub lands-first : (l : ℕ) (x : Item) (xs : List Item) → lands l (trees_of (x ∷ xs)) ≡ cond (is_land l x) 1 0 + held l x + lands l (trees_of xs)
lands-first l x xs = ap (lands l) (trees-more x xs) ∙ ap (λ n. n + lands l (trees_of xs)) (lands-parts l x)

-- a list from one item on, and from its end on
pub lands-more : (l : ℕ) (xs : List Item) (i : ℕ) (x : Item) → i < length xs → x ≡ get_or xs i x
    → lands l (trees_of (drop i xs)) ≡ cond (is_land l x) 1 0 + held l x + lands l (trees_of (drop (i + 1) xs))
lands-more l xs i x h e =
    at_drop_more (λ z. lands l (trees_of z)) xs i x h ∙ lands-first l (get_or xs i x) (drop (i + 1) xs)
    ∙ ap (λ y. cond (is_land l y) 1 0 + held l y + lands l (trees_of (drop (i + 1) xs))) (sym e)

pub lands-all : (l : ℕ) (xs : List Item) (i : ℕ) → length xs ≤ i → lands l (trees_of (drop i xs)) ≡ 0
lands-all l xs i h = at_drop_all (λ z. lands l (trees_of z)) xs i h ∙ ap (lands l) trees-none

-- the first items of a list, and those behind them
pub lands-cut : (l n : ℕ) (xs : List Item) → lands l (trees_of (take n xs)) + lands l (trees_of (drop n xs)) ≡ lands l (trees_of xs)
lands-cut l zero xs = let z = ap (lands l) trees-none in omega (arith, z)
lands-cut l (suc n) [] = let z = ap (lands l) trees-none in omega (arith, z)
lands-cut l (suc n) (x ∷ xs) = omega (arith, lands-first l x (take n xs), lands-first l x xs, lands-cut l n xs)

pub section_lands-first : (l : ℕ) (c : Section) (cs : List Section)
    → total_in (land_of l) (sections_of (c ∷ cs)) ≡ lands l (trees_of (list_of c)) + total_in (land_of l) (sections_of cs)
section_lands-first l c cs =
    ap (total_in (land_of l)) (sections-more c cs) ∙ ap (λ (z : SectionTree). lands l z.list + total_in (land_of l) (sections_of cs)) (section-parts c)

pub section_lands-more : (l : ℕ) (cs : List Section) (i : ℕ) (c : Section) → i < length cs → c ≡ get_or cs i c
    → total_in (land_of l) (sections_of (drop i cs)) ≡ lands l (trees_of (list_of c)) + total_in (land_of l) (sections_of (drop (i + 1) cs))
section_lands-more l cs i c h e =
    at_drop_more (λ z. total_in (land_of l) (sections_of z)) cs i c h ∙ section_lands-first l (get_or cs i c) (drop (i + 1) cs)
    ∙ ap (λ y. lands l (trees_of (list_of y)) + total_in (land_of l) (sections_of (drop (i + 1) cs))) (sym e)

pub section_lands-all : (l : ℕ) (cs : List Section) (i : ℕ) → length cs ≤ i → total_in (land_of l) (sections_of (drop i cs)) ≡ 0
section_lands-all l cs i h = at_drop_all (λ z. total_in (land_of l) (sections_of z)) cs i h ∙ ap (total_in (land_of l)) sections-none

-- what was found in two parts

zero_unless : (n : ℕ) → (0 < n → ⊥) → n ≡ 0
zero_unless zero h = refl
zero_unless (suc n) h = absurd (h (omega arith))

pub none_found : {b : Bool} {n : ℕ} → ((b ≡ true) ↔ (0 < n)) → b ≡ false → n ≡ 0
none_found {b} {n} h e = zero_unless n (iff_false h e)

pub found_later : (b : Bool) (n m k : ℕ) → k ≡ n + m → n ≡ 0 → ((b ≡ true) ↔ (0 < m)) → ((b ≡ true) ↔ (0 < k))
found_later b n m k e z h = (λ t. let p = h.0 t in omega arith, λ p. h.1 (omega arith))

pub found_here : (n k : ℕ) → n ≤ k → 0 < n → ((true ≡ true) ↔ (0 < k))
found_here n k e p = (λ t. omega arith, λ q. refl)

pub found_nowhere : (k : ℕ) → k ≡ 0 → ((false ≡ true) ↔ (0 < k))
found_nowhere k e = (λ t. absurd (false≢true t), λ q. absurd (omega arith))

pub is_land-some : (l : ℕ) (x : Item) → is_land l x ≡ true → cond {A = ℕ} (is_land l x) 1 0 ≡ 1
is_land-some l x e = ap (λ b. cond {A = ℕ} b 1 0) e

pub is_land-none : (l : ℕ) (x : Item) → is_land l x ≡ false → cond {A = ℕ} (is_land l x) 1 0 ≡ 0
is_land-none l x e = ap (λ b. cond {A = ℕ} b 1 0) e

pub held-If : (l : ℕ) (t : Test) (a b : List Item) → held l (If t a b) ≡ lands l (trees_of a) + lands l (trees_of b)
held-If l t a b = ap (held l) (sym (rolls-If t a b)) ∙ ap (held_F l) (out-roll-Item (O.If t a b))

pub held-For : (l : ℕ) (f : List Item) (t u : Option Expression) (a : List Item) → held l (For f t u a) ≡ lands l (trees_of f) + lands l (trees_of a)
held-For l f t u a = ap (held l) (sym (rolls-For f t u a)) ∙ ap (held_F l) (out-roll-Item (O.For f t u a))

-- Leaps and Lands by their labels

pub leap_label-Leap : (l : ℕ) → leap_label (Leap l) ≡ Some l
leap_label-Leap l = ap leap_label (sym (rolls-Leap l)) ∙ ap leap_label_F (out-roll-Item (O.Leap l))

pub is_land-Land : (l : ℕ) → is_land l (Land l) ≡ true
is_land-Land l = ap (is_land l) (sym (rolls-Land l)) ∙ ap (is_land_F l) (out-roll-Item (O.Land l)) ∙ eq-eqb l l refl

pub is_land-Leap : (l m : ℕ) → is_land l (Leap m) ≡ false
is_land-Leap l m = ap (is_land l) (sym (rolls-Leap m)) ∙ ap (is_land_F l) (out-roll-Item (O.Leap m))

layer_leap : (l : ℕ) (y : Item-F Item Section) → leap_label_F y ≡ Some l → y ≡ O.Leap l
layer_leap l (O.Leap m) e = let h : m ≡ l = cc in ap (λ (n : ℕ). O.Leap n) h
layer_leap l _ e = cc

pub leap-is : (l : ℕ) (x : Item) → leap_label x ≡ Some l → x ≡ Leap l
leap-is l x e = sym (roll-out-Item x) ∙ ap roll-Item (layer_leap l (out-Item x) e) ∙ rolls-Leap l

layer_land : (l : ℕ) (y : Item-F Item Section) → is_land_F l y ≡ true → y ≡ O.Land l
layer_land l (O.Land m) e = ap (λ (n : ℕ). O.Land n) (eqb-true m l e)
layer_land l _ e = cc

pub land-is : (l : ℕ) (x : Item) → is_land l x ≡ true → x ≡ Land l
land-is l x e = sym (roll-out-Item x) ∙ ap roll-Item (layer_land l (out-Item x) e) ∙ rolls-Land l
