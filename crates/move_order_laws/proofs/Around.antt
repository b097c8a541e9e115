-- Nesting round a list of a body: it sees the list by its number alone, and grows with it.
use Rattle.std.proofs.Common.{◌≡◌, ℕ, zero, suc, ◌+◌, ◌≤◌, List, [], ◌∷◌, ◌++◌, Some, take, drop, slice_get, slice_set, refl, sym, ap, ap₂, subst, ◌∙◌, arith}
use Rattle.std.specs.Prelude.{max}
use Rattle.std.specs.Option.{option_map_or}
use Rattle.std.proofs.lemmas.List.{take-set}
use Rattle.c_tree.specs.declared.tree.Item.{Item, Item-F, out-Item, out-roll-Item}
use Rattle.c_tree.specs.declared.tree.Item.TheOpen as O
use Rattle.c_tree.specs.declared.tree.Section.{Section}
use Rattle.c_tree.specs.declared.tree.Branch.{Branch}
use Rattle.c_tree.specs.declared.tree.Branch.TheVariants as B
use Rattle.c_tree.specs.declared.tree.Step.{Step}
use Rattle.c_tree.specs.Paths.{list_of, with_list, child_F, child, with_child_F, with_child, list_at, put_at}
use Rattle.c_tree.specs.Trees.{Sections as SectionsOf, NoSection, Section as SectionOf, Forest, Nil, Then, SectionTree, join, tree_of, trees_of, section_tree, sections_of}
use Rattle.c_tree.specs.Changed.{one}
use Rattle.c_tree.proofs.PathLemmas.{map_some, get_set, child_with, with_there, stepped, put_step}
use Rattle.c_tree.proofs.TreeLaws.{sections-none, sections-more, section-parts}
use Rattle.c_tree.proofs.ChangeLemmas.{layer_tree, tree-out, trees-split}
use Rattle.move_order_laws.specs.Nesting.{nesting, nesting_of, nesting_in, later, later_in, beside_F, beside, around_element, around}

-- lists on end

pub nesting_some : (xs : Forest) → 1 ≤ nesting xs
nesting_some Nil = omega arith
nesting_some (Then x xs) = omega arith

pub nesting-join : (a b : Forest) → nesting (join a b) ≡ max (nesting a) (nesting b)
nesting-join Nil b = let h = nesting_some b in omega arith
nesting-join (Then x a) b = let h = nesting-join a b in omega arith

pub later_more : (xs : Forest) → nesting xs ≤ later xs
later_more Nil = omega arith
later_more (Then x xs) = omega arith

pub later_most : (xs : Forest) → later xs ≤ nesting xs + 1
later_most Nil = omega arith
later_most (Then x xs) = omega arith

pub nesting-split : (xs : List Item) (i : ℕ) (x : Item) → slice_get xs i ≡ Some x
    → nesting (trees_of xs) ≡ max (nesting (trees_of (take i xs))) (max (1 + nesting_of (tree_of x)) (nesting (trees_of (drop (i + 1) xs))))
nesting-split xs i x e =
    let a = ap nesting (trees-split xs i x e) in
    let b = nesting-join (trees_of (take i xs)) (join (one (tree_of x)) (trees_of (drop (suc i) xs))) in
    let c = nesting_some (trees_of (take i xs)) in
    let e : suc i ≡ i + 1 = omega arith in
    let d = ap (λ n. nesting (trees_of (drop n xs))) e in
    omega (arith, a, b, c, d)

-- a list but for one place

pub drop_set : {A : Type 0} (xs : List A) (i : ℕ) (x : A) → drop (suc i) (slice_set xs i x) ≡ drop (suc i) xs
drop_set [] i x = refl
drop_set (y ∷ ys) zero x = refl
drop_set (y ∷ ys) (suc i) x = drop_set ys i x

pub drop_set_one : {A : Type 0} (xs : List A) (i : ℕ) (x : A) → drop (i + 1) (slice_set xs i x) ≡ drop (i + 1) xs
drop_set_one xs i x = let e : i + 1 ≡ suc i = omega arith in ap (λ n. drop n (slice_set xs i x)) e ∙ drop_set xs i x ∙ ap (λ n. drop n xs) (sym e)

-- the item round a list

layer_beside_with : (b : Branch) (n : ℕ) (y : Item-F Item Section) (w a : List Item) → child_F b y ≡ Some a → beside_F b n (with_child_F b w y) ≡ beside_F b n y
layer_beside_with B.Then n (O.If t x z) w a e = refl
layer_beside_with B.Else n (O.If t x z) w a e = refl
layer_beside_with B.Body n y w a e = refl
layer_beside_with (B.Section k) n (O.Switch s cs) w a e =
    let t = map_some list_of (slice_get cs k) a e in
    let made = with_list w t.0 in
    ap (λ (l : List Section). max (nesting_in (sections_of (take k l))) (max n (later_in (sections_of (drop (k + 1) l))))) (with_there k w cs t.0 t.1)
    ∙ ap₂ (λ (l m : List Section). max (nesting_in (sections_of l)) (max n (later_in (sections_of m)))) (take-set cs k made) (drop_set_one cs k made)
layer_beside_with _ n _ w a e = cc

pub beside_with : (b : Branch) (n : ℕ) (x : Item) (w a : List Item) → child b x ≡ Some a → beside b n (with_child b w x) ≡ beside b n x
beside_with b n x w a e = ap (beside_F b n) (out-roll-Item (with_child_F b w (out-Item x))) ∙ layer_beside_with b n (out-Item x) w a e

layer_beside_more : (b : Branch) (n m c : ℕ) (y : Item-F Item Section) → n ≤ m + c → beside_F b n y ≤ beside_F b m y + c
layer_beside_more B.Then n m c (O.If t x z) h = omega arith
layer_beside_more B.Else n m c (O.If t x z) h = omega arith
layer_beside_more (B.Section k) n m c (O.Switch s cs) h = omega arith
layer_beside_more _ n m c _ h = h

pub beside_more : (b : Branch) (n m c : ℕ) (x : Item) → n ≤ m + c → beside b n x ≤ beside b m x + c
beside_more b n m c x h = layer_beside_more b n m c (out-Item x) h

-- sections

pub section_nesting-first : (c : Section) (cs : List Section) → nesting_in (sections_of (c ∷ cs)) ≡ max (nesting (trees_of (list_of c)))
    (nesting_in (sections_of cs))
section_nesting-first c cs = ap nesting_in (sections-more c cs) ∙ ap (λ (z : SectionTree). max (nesting z.list) (nesting_in (sections_of cs))) (section-parts c)

pub later_in-more : (cs : List Section) → nesting_in (sections_of cs) ≤ later_in (sections_of cs)
unfolding sections_of
later_in-more [] = omega arith
later_in-more (c ∷ cs) = let h = later_in-more cs in let k = later_more (section_tree c).list in omega arith

pub later_in-most : (cs : List Section) → later_in (sections_of cs) ≤ nesting_in (sections_of cs) + 1
unfolding sections_of
later_in-most [] = omega arith
later_in-most (c ∷ cs) = let h = later_in-most cs in let k = later_most (section_tree c).list in omega arith

pub nesting_in_some : (c : SectionsOf) → 1 ≤ nesting_in c
nesting_in_some NoSection = omega arith
nesting_in_some (SectionOf cases default a ends c) = let h = nesting_some a in omega (arith, h)

nesting_in-cut : (cs : List Section) (k : ℕ) (c : Section) → slice_get cs k ≡ Some c
    → nesting_in (sections_of cs) ≡ max (nesting_in (sections_of (take k cs)))
    (max (nesting (trees_of (list_of c))) (nesting_in (sections_of (drop (suc k) cs))))
nesting_in-cut [] k c e = cc
nesting_in-cut (x ∷ cs) zero c e =
    let h : x ≡ c = cc in
    let a = section_nesting-first x cs in
    let b = ap (λ (z : Section). nesting (trees_of (list_of z))) h in
    let n = ap nesting_in sections-none in
    let s = nesting_some (trees_of (list_of c)) in
    omega (arith, a, b, n, s)
nesting_in-cut (x ∷ cs) (suc k) c e =
    let h = nesting_in-cut cs k c e in
    let a = section_nesting-first x cs in
    let b = section_nesting-first x (take k cs) in
    omega (arith, h, a, b)

nesting_in-split : (cs : List Section) (k : ℕ) (c : Section) → slice_get cs k ≡ Some c
    → nesting_in (sections_of cs) ≡ max (nesting_in (sections_of (take k cs)))
    (max (nesting (trees_of (list_of c))) (nesting_in (sections_of (drop (k + 1) cs))))
nesting_in-split cs k c e =
    let s : suc k ≡ k + 1 = omega arith in
    nesting_in-cut cs k c e ∙ ap (λ n. max (nesting_in (sections_of (take k cs)))
    (max (nesting (trees_of (list_of c))) (nesting_in (sections_of (drop n cs))))) s

-- from the list of the Leap to the item

layer_nesting_beside : (b : Branch) (y : Item-F Item Section) (a : List Item) → child_F b y ≡ Some a →
    nesting_of (layer_tree y) ≤ beside_F b (nesting (trees_of a)) y
unfolding trees_of sections_of
layer_nesting_beside B.Then (O.If t x z) a e = let h : x ≡ a = cc in let g = ap (λ w. nesting (trees_of w)) h in let k = later_more (trees_of z) in
    omega (arith, g, k)
layer_nesting_beside B.Else (O.If t x z) a e = let h : z ≡ a = cc in let g = ap (λ w. nesting (trees_of w)) h in omega (arith, g)
layer_nesting_beside B.Body (O.While t x) a e = let h : x ≡ a = cc in let g = ap (λ w. nesting (trees_of w)) h in omega (arith, g)
layer_nesting_beside B.Body (O.Do x t) a e = let h : x ≡ a = cc in let g = ap (λ w. nesting (trees_of w)) h in omega (arith, g)
layer_nesting_beside B.Body (O.For f t u x) a e = let h : x ≡ a = cc in let g = ap (λ w. nesting (trees_of w)) h in omega (arith, g)
layer_nesting_beside B.Body (O.Block x) a e = let h : x ≡ a = cc in let g = ap (λ w. nesting (trees_of w)) h in omega (arith, g)
layer_nesting_beside (B.Section k) (O.Switch s cs) a e =
    let t = map_some list_of (slice_get cs k) a e in
    let g = ap (λ w. nesting (trees_of w)) t.2 in
    let h = nesting_in-split cs k t.0 t.1 in
    let m = later_in-more (drop (k + 1) cs) in
    omega (arith, g, h, m)
layer_nesting_beside _ _ a e = cc

nesting_beside : (b : Branch) (x : Item) (a : List Item) → child b x ≡ Some a → nesting_of (tree_of x) ≤ beside b (nesting (trees_of a)) x
nesting_beside b x a e = subst (λ t. nesting_of t ≤ beside b (nesting (trees_of a)) x) (sym (tree-out x)) (layer_nesting_beside b (out-Item x) a e)

layer_beside_nesting : (b : Branch) (y : Item-F Item Section) (a : List Item) → child_F b y ≡ Some a →
    beside_F b (nesting (trees_of a) + 1) y ≤ nesting_of (layer_tree y) + 1
unfolding trees_of sections_of
layer_beside_nesting B.Then (O.If t x z) a e = let h : x ≡ a = cc in let g = ap (λ w. nesting (trees_of w)) h in let k = later_most (trees_of z) in
    omega (arith, g, k)
layer_beside_nesting B.Else (O.If t x z) a e = let h : z ≡ a = cc in let g = ap (λ w. nesting (trees_of w)) h in omega (arith, g)
layer_beside_nesting B.Body (O.While t x) a e = let h : x ≡ a = cc in let g = ap (λ w. nesting (trees_of w)) h in omega (arith, g)
layer_beside_nesting B.Body (O.Do x t) a e = let h : x ≡ a = cc in let g = ap (λ w. nesting (trees_of w)) h in omega (arith, g)
layer_beside_nesting B.Body (O.For f t u x) a e = let h : x ≡ a = cc in let g = ap (λ w. nesting (trees_of w)) h in omega (arith, g)
layer_beside_nesting B.Body (O.Block x) a e = let h : x ≡ a = cc in let g = ap (λ w. nesting (trees_of w)) h in omega (arith, g)
layer_beside_nesting (B.Section k) (O.Switch s cs) a e =
    let t = map_some list_of (slice_get cs k) a e in
    let g = ap (λ w. nesting (trees_of w)) t.2 in
    let h = nesting_in-split cs k t.0 t.1 in
    let m = later_in-most (drop (k + 1) cs) in
    omega (arith, g, h, m)
layer_beside_nesting _ _ a e = cc

pub beside_nesting : (b : Branch) (x : Item) (a : List Item) → child b x ≡ Some a → beside b (nesting (trees_of a) + 1) x ≤ nesting_of (tree_of x) + 1
beside_nesting b x a e = subst (λ t. beside b (nesting (trees_of a) + 1) x ≤ nesting_of t + 1) (sym (tree-out x)) (layer_beside_nesting b (out-Item x) a e)

-- along the steps

pub around_step : (xs : List Item) (s : Step) (ss : List Step) (n : ℕ) (x : Item) (a : List Item) → slice_get xs s.item ≡ Some x → child s.branch x ≡ Some a
    → around xs (s ∷ ss) n ≡ around_element xs s.item (beside s.branch (around a ss n) x)
around_step xs s ss n x a e f =
    ap (λ o. option_map_or (λ x. around_element xs s.item (beside s.branch (option_map_or (λ a. around a ss n) (child s.branch x) n) x)) o n) e
    ∙ ap (λ o. around_element xs s.item (beside s.branch (option_map_or (λ a. around a ss n) o n) x)) f

around_element-set : (xs : List Item) (k n : ℕ) (y : Item) → around_element (slice_set xs k y) k n ≡ around_element xs k n
around_element-set xs k n y = ap₂ (λ (l m : List Item). max (nesting (trees_of l)) (max (1 + n) (later (trees_of m)))) (take-set xs k y) (drop_set_one xs k y)

pub around_put : (xs : List Item) (ss : List Step) (n : ℕ) (w a : List Item) → list_at xs ss ≡ Some a → around (put_at xs ss w) ss n ≡ around xs ss n
around_put xs [] n w a e = refl
around_put xs (s ∷ ss) n w a e =
    let t = stepped xs s ss a e in
    let inner = put_at t.inner ss w in
    let made = with_child s.branch inner t.item in
    ap (λ l. around l (s ∷ ss) n) (put_step xs s ss w t.item t.inner t.item_is t.inner_is)
    ∙ around_step (slice_set xs s.item made) s ss n made inner (get_set xs s.item t.item made t.item_is) (child_with s.branch t.item inner t.inner t.inner_is)
    ∙ around_element-set xs s.item (beside s.branch (around inner ss n) made) made
    ∙ ap (around_element xs s.item) (beside_with s.branch (around inner ss n) t.item inner t.inner t.inner_is ∙
    ap (λ m. beside s.branch m t.item) (around_put t.inner ss n w a t.rest))
    ∙ sym (around_step xs s ss n t.item t.inner t.item_is t.inner_is)

pub around-append : (xs : List Item) (ss ts : List Step) (n : ℕ) (a : List Item) → list_at xs ss ≡ Some a →
    around xs (ss ++ ts) n ≡ around xs ss (around a ts n)
around-append xs [] ts n a e = let h : xs ≡ a = cc in ap (λ l. around l ts n) h
around-append xs (s ∷ ss) ts n a e =
    let t = stepped xs s ss a e in
    around_step xs s (ss ++ ts) n t.item t.inner t.item_is t.inner_is
    ∙ ap (λ m. around_element xs s.item (beside s.branch m t.item)) (around-append t.inner ss ts n a t.rest)
    ∙ sym (around_step xs s ss (around a ts n) t.item t.inner t.item_is t.inner_is)

pub around_more : (xs : List Item) (ss : List Step) (n m c : ℕ) (a : List Item) → list_at xs ss ≡ Some a → n ≤ m + c → around xs ss n ≤ around xs ss m + c
around_more xs [] n m c a e h = h
around_more xs (s ∷ ss) n m c a e h =
    let t = stepped xs s ss a e in
    let p = around_step xs s ss n t.item t.inner t.item_is t.inner_is in
    let q = around_step xs s ss m t.item t.inner t.item_is t.inner_is in
    let r = beside_more s.branch (around t.inner ss n) (around t.inner ss m) c t.item (around_more t.inner ss n m c a t.rest h) in
    omega (arith, p, q, r)

-- the whole body, and its list at the steps
pub nesting_around : (xs : List Item) (ss : List Step) (a : List Item) → list_at xs ss ≡ Some a → nesting (trees_of xs) ≤ around xs ss (nesting (trees_of a))
nesting_around xs [] a e = let h : xs ≡ a = cc in let g = ap (λ w. nesting (trees_of w)) h in omega (arith, g)
nesting_around xs (s ∷ ss) a e =
    let t = stepped xs s ss a e in
    let n = nesting (trees_of a) in
    let p = around_step xs s ss n t.item t.inner t.item_is t.inner_is in
    let q = nesting-split xs s.item t.item t.item_is in
    let r = nesting_beside s.branch t.item t.inner t.inner_is in
    let u = beside_more s.branch (nesting (trees_of t.inner)) (around t.inner ss n) 0 t.item (let h = nesting_around t.inner ss a t.rest in omega (arith, h)) in
    let v = later_more (trees_of (drop (s.item + 1) xs)) in
    omega (arith, p, q, r, u, v)

pub around_nesting : (xs : List Item) (ss : List Step) (a : List Item) → list_at xs ss ≡ Some a →
    around xs ss (nesting (trees_of a) + 1) ≤ nesting (trees_of xs) + 1
around_nesting xs [] a e = let h : xs ≡ a = cc in let g = ap (λ w. nesting (trees_of w)) h in omega (arith, g)
around_nesting xs (s ∷ ss) a e =
    let t = stepped xs s ss a e in
    let n = nesting (trees_of a) + 1 in
    let p = around_step xs s ss n t.item t.inner t.item_is t.inner_is in
    let q = nesting-split xs s.item t.item t.item_is in
    let r = beside_nesting s.branch t.item t.inner t.inner_is in
    let u = beside_more s.branch (around t.inner ss n) (nesting (trees_of t.inner) + 1) 0 t.item
    (let h = around_nesting t.inner ss a t.rest in omega (arith, h)) in
    let v = later_most (trees_of (drop (s.item + 1) xs)) in
    omega (arith, p, q, r, u, v)
