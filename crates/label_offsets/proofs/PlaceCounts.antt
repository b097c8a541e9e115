-- The Lands of a label in a body, against those in one of its lists and the one at a path.
use Rattle.std.proofs.Common.{◌≡◌, ◌≢◌, ℕ, zero, suc, ◌+◌, ◌<◌, ◌≤◌, List, [], ◌∷◌, Some, cond, slice_get, refl, ap, arith}
use Rattle.c_tree.specs.declared.tree.Item.{Item, Item-F, Land, out-Item}
use Rattle.c_tree.specs.declared.tree.Item.TheOpen as O
use Rattle.c_tree.specs.declared.tree.Section.{Section}
use Rattle.c_tree.specs.declared.tree.Branch.{Branch}
use Rattle.c_tree.specs.declared.tree.Branch.TheVariants as B
use Rattle.c_tree.specs.declared.tree.Step.{Step}
use Rattle.c_tree.specs.Paths.{list_of, child_F, child, list_at, item_at}
use Rattle.c_tree.specs.Trees.{tree_of, trees_of, sections_of}
use Rattle.c_tree.specs.Everywhere.{total_in}
use Rattle.c_tree.specs.Labels.{land_of, lands, lands_inside}
use Rattle.c_tree.proofs.PathLemmas.{and_then_some, map_some, stepped}
use Rattle.label_offsets.specs.Marks.{is_land, held_F, held}
use Rattle.label_offsets.proofs.HeldLaws.{held-is, lands-first, section_lands-first, is_land-Land}

-- those of an item, which may be the Land itself
abbrev pub counted : ℕ → Item → ℕ
counted l x = cond (is_land l x) 1 0 + held l x

pub counted-Land : (l : ℕ) → 0 < counted l (Land l)
counted-Land l = let e : cond {A = ℕ} (is_land l (Land l)) 1 0 ≡ 1 = ap (λ b. cond {A = ℕ} b 1 0) (is_land-Land l) in omega (arith, e)

pub section_lands : (l : ℕ) (cs : List Section) (k : ℕ) (c : Section) → slice_get cs k ≡ Some c →
    lands l (trees_of (list_of c)) ≤ total_in (land_of l) (sections_of cs)
section_lands l [] k c e = cc
section_lands l (x ∷ cs) zero c e =
    let h : x ≡ c = cc in
    let g : lands l (trees_of (list_of x)) ≡ lands l (trees_of (list_of c)) = ap (λ z. lands l (trees_of (list_of z))) h in
    omega (arith, g, section_lands-first l x cs)
section_lands l (x ∷ cs) (suc k) c e = omega (arith, section_lands-first l x cs, section_lands l cs k c e)

layer_lands : (l : ℕ) (b : Branch) (y : Item-F Item Section) (a : List Item) → child_F b y ≡ Some a → lands l (trees_of a) ≤ held_F l y
layer_lands l B.Body (O.While t x) a e = let h : x ≡ a = cc in let g : lands l (trees_of x) ≡ lands l (trees_of a) =
    ap (λ z. lands l (trees_of z)) h in omega (arith, g)
layer_lands l B.Body (O.Do x t) a e = let h : x ≡ a = cc in let g : lands l (trees_of x) ≡ lands l (trees_of a) = ap (λ z. lands l (trees_of z)) h in
    omega (arith, g)
layer_lands l B.Body (O.For f t u x) a e = let h : x ≡ a = cc in let g : lands l (trees_of x) ≡ lands l (trees_of a) =
    ap (λ z. lands l (trees_of z)) h in omega (arith, g)
layer_lands l B.Body (O.Block x) a e = let h : x ≡ a = cc in let g : lands l (trees_of x) ≡ lands l (trees_of a) = ap (λ z. lands l (trees_of z)) h in
    omega (arith, g)
layer_lands l B.Then (O.If t x z) a e = let h : x ≡ a = cc in let g : lands l (trees_of x) ≡ lands l (trees_of a) =
    ap (λ z. lands l (trees_of z)) h in omega (arith, g)
layer_lands l B.Else (O.If t x z) a e = let h : z ≡ a = cc in let g : lands l (trees_of z) ≡ lands l (trees_of a) =
    ap (λ z. lands l (trees_of z)) h in omega (arith, g)
layer_lands l (B.Section k) (O.Switch s cs) a e =
    let t = map_some list_of (slice_get cs k) a e in
    let g : lands l (trees_of (list_of t.0)) ≡ lands l (trees_of a) = ap (λ z. lands l (trees_of z)) t.2 in
    omega (arith, g, section_lands l cs k t.0 t.1)
layer_lands l _ _ a e = cc

-- the list at a branch of an item
pub child_lands : (l : ℕ) (b : Branch) (x : Item) (a : List Item) → child b x ≡ Some a → lands l (trees_of a) ≤ held l x
child_lands l b x a e = layer_lands l b (out-Item x) a e

-- an item of a list
pub item_lands : (l : ℕ) (xs : List Item) (i : ℕ) (x : Item) → slice_get xs i ≡ Some x → counted l x ≤ lands l (trees_of xs)
item_lands l [] i x e = cc
item_lands l (z ∷ zs) zero x e =
    let h : z ≡ x = cc in
    let g : counted l z ≡ counted l x = ap (counted l) h in
    omega (arith, g, lands-first l z zs)
item_lands l (z ∷ zs) (suc i) x e = omega (arith, lands-first l z zs, item_lands l zs i x e)

-- two items of a list
pub two_lands : (l : ℕ) (xs : List Item) (i j : ℕ) (x y : Item) → i ≢ j → slice_get xs i ≡ Some x → slice_get xs j ≡ Some y →
    counted l x + counted l y ≤ lands l (trees_of xs)
two_lands l [] i j x y n e f = cc
two_lands l (z ∷ zs) zero zero x y n e f = absurd (n refl)
two_lands l (z ∷ zs) zero (suc j) x y n e f =
    let h : z ≡ x = cc in
    let g : counted l z ≡ counted l x = ap (counted l) h in
    omega (arith, g, lands-first l z zs, item_lands l zs j y f)
two_lands l (z ∷ zs) (suc i) zero x y n e f =
    let h : z ≡ y = cc in
    let g : counted l z ≡ counted l y = ap (counted l) h in
    omega (arith, g, lands-first l z zs, item_lands l zs i x e)
two_lands l (z ∷ zs) (suc i) (suc j) x y n e f = omega (arith, lands-first l z zs, two_lands l zs i j x y (λ h. n (ap suc h)) e f)

-- a list of a body
pub list_lands : (l : ℕ) (xs : List Item) (ss : List Step) (a : List Item) → list_at xs ss ≡ Some a → lands l (trees_of a) ≤ lands l (trees_of xs)
list_lands l xs [] a e = let h : xs ≡ a = cc in let g : lands l (trees_of xs) ≡ lands l (trees_of a) = ap (λ z. lands l (trees_of z)) h in omega (arith, g)
list_lands l xs (s ∷ ss) a e =
    let t = stepped xs s ss a e in
    omega (arith, list_lands l t.inner ss a t.rest, child_lands l s.branch t.item t.inner t.inner_is, item_lands l xs s.item t.item t.item_is)

-- the Land at a path that goes into an item
pub record Held (l : ℕ) (xs : List Item) (s : Step) : Type 0 where
  pub item : Item
  pub list : List Item
  pub item_is : slice_get xs s.item ≡ Some item
  pub list_is : child s.branch item ≡ Some list
  pub in_list : 0 < lands l (trees_of list)
  pub inside : 0 < lands_inside l (tree_of item)

pub land_inside : (l : ℕ) (xs : List Item) (s : Step) (ss : List Step) (i : ℕ) → item_at xs (s ∷ ss) i ≡ Some (Land l) → Held l xs s
land_inside l xs s ss i e =
    let p = and_then_some (λ a. slice_get a i) (list_at xs (s ∷ ss)) (Land l) e in
    let t = stepped xs s ss p.0 p.1 in
    let some : 0 < lands l (trees_of t.inner) = omega (arith, list_lands l t.inner ss p.0 t.rest, item_lands l p.0 i (Land l) p.2, counted-Land l) in
    record {
      item = t.item;
      list = t.inner;
      item_is = t.item_is;
      list_is = t.inner_is;
      in_list = some;
      inside = omega (arith, some, child_lands l s.branch t.item t.inner t.inner_is, held-is l t.item);
    }
