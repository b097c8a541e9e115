-- The Land that a search finds, and what it says where it finds none.
use Rattle.std.proofs.Common.{◌≡◌, ℕ, zero, suc, ◌+◌, ◌-◌, ◌<◌, ◌≤◌, List, [], ◌∷◌, Option, Some, None, length, take, drop, get_or, refl, sym, ap, subst, ◌∙◌, arith}
use Rattle.std.specs.Prelude.{IfSome, IfNone}
use Rattle.std.proofs.lemmas.List.{at_drop_more}
use Rattle.std.proofs.lemmas.Option.{MatchOption-at_some, MatchOption-at_none, slice_get_read}
use Rattle.c_tree.specs.declared.tree.Item.{Item, Item-F, out-Item}
use Rattle.c_tree.specs.declared.tree.Item.TheOpen as O
use Rattle.c_tree.specs.declared.tree.Section.{Section}
use Rattle.c_tree.specs.declared.tree.Path.{Path}
use Rattle.c_tree.specs.Trees.{Tree, tree_of, trees_of}
use Rattle.c_tree.specs.Everywhere.{Everywhere, EverywhereOf}
use Rattle.c_tree.specs.Labels.{lands, lands_of}
use Rattle.c_tree.specs.WellMade.{IsPlainFor}
use Rattle.c_tree.proofs.TreeLaws.{trees-none, trees-more}
use Rattle.label_offsets.specs.declared.first.Sought.TheVariants as S
use Rattle.label_offsets.specs.Leaps.{is_sought_F, paths_of, first}
use Rattle.label_offsets.specs.Marks.{is_land_F}
use Rattle.label_offsets.specs.Standing.{IsPlaceOf, HasNoLandAt}
use Rattle.label_offsets.proofs.FirstFound.{IsFoundIn, HasNone, item_found}
use Rattle.label_offsets.proofs.HeldLaws.{land-is, lands-parts, lands-more, lands-all, lands-cut}

-- what holds everywhere holds of each item

pub everywhere_more : (P : Tree → Type 0) (xs : List Item) (i : ℕ) (x : Item) → i < length xs → x ≡ get_or xs i x
    → Everywhere P (trees_of (drop i xs)) → EverywhereOf P (tree_of x) × Everywhere P (trees_of (drop (i + 1) xs))
everywhere_more P xs i x h e q =
    subst (λ z. EverywhereOf P (tree_of z) × Everywhere P (trees_of (drop (i + 1) xs))) (sym e)
    (subst (Everywhere P) (at_drop_more trees_of xs i x h ∙ trees-more (get_or xs i x) (drop (i + 1) xs)) q)

pub everywhere_drop : (P : Tree → Type 0) (xs : List Item) (i : ℕ) → Everywhere P (trees_of xs) → Everywhere P (trees_of (drop i xs))
everywhere_drop P xs zero q = q
everywhere_drop P [] (suc i) q = q
everywhere_drop P (x ∷ xs) (suc i) q = everywhere_drop P xs i (subst (Everywhere P) (trees-more x xs) q).1

-- what the first path in an item says of its list

land_sought : (l : ℕ) (y : Item-F Item Section) → is_sought_F (S.Land l) y ≡ is_land_F l y
land_sought l (O.Land m) = refl
land_sought l _ = refl

pub place_found : (l : ℕ) (xs : List Item) (k : ℕ) (x : Item) (r : Option Path) → k < length xs → x ≡ get_or xs k x → r ≡ first (paths_of (S.Land l) x k)
    → IfSome r (λ p. IsPlaceOf l xs p)
place_found l xs k x None h e r = tt
place_found l xs k x (Some p) h e r =
    let f = MatchOption-at_some (HasNone (S.Land l) (tree_of x)) (IsFoundIn (S.Land l) x k) p (sym r) (item_found (S.Land l) x k) in
    let g = f.0 xs (slice_get_read xs (length xs) k x refl h e) in
    g.there ∙ ap Some (land-is l g.item (sym (land_sought l (out-Item g.item)) ∙ g.sought))

pub no_place : (l : ℕ) (xs : List Item) (k : ℕ) (x : Item) (r : Option Path) → k < length xs → x ≡ get_or xs k x → r ≡ first (paths_of (S.Land l) x k)
    → IfNone r (HasNoLandAt l xs k)
no_place l xs k x (Some p) h e r = tt
no_place l xs k x None h e r = λ p.
    let none = MatchOption-at_none (HasNone (S.Land l) (tree_of x)) (IsFoundIn (S.Land l) x k) (sym r) (item_found (S.Land l) x k) in
    let m = everywhere_more IsPlainFor xs k x h e (everywhere_drop IsPlainFor xs k p) in
    let z : lands_of l (tree_of x) ≡ 0 = none m.0 in
    omega (arith, lands-more l xs k x h e, lands-parts l x, z)

-- the items up to its place have as many Lands as without it
pub none_before : (l : ℕ) (xs : List Item) (end : ℕ) (r : Option Path) → 0 < end → IfNone r (HasNoLandAt l xs (end - 1))
    → IfNone r (Everywhere IsPlainFor (trees_of xs) → lands l (trees_of (take end xs)) ≡ lands l (trees_of (take (end - 1) xs)))
none_before l xs end None h none = λ p.
    let same : end - 1 + 1 ≡ end = omega (arith, h) in
    let cut = subst (λ k. lands l (trees_of (take k xs)) + lands l (trees_of (drop k xs)) ≡ lands l (trees_of xs)) same (lands-cut l (end - 1 + 1) xs) in
    let without = subst (λ k. lands l (trees_of (drop (end - 1) xs)) ≡ lands l (trees_of (drop k xs))) same (none p) in
    omega (arith, cut, without, lands-cut l (end - 1) xs)
none_before l xs end (Some p) h none = tt

-- the items around a place, so many to each side, have none

pub around_none : (l m : ℕ) (xs : List Item) → lands l (trees_of xs) ≡ lands l (trees_of (take (m - 0) xs)) + lands l (trees_of (drop (m + 0) xs))
around_none l m xs =
    let left : m ≡ m - 0 = omega arith in
    let right : m ≡ m + 0 = omega arith in
    subst (λ n. lands l (trees_of xs) ≡ lands l (trees_of (take (m - 0) xs)) + lands l (trees_of (drop n xs))) right
    (subst (λ n. lands l (trees_of xs) ≡ lands l (trees_of (take n xs)) + lands l (trees_of (drop m xs))) left (sym (lands-cut l m xs)))

pub around_more : (l m n : ℕ) (xs : List Item) → lands l (trees_of xs) ≡ lands l (trees_of (take (m - n) xs)) + lands l (trees_of (drop (m + n) xs))
    → lands l (trees_of (drop (m + n) xs)) ≡ lands l (trees_of (drop (m + n + 1) xs)) →
    lands l (trees_of (take (m - n) xs)) ≡ lands l (trees_of (take (m - n - 1) xs))
    → lands l (trees_of xs) ≡ lands l (trees_of (take (m - (n + 1)) xs)) + lands l (trees_of (drop (m + (n + 1)) xs))
around_more l m n xs e right left =
    let fewer : m - n - 1 ≡ m - (n + 1) = omega arith in
    let more : m + n + 1 ≡ m + (n + 1) = omega arith in
    let f = ap (λ k. lands l (trees_of (take k xs))) fewer in
    let g = ap (λ k. lands l (trees_of (drop k xs))) more in
    omega (arith, e, right, left, f, g)

pub around_all : (l m n : ℕ) (xs : List Item) → m ≤ length xs → length xs ≤ n →
    lands l (trees_of xs) ≡ lands l (trees_of (take (m - n) xs)) + lands l (trees_of (drop (m + n) xs)) → lands l (trees_of xs) ≡ 0
around_all l m n xs h k e =
    let nothing : m - n ≡ 0 = omega (arith, h, k) in
    let left = ap (λ i. lands l (trees_of (take i xs))) nothing ∙ ap (lands l) trees-none in
    omega (arith, e, left, lands-all l xs (m + n) (omega (arith, k)))
