-- How the nesting with what stands after the Leap one deeper changes in each rule.
use Rattle.std.proofs.Common.{◌≡◌, ℕ, zero, suc, ◌+◌, ◌-◌, ◌≤◌, ◌<◌, ℤ, List, [], ◌∷◌, ◌++◌, Some, length, take, drop, slice_get, slice_set, slice_range, refl, sym, ap, ap₂, ◌∙◌, arith}
use Rattle.std.specs.Prelude.{max}
use Rattle.std.specs.Option.{option_map_or}
use Rattle.std.proofs.lemmas.List.{take-append-drop, take_at, length-append, length-take-le, take-set}
use Rattle.std.proofs.lemmas.List.Folds.{drop_split}
use Rattle.std.proofs.Math.Seq.{drop-append-add}
use Rattle.std.proofs.lemmas.Option.{slice_get_within}
use Rattle.c_tree.specs.declared.tree.Item.{Item, Item-F, Do, Leap, out-Item, out-roll-Item}
use Rattle.c_tree.specs.declared.tree.Item.TheOpen as O
use Rattle.c_tree.specs.declared.tree.Section.{Section}
use Rattle.c_tree.specs.declared.tree.Test.{On}
use Rattle.c_tree.specs.declared.tree.Branch.{Branch}
use Rattle.c_tree.specs.declared.tree.Branch.TheVariants as B
use Rattle.c_tree.specs.declared.tree.Path.{Path}
use Rattle.c_tree.specs.declared.tree.Step.{Step}
use Rattle.c_tree.specs.Paths.{list_of, with_list, child_F, child, list_at, put_at}
use Rattle.c_tree.specs.Join.{guarded}
use Rattle.c_tree.specs.Lift.{lifted}
use Rattle.c_tree.specs.Outward.{HasBranch_F, HasBranch}
use Rattle.c_tree.specs.Inward.{entered_F, entered, moved_in}
use Rattle.c_tree.specs.Moves as M
use Rattle.c_tree.specs.Trees.{Tree, Forest, Nil, Then, join, tree_of, trees_of, sections_of}
use Rattle.c_tree.proofs.PathLemmas.{map_some, list_put}
use Rattle.c_tree.proofs.TreeLaws.{trees-append, trees-none, tree-Leap}
use Rattle.c_tree.proofs.MoveLemmas.{trees-three, trees-guarded}
use Rattle.move_order_laws.specs.Nesting.{nesting, nesting_of, nesting_in, later, later_in, beside_F, beside, around_element, around, at_leap, reach}
use Rattle.move_order_laws.specs.Next.{Point}
use Rattle.move_order_laws.proofs.Parts.{there_is, LiftParts, InParts, lifted_child, child-Do, lifted_list, moved_in_is, entered_child, entered_at, entered_list}
use Rattle.move_order_laws.proofs.Around.{nesting_some, nesting-join, later_more, later_most, nesting-split, beside_more, beside_nesting, around_step, around_put, around-append, around_more, nesting_around, around_nesting, drop_set_one}

pub nesting-three : (a b : List Item) (x : Item) → nesting (trees_of (a ++ x ∷ b)) ≡ max (nesting (trees_of a))
    (max (1 + nesting_of (tree_of x)) (nesting (trees_of b)))
nesting-three a b x = ap nesting (trees-three a b x) ∙ nesting-join (trees_of a) (Then (tree_of x) (trees_of b))

pub nesting-append : (a b : List Item) → nesting (trees_of (a ++ b)) ≡ max (nesting (trees_of a)) (nesting (trees_of b))
nesting-append a b = ap nesting (trees-append a b) ∙ nesting-join (trees_of a) (trees_of b)

plain_guarded : (l : ℕ) (a : Forest) → nesting (M.guarded l a) ≡ later a
plain_guarded l Nil = refl
plain_guarded l (Then x a) = omega arith

pub nesting-guarded : (l : ℕ) (a : List Item) → nesting (trees_of (guarded l a)) ≡ later (trees_of a)
nesting-guarded l a = ap nesting (trees-guarded l a) ∙ plain_guarded l (trees_of a)

-- a list with an element
pub later-three : (a b : List Item) (x : Item) → later (trees_of (a ++ x ∷ b)) ≡ 1 + nesting (trees_of (a ++ x ∷ b))
later-three a b x = ap later (trees-three a b x) ∙ some (trees_of a) (Then (tree_of x) (trees_of b)) (tree_of x) (trees_of b) refl ∙
    ap (λ z. 1 + nesting z) (sym (trees-three a b x)) where
      some : (f g : Forest) (y : Tree) (h : Forest) → g ≡ Then y h → later (join f g) ≡ 1 + nesting (join f g)
      some Nil g y h e = ap later e ∙ ap (λ z. 1 + nesting z) (sym e)
      some (Then z f) g y h e = refl

pub nesting-range : (a : List Item) (j i : ℕ) → nesting (trees_of (slice_range a j i)) ≤ nesting (trees_of a)
nesting-range a j i =
    let p = nesting-append (take j a) (drop j a) in
    let q = nesting-append (take (i - j) (drop j a)) (drop (i - j) (drop j a)) in
    let u = ap (λ z. nesting (trees_of z)) (take-append-drop j a) in
    let v = ap (λ z. nesting (trees_of z)) (take-append-drop (i - j) (drop j a)) in
    omega (arith, p, q, u, v)

pub nesting-take : (a : List Item) (i : ℕ) → nesting (trees_of (take i a)) ≤ nesting (trees_of a)
nesting-take a i =
    let p = nesting-append (take i a) (drop i a) in
    let u = ap (λ z. nesting (trees_of z)) (take-append-drop i a) in
    omega (arith, p, u)

pub leap_flat : (l : ℕ) → nesting_of (tree_of (Leap l)) ≡ 0
leap_flat l = ap nesting_of (tree-Leap l)

-- the list of the Leap
pub list_at_leap : (l i : ℕ) (a : List Item) → slice_get a i ≡ Some (Leap l) → nesting (trees_of a) ≤ at_leap a i
list_at_leap l i a e =
    let p = nesting-split a i (Leap l) e in
    let q = leap_flat l in
    let r = later_more (trees_of (drop (i + 1) a)) in
    let s = nesting_some (trees_of (take i a)) in
    omega (arith, p, q, r, s)

at_leap_list : (i : ℕ) (l : ℕ) (a : List Item) → slice_get a i ≡ Some (Leap l) → at_leap a i ≤ nesting (trees_of a) + 1
at_leap_list i l a e =
    let p = nesting-split a i (Leap l) e in
    let r = later_most (trees_of (drop (i + 1) a)) in
    omega (arith, p, r)

pub reach_is : (body : List Item) (at : Path) (a : List Item) → list_at body at.steps ≡ Some a → reach body at ≡ around body at.steps (at_leap a at.item)
reach_is body at a e = ap (λ z. around body at.steps (at_leap z at.item)) (there_is body at.steps a e)

-- a body is no deeper than that
pub nesting_reach : (l : ℕ) (body : List Item) (at : Path) (a : List Item) → list_at body at.steps ≡ Some a → slice_get a at.item ≡ Some (Leap l) →
    nesting (trees_of body) ≤ reach body at
nesting_reach l body at a e f =
    let p = nesting_around body at.steps a e in
    let h = list_at_leap l at.item a f in
    let q = around_more body at.steps (nesting (trees_of a)) (at_leap a at.item) 0 a e (omega (arith, h)) in
    let r = reach_is body at a e in
    omega (arith, p, q, r)

-- and that is at most one more
pub reach_nesting : (l : ℕ) (body : List Item) (at : Path) (a : List Item) → list_at body at.steps ≡ Some a → slice_get a at.item ≡ Some (Leap l) →
    reach body at ≤ nesting (trees_of body) + 1
reach_nesting l body at a e f =
    let p = around_nesting body at.steps a e in
    let h = at_leap_list at.item l a f in
    let q = around_more body at.steps (at_leap a at.item) (nesting (trees_of a) + 1) 0 a e (omega (arith, h)) in
    let r = reach_is body at a e in
    omega (arith, p, q, r)

pub drop_after : {A : Type 0} (xs ys : List A) (x : A) (n : ℕ) → length xs ≡ n → drop (n + 1) (xs ++ x ∷ ys) ≡ ys
drop_after xs ys x n e = ap (λ k. drop (k + 1) (xs ++ x ∷ ys)) (sym e) ∙ drop-append-add xs (x ∷ ys) 1

pub drop_here : {A : Type 0} (xs : List A) (i : ℕ) (x : A) → slice_get xs i ≡ Some x → drop i xs ≡ x ∷ drop (i + 1) xs
drop_here xs i x e = drop_at xs i x e ∙ (let s : suc i ≡ i + 1 = omega arith in ap (λ n. x ∷ drop n xs) s) where
  drop_at : {A : Type 0} (xs : List A) (i : ℕ) (x : A) → slice_get xs i ≡ Some x → drop i xs ≡ x ∷ drop (suc i) xs
  drop_at [] i x e = cc
  drop_at (y ∷ ys) zero x e = let h : y ≡ x = cc in ap (λ z. z ∷ ys) h
  drop_at (y ∷ ys) (suc i) x e = drop_at ys i x e

-- rule L

lift_reach_here : (l i j : ℕ) (a : List Item) → slice_get a i ≡ Some (Leap l) → j ≤ length a
    → around_element (lifted l i j a) j (at_leap (Leap l ∷ slice_range a j i) 0) ≤ at_leap a i + 2
lift_reach_here l i j a e h =
    let r = slice_range a j i in
    let w = lifted l i j a in
    let front = ap (λ z. nesting (trees_of z)) (take_at (take j a) (Do (Leap l ∷ r) (On l) ∷ drop (i + 1) a) j (length-take-le j a h)) in
    let back = ap (λ z. later (trees_of z)) (drop_after (take j a) (drop (i + 1) a) (Do (Leap l ∷ r) (On l)) j (length-take-le j a h)) in
    let f = nesting-take a j in
    let g = nesting-range a j i in
    let k = list_at_leap l i a e in
    let m = later_most (trees_of r) in
    let z : nesting (trees_of (take 0 (Leap l ∷ r))) ≡ 1 = ap nesting trees-none in
    omega (arith, front, back, f, g, k, m, z)

pub lift_reach : (l : ℕ) (p q : Point) (place : ℕ) → LiftParts l p q place → reach q.body q.at ≤ reach p.body p.at + 2
lift_reach l p q place t =
    let n = slice_get_within t.list place t.item t.item_is in
    let w = lifted l p.at.item place t.list in
    let step : Step = record { item = place; branch = B.Body } in
    let a = Leap l ∷ slice_range t.list place p.at.item in
    let within : place ≤ length t.list = omega arith in
    let new =
    reach_is q.body q.at a (lifted_list l p q place t)
    ∙ ap (λ z. around q.body q.at.steps (at_leap a z)) t.first
    ∙ ap (λ z. around q.body z (at_leap a 0)) t.steps
    ∙ ap (λ z. around z (p.at.steps ++ step ∷ []) (at_leap a 0)) t.body
    ∙ around-append (put_at p.body p.at.steps w) p.at.steps (step ∷ []) (at_leap a 0) w (list_put p.body p.at.steps w t.list t.list_is)
    ∙ around_put p.body p.at.steps (around w (step ∷ []) (at_leap a 0)) w t.list t.list_is
    ∙ ap (around p.body p.at.steps) (around_step w step [] (at_leap a 0) (Do a (On l)) a (lifted_child l p.at.item place t.list within) (child-Do a l)) in
    let old = reach_is p.body p.at t.list t.list_is in
    let h = around_more p.body p.at.steps (around_element w place (at_leap a 0)) (at_leap t.list p.at.item) 2 t.list t.list_is
    (lift_reach_here l p.at.item place t.list t.leap within) in
    omega (arith, new, old, h)

-- rule I

layer_beside_entered : (l : ℕ) (n : ℤ) (b : Branch) (m : ℕ) (y : Item-F Item Section) (a : List Item) → child_F b y ≡ Some a → HasBranch_F b y →
    beside_F b m (entered_F l n b y) ≡ beside_F b m y
layer_beside_entered l n B.Then m (O.If t x z) a e h = refl
layer_beside_entered l n B.Else m (O.If t x z) a e h = refl
layer_beside_entered l n B.Body m y a e h = refl
layer_beside_entered l n (B.Section k) m (O.Switch s cs) a e h =
    let t = map_some list_of (slice_get cs k) a e in
    let made = with_list (Leap l ∷ list_of t.0) t.0 in
    ap (λ o. (λ (l : List Section). max (nesting_in (sections_of (take k l))) (max m (later_in (sections_of (drop (k + 1) l)))))
    (option_map_or (λ c. slice_set cs k (with_list (Leap l ∷ list_of c) c)) o cs)) t.1
    ∙ ap₂ (λ (l r : List Section). max (nesting_in (sections_of l)) (max m (later_in (sections_of r)))) (take-set cs k made) (drop_set_one cs k made)
layer_beside_entered l n _ m _ a e h = absurd h

beside_entered : (l : ℕ) (n : ℤ) (b : Branch) (m : ℕ) (x : Item) (a : List Item) → child b x ≡ Some a → HasBranch b x →
    beside b m (entered l n b x) ≡ beside b m x
beside_entered l n b m x a e h = ap (beside_F b m) (out-roll-Item (entered_F l n b (out-Item x))) ∙ layer_beside_entered l n b m (out-Item x) a e h

in_reach_here : (l : ℕ) (n : ℤ) (i j : ℕ) (b : Branch) (a : List Item) (x : Item) (c : List Item) → i < j → i ≤ length a → slice_get a j ≡ Some x →
    child b x ≡ Some c → HasBranch b x
    → around_element (moved_in l n i j b a) (i + length (guarded l (slice_range a (i + 1) j)))
    (beside b (at_leap (Leap l ∷ c) 0) (entered l n b x)) ≤ at_leap a i
in_reach_here l n i j b a x c h w e f g =
    let mid = slice_range a (i + 1) j in
    let rest = drop (j + 1) a in
    let made = moved_in_is l n i j b a x e in
    let front = take i a ++ guarded l mid in
    let size : length front ≡ i + length (guarded l mid) = length-append (take i a) (guarded l mid) ∙ ap (λ z. z + length (guarded l mid))
    (length-take-le i a w) in
    let p = ap (λ z. nesting (trees_of z)) (ap (take (i + length (guarded l mid))) made ∙
    take_at front (entered l n b x ∷ rest) (i + length (guarded l mid)) size) ∙ nesting-append (take i a) (guarded l mid) in
    let q = ap (λ z. later (trees_of z)) (ap (drop (i + length (guarded l mid) + 1)) made ∙
    drop_after front rest (entered l n b x) (i + length (guarded l mid)) size) in
    let m = nesting-guarded l mid in
    let o : drop (i + 1) a ≡ mid ++ x ∷ rest = drop_split a (i + 1) j (omega arith) ∙ ap (λ z. mid ++ z) (drop_here a j x e) in
    let r = ap (λ z. later (trees_of z)) o ∙ later-three mid rest x in
    let s = nesting-three mid rest x in
    let t = beside_entered l n b (at_leap (Leap l ∷ c) 0) x c f g in
    let z : nesting (trees_of (take 0 (Leap l ∷ c))) ≡ 1 = ap nesting trees-none in
    let u = later_most (trees_of c) in
    let v = beside_more b (at_leap (Leap l ∷ c) 0) (nesting (trees_of c) + 1) 0 x (omega (arith, z, u)) in
    let k = beside_nesting b x c f in
    let y = later_most (trees_of mid) in
    let d = later_most (trees_of rest) in
    omega (arith, p, q, m, r, s, t, v, k, y, d)

pub in_reach : (l : ℕ) (p q : Point) (n : ℤ) (place : ℕ) (b : Branch) → InParts l p q n place b → reach q.body q.at ≤ reach p.body p.at
in_reach l p q n place b t =
    let m = slice_get_within t.list p.at.item (Leap l) t.leap in
    let within : p.at.item ≤ length t.list = omega arith in
    let w = moved_in l n p.at.item place b t.list in
    let step : Step = record { item = p.at.item + length (guarded l (slice_range t.list (p.at.item + 1) place)); branch = b } in
    let a = Leap l ∷ t.inner in
    let new =
    reach_is q.body q.at a (entered_list l p q n place b t)
    ∙ ap (λ z. around q.body q.at.steps (at_leap a z)) t.first
    ∙ ap (λ z. around q.body z (at_leap a 0)) t.steps
    ∙ ap (λ z. around z (p.at.steps ++ step ∷ []) (at_leap a 0)) t.body
    ∙ around-append (put_at p.body p.at.steps w) p.at.steps (step ∷ []) (at_leap a 0) w (list_put p.body p.at.steps w t.list t.list_is)
    ∙ around_put p.body p.at.steps (around w (step ∷ []) (at_leap a 0)) w t.list t.list_is
    ∙ ap (around p.body p.at.steps)
    (around_step w step [] (at_leap a 0) (entered l n b t.item) a (entered_at l n p.at.item place b t.list t.item within t.item_is)
    (entered_child l n b t.item t.inner t.inner_is t.branch)) in
    let old = reach_is p.body p.at t.list t.list_is in
    let e = around_element w step.item (beside b (at_leap a 0) (entered l n b t.item)) in
    let here = in_reach_here l n p.at.item place b t.list t.item t.inner t.later within t.item_is t.inner_is t.branch in
    let h = around_more p.body p.at.steps e (at_leap t.list p.at.item) 0 t.list t.list_is (omega (arith, here)) in
    omega (arith, new, old, h)
