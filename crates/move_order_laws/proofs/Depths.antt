-- From the choice of a Leap to its join a body becomes at most three lists deeper.
use Rattle.std.proofs.Common.{◌≡◌, ◌⊎◌, inl, inr, ℕ, zero, suc, ◌+◌, ◌≤◌, ◌<◌, List, ◌∷◌, ◌++◌, cond, Some, take, drop, slice_get, slice_range, refl, sym, ap, subst, ◌∙◌, arith}
use Rattle.std.proofs.lemmas.Bool.{lt-ltb, le-ltb, cases_lt}
use Rattle.std.proofs.lemmas.List.Folds.{drop_split}
use Rattle.c_tree.specs.declared.tree.Item.{Item, Do, Leap, Land}
use Rattle.c_tree.specs.declared.tree.Test.{On}
use Rattle.c_tree.specs.Paths.{list_at, put_at}
use Rattle.c_tree.specs.Join.{guarded, list_there, joined, joined_after, joined_before}
use Rattle.c_tree.specs.Labels.{lands, lands_of, land_of}
use Rattle.c_tree.specs.Trees.{tree_of, trees_of}
use Rattle.c_tree.proofs.PathLemmas.{list_put}
use Rattle.c_tree.proofs.TreeLaws.{tree-Leap, tree-Do}
use Rattle.c_tree.proofs.MoveLemmas.{some_same}
use Rattle.c_tree.proofs.WellMoved.{changed_lands}
use Rattle.report_moves.specs.declared.moves.MoveKind.{MoveKind}
use Rattle.report_moves.specs.declared.moves.MoveKind.TheVariants.{Out, Lift, Inward}
use Rattle.move_order_laws.specs.Nesting.{nesting, nesting_of, later, around, at_leap, reach}
use Rattle.move_order_laws.specs.Next.{Point, GoesOut, IsLifted, GoesIn, IsJoined, MovesBy, Goes, stays, goes}
use Rattle.move_order_laws.proofs.ListTotals.{total-split, list_total, early_total, lands_within}
use Rattle.move_order_laws.proofs.LandLevel.{lands-Land}
use Rattle.move_order_laws.proofs.Parts.{there_is, JoinParts, join_parts, lift_parts, out_parts, in_parts, lifted_list, entered_list}
use Rattle.move_order_laws.proofs.Around.{later_more, later_most, around_put, around_more, nesting_around}
use Rattle.move_order_laws.proofs.Reached.{nesting-three, nesting-append, nesting-guarded, nesting-range, nesting-take, later-three, list_at_leap, reach_is, nesting_reach, reach_nesting, lift_reach, in_reach, drop_here}
use Rattle.move_order_laws.proofs.ReachLeft.{out_reach}
use Rattle.move_order_laws.proofs.MovesLeft.{moved_changed, range_held}

-- rule J

join_after_here : (l i j : ℕ) (a : List Item) → i < j → slice_get a j ≡ Some (Land l) → nesting (trees_of (joined_after l i j a)) ≤ at_leap a i
join_after_here l i j a h e =
    let mid = slice_range a (i + 1) j in
    let here = drop_here a j (Land l) e in
    let o : drop (i + 1) a ≡ mid ++ Land l ∷ drop (j + 1) a = drop_split a (i + 1) j (omega arith) ∙ ap (λ z. mid ++ z) here in
    let r = ap (λ z. later (trees_of z)) o ∙ later-three mid (drop (j + 1) a) (Land l) in
    let s = nesting-three mid (drop (j + 1) a) (Land l) in
    let p = ap (λ z. nesting (trees_of (take i a ++ guarded l mid ++ z))) here ∙ nesting-three (take i a ++ guarded l mid) (drop (j + 1) a) (Land l) in
    let q = nesting-append (take i a) (guarded l mid) in
    let m = nesting-guarded l mid in
    let y = later_most (trees_of mid) in
    omega (arith, r, s, p, q, m, y)

join_before_here : (l i j : ℕ) (a : List Item) → slice_get a i ≡ Some (Leap l) → nesting (trees_of (joined_before l i j a)) ≤ at_leap a i + 1
join_before_here l i j a e =
    let r = slice_range a j i in
    let p = nesting-three (take j a) (drop (i + 1) a) (Do r (On l)) in
    let d : nesting_of (tree_of (Do r (On l))) ≡ nesting (trees_of r) = ap nesting_of (tree-Do r (On l)) in
    let f = nesting-take a j in
    let g = nesting-range a j i in
    let k = list_at_leap l i a e in
    let m = later_more (trees_of (drop (i + 1) a)) in
    omega (arith, p, d, f, g, k, m)

-- how deep a body may come: two more, unless the Land of the Leap stands after it in its list, or in an
-- element after it

abbrev two_unless : ℕ → ℕ
two_unless zero = 2
two_unless (suc n) = 0

two-none : (n : ℕ) → n ≡ 0 → two_unless n ≡ 2
two-none zero e = refl
two-none (suc n) e = absurd (omega arith)

two-some : (n : ℕ) → 0 < n → two_unless n ≡ 0
two-some zero e = absurd (omega arith)
two-some (suc n) e = refl

two-most : (n : ℕ) → two_unless n ≤ 2
two-most zero = omega arith
two-most (suc n) = omega arith

abbrev deepest : ℕ → Point → ℕ
deepest l p = reach p.body p.at + two_unless (lands l (trees_of (drop (p.at.item + 1) (list_there p.body p.at.steps))))

deepest_is : (l : ℕ) (p : Point) (a : List Item) → list_at p.body p.at.steps ≡ Some a →
    deepest l p ≡ reach p.body p.at + two_unless (lands l (trees_of (drop (p.at.item + 1) a)))
deepest_is l p a e = ap (λ z. reach p.body p.at + two_unless (lands l (trees_of (drop (p.at.item + 1) z)))) (there_is p.body p.at.steps a e)

-- an element before the Leap that has the one Land
none_after : (l : ℕ) (a : List Item) (i j : ℕ) (x : Item) → slice_get a i ≡ Some (Leap l) → j < i → slice_get a j ≡ Some x →
    0 < lands_of l (tree_of x) → lands l (trees_of a) ≤ 1
    → lands l (trees_of (drop (i + 1) a)) ≡ 0
none_after l a i j x e h f p one =
    let s = total-split (land_of l) a i (Leap l) e in
    let t = early_total (land_of l) a i j x h f in
    let n : suc i ≡ i + 1 = omega arith in
    let d = ap (λ k. lands l (trees_of (drop k a))) n in
    omega (arith, s, t, d, p, one)

list_one : (l : ℕ) (p : Point) (a : List Item) → list_at p.body p.at.steps ≡ Some a → lands l (trees_of p.body) ≡ 1 → lands l (trees_of a) ≤ 1
list_one l p a e one = let h = list_total (land_of l) p.body p.at.steps a e in omega (arith, h, one)

-- where the Leap stands first in its list, and that has a Land
deepest_first : (l : ℕ) (q : Point) (a : List Item) → list_at q.body q.at.steps ≡ Some (Leap l ∷ a) → q.at.item ≡ 0 → 0 < lands l (trees_of a) →
    deepest l q ≡ reach q.body q.at
deepest_first l q a e z h =
    let p = deepest_is l q (Leap l ∷ a) e in
    let d = ap (λ n. two_unless (lands l (trees_of (drop (n + 1) (Leap l ∷ a))))) z in
    let t = two-some (lands l (trees_of a)) h in
    omega (arith, p, d, t)

lift_deepest : (l : ℕ) (p q : Point) → IsLifted l p q → lands l (trees_of p.body) ≡ 1 → deepest l q ≤ deepest l p
lift_deepest l p q h one =
    let t = lift_parts l p q h in
    let a = slice_range t.list h.place p.at.item in
    let w = lands_within l (tree_of t.item) in
    let k = t.held in
    let x : 0 < lands_of l (tree_of t.item) = omega (arith, w, k) in
    let new = deepest_first l q a (lifted_list l p q h.place t) t.first (range_held l t.list h.place p.at.item t.item t.earlier t.item_is x) in
    let old = deepest_is l p t.list t.list_is in
    let z = two-none (lands l (trees_of (drop (p.at.item + 1) t.list)))
    (none_after l t.list p.at.item h.place t.item t.leap t.earlier t.item_is x (list_one l p t.list t.list_is one)) in
    let r = lift_reach l p q h.place t in
    omega (arith, new, old, z, r)

in_deepest : (l : ℕ) (p q : Point) → GoesIn l p q → deepest l q ≤ deepest l p
in_deepest l p q h =
    let t = in_parts l p q h in
    let new = deepest_first l q t.inner (entered_list l p q h.number h.place h.branch t) t.first t.held in
    let old = deepest_is l p t.list t.list_is in
    let r = in_reach l p q h.number h.place h.branch t in
    omega (arith, new, old, r)

out_deepest : (l : ℕ) (p q : Point) → GoesOut l p q → deepest l q ≤ deepest l p
out_deepest l p q h =
    let t = out_parts l p q h in
    let here = ap (list_at p.body) h.steps ∙ t.all_is in
    let old = deepest_is l p t.inner here in
    let s = total-split (land_of l) t.inner p.at.item (Leap l) t.leap in
    let n : suc p.at.item ≡ p.at.item + 1 = omega arith in
    let d = ap (λ k. lands l (trees_of (drop k t.inner))) n in
    let e = t.elsewhere in
    let z = two-none (lands l (trees_of (drop (p.at.item + 1) t.inner))) (omega (arith, s, d, e)) in
    let m = two-most (lands l (trees_of (drop (q.at.item + 1) (list_there q.body q.at.steps)))) in
    let r = out_reach l p q h.outer h.last t h.steps in
    omega (arith, old, z, m, r)

no_deeper_later : (k : MoveKind) (l : ℕ) (p q : Point) → MovesBy k l p q → lands l (trees_of p.body) ≡ 1 → deepest l q ≤ deepest l p
no_deeper_later Out l p q h one = out_deepest l p q h
no_deeper_later Lift l p q h one = lift_deepest l p q h one
no_deeper_later Inward l p q h one = in_deepest l p q h
no_deeper_later _ l p q h one = absurd h

-- the body, and the Leap in it
record HasLeap (l : ℕ) (p : Point) : Type 0 where
  list : List Item
  list_is : list_at p.body p.at.steps ≡ Some list
  leap : slice_get list p.at.item ≡ Some (Leap l)

depth_now : (l : ℕ) (p : Point) → HasLeap l p → (nesting (trees_of p.body) ≤ deepest l p) × (deepest l p ≤ nesting (trees_of p.body) + 3)
depth_now l p h =
    let a = nesting_reach l p.body p.at h.list h.list_is h.leap in
    let b = reach_nesting l p.body p.at h.list h.list_is h.leap in
    let m = two-most (lands l (trees_of (drop (p.at.item + 1) (list_there p.body p.at.steps)))) in
    (omega (arith, a), omega (arith, b, m))

join_deepest : (l : ℕ) (p : Point) (new : List Item) → IsJoined l p new → lands l (trees_of p.body) ≡ 1 → nesting (trees_of new) ≤ deepest l p
join_deepest l p new h one = by_order (cases_lt p.at.item h.place) where
  t : JoinParts l p new h.place
  t = join_parts l p new h

  w : List Item
  w = joined l p.at.item h.place t.list

  whole : nesting (trees_of new) ≤ around p.body p.at.steps (nesting (trees_of w))
  whole =
      let a = ap (λ z. nesting (trees_of z)) t.body in
      let b = nesting_around (put_at p.body p.at.steps w) p.at.steps w (list_put p.body p.at.steps w t.list t.list_is) in
      let c = around_put p.body p.at.steps (nesting (trees_of w)) w t.list t.list_is in
      omega (arith, a, b, c)

  old : deepest l p ≡ around p.body p.at.steps (at_leap t.list p.at.item) + two_unless (lands l (trees_of (drop (p.at.item + 1) t.list)))
  old = deepest_is l p t.list t.list_is ∙ ap (λ n. n + two_unless (lands l (trees_of (drop (p.at.item + 1) t.list)))) (reach_is p.body p.at t.list t.list_is)

  by_order : (p.at.item < h.place) ⊎ (h.place ≤ p.at.item) → nesting (trees_of new) ≤ deepest l p
  by_order (inl b) =
      let v = ap (λ z. nesting (trees_of (cond z (joined_after l p.at.item h.place t.list) (joined_before l p.at.item h.place t.list))))
      (lt-ltb p.at.item h.place b) in
      let here = join_after_here l p.at.item h.place t.list b t.land in
      let m = around_more p.body p.at.steps (nesting (trees_of w)) (at_leap t.list p.at.item) 0 t.list t.list_is (omega (arith, v, here)) in
      omega (arith, whole, old, m)
  by_order (inr b) =
      let v = ap (λ z. nesting (trees_of (cond z (joined_after l p.at.item h.place t.list) (joined_before l p.at.item h.place t.list))))
      (le-ltb p.at.item h.place b) in
      let here = join_before_here l p.at.item h.place t.list t.leap in
      let m = around_more p.body p.at.steps (nesting (trees_of w)) (at_leap t.list p.at.item) 2 t.list t.list_is (omega (arith, v, here)) in
      let before : h.place < p.at.item = apart b (λ e. not_both t.list p.at.item t.leap (subst (λ k. slice_get t.list k ≡ Some (Land l)) e t.land)) in
      let some = lands-Land l in
      let z = two-none (lands l (trees_of (drop (p.at.item + 1) t.list)))
      (none_after l t.list p.at.item h.place (Land l) t.leap before t.land (omega (arith, some)) (list_one l p t.list t.list_is one)) in
      omega (arith, whole, old, m, z) where
        apart : h.place ≤ p.at.item → (h.place ≡ p.at.item → ⊥) → h.place < p.at.item
        apart u n = omega arith

        not_both : (a : List Item) (i : ℕ) → slice_get a i ≡ Some (Leap l) → slice_get a i ≡ Some (Land l) → ⊥
        not_both a i e f =
            let g : Some (Leap l) ≡ Some (Land l) = sym e ∙ f in
            let x : Leap l ≡ Land l = some_same g in
            let y : lands_of l (tree_of (Leap l)) ≡ lands_of l (tree_of (Land l)) = ap (λ z. lands_of l (tree_of z)) x in
            let leap : lands_of l (tree_of (Leap l)) ≡ 0 = ap (lands_of l) (tree-Leap l) in
            let some = lands-Land l in
            omega (arith, y, leap, some)

-- where a rule applies, the Leap stands
moves_leap : (k : MoveKind) (l : ℕ) (p q : Point) → MovesBy k l p q → HasLeap l p
moves_leap Out l p q h = let t = out_parts l p q h in record { list = t.inner; list_is = ap (list_at p.body) h.steps ∙ t.all_is; leap = t.leap }
moves_leap Lift l p q h = let t = lift_parts l p q h in record { list = t.list; list_is = t.list_is; leap = t.leap }
moves_leap Inward l p q h = let t = in_parts l p q h in record { list = t.list; list_is = t.list_is; leap = t.leap }
moves_leap _ l p q h = absurd h

-- after the moves from one point to another
all_no_deeper : (l : ℕ) {n : ℕ} {p q : Point} → Goes l n p q → lands l (trees_of p.body) ≡ 1 → deepest l q ≤ deepest l p
all_no_deeper l (stays p) one = omega arith
all_no_deeper l (goes k {p = p} {q = q} m r) one =
    let f = no_deeper_later k l p q m one in
    let h = all_no_deeper l r (changed_lands l (moved_changed k l p q m) ∙ one) in
    omega (arith, f, h)

leap_stays : (l : ℕ) {n : ℕ} {p q : Point} → Goes l n p q → HasLeap l q → HasLeap l p
leap_stays l (stays p) h = h
leap_stays l (goes k {p = p} {q = q} m r) h = moves_leap k l p q m

-- each body on the way from the choice to the join, and the one after it
pub no_deeper_on_the_way : (l : ℕ) {n : ℕ} {p q : Point} → Goes l n p q → (list : List Item) → list_at q.body q.at.steps ≡ Some list →
    slice_get list q.at.item ≡ Some (Leap l) → lands l (trees_of p.body) ≡ 1
    → nesting (trees_of q.body) ≤ nesting (trees_of p.body) + 3
no_deeper_on_the_way l {p = p} {q = q} r list e f one =
    let h : HasLeap l q = record { list = list; list_is = e; leap = f } in
    let a = (depth_now l q h).0 in
    let b = all_no_deeper l r one in
    let c = (depth_now l p (leap_stays l r h)).1 in
    omega (arith, a, b, c)

pub no_deeper_joined : (l : ℕ) {n : ℕ} {p q : Point} (new : List Item) → Goes l n p q → IsJoined l q new → lands l (trees_of p.body) ≡ 1 →
    lands l (trees_of q.body) ≡ 1 → nesting (trees_of new) ≤ nesting (trees_of p.body) + 3
no_deeper_joined l {p = p} {q = q} new r j one end =
    let t = join_parts l q new j in
    let h : HasLeap l q = record { list = t.list; list_is = t.list_is; leap = t.leap } in
    let a = join_deepest l q new j end in
    let b = all_no_deeper l r one in
    let c = (depth_now l p (leap_stays l r h)).1 in
    omega (arith, a, b, c)
