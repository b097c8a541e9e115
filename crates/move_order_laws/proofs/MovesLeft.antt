-- Each move of a Leap leaves fewer moves for it, and their number is bounded by the levels.
use Rattle.std.proofs.Common.{◌≡◌, ◌⊎◌, inl, inr, ℕ, zero, suc, ◌+◌, ◌-◌, ◌≤◌, ◌<◌, List, [], ◌∷◌, Some, length, take, drop, slice_get, slice_range, refl, sym, ap, ◌∙◌, arith}
use Rattle.std.proofs.lemmas.List.{length-append}
use Rattle.std.specs.Prelude.{cond}
use Rattle.std.proofs.lemmas.Bool.{eq-eqb}
use Rattle.c_tree.specs.declared.tree.Item.{Item, Leap, Land}
use Rattle.c_tree.specs.declared.tree.Path.{Path}
use Rattle.c_tree.specs.declared.tree.Step.{Step}
use Rattle.c_tree.specs.Paths.{list_at}
use Rattle.c_tree.specs.Trees.{Tree, Forest, trees_of, tree_of}
use Rattle.c_tree.specs.Trees as T
use Rattle.c_tree.specs.Labels.{land_of, lands, lands_of, lands_inside}
use Rattle.c_tree.proofs.TreeLaws.{trees-more, trees-none, tree-Land, tree-Leap}
use Rattle.c_tree.proofs.RuleChanges.{lifts_changed, moves_out_changed, moves_in_changed}
use Rattle.c_tree.proofs.WellMoved.{changed_lands}
use Rattle.move_order_laws.specs.Levels.{levels, levels_of, bound_by, moves_left}
use Rattle.move_order_laws.specs.Next.{Point, GoesOut, IsLifted, GoesIn, IsJoined, MovesBy, Goes, stays, goes}
use Rattle.move_order_laws.proofs.LevelsMoved.{changed_levels}
use Rattle.c_tree.proofs.ChangeLemmas.{changed_at}
use Rattle.c_tree.proofs.CrossLemmas.{moved_out_changed}
use Rattle.c_tree.specs.Outward.{moved_out}
use Rattle.c_tree.specs.Changed as C
use Rattle.c_tree.specs.Changed.{Changed, one}
use Rattle.c_tree.specs.Moves.{Moved}
use Rattle.report_moves.specs.declared.moves.MoveKind.{MoveKind}
use Rattle.report_moves.specs.declared.moves.MoveKind.TheVariants.{Out, Lift, Inward}
use Rattle.move_order_laws.proofs.LevelsMoved.{NoDeeper, no_deeper}
use Rattle.move_order_laws.proofs.Parts.{there_is, OutParts, join_parts, lift_parts, out_parts, in_parts, lifted_list, entered_list, left_list}
use Rattle.move_order_laws.proofs.ListTotals.{total-split, total-range, list_total, element_total, take_total, early_total, lands_within, other_lists}
use Rattle.move_order_laws.proofs.SomeMove.{none_or_some}

-- the bound, by how many Lands the list has

bound-far : (n b f e : ℕ) → n ≡ 0 → bound_by n b f e ≡ f
bound-far zero b f e h = refl
bound-far (suc n) b f e h = absurd (omega arith)

bound-near : (n f e : ℕ) → 0 < n → bound_by n zero f e ≡ e + 1
bound-near zero f e h = absurd (omega arith)
bound-near (suc n) f e h = refl

bound-lift : (n b f e : ℕ) → 0 < n → 0 < b → bound_by n b f e ≡ e + 2
bound-lift zero b f e h k = absurd (omega arith)
bound-lift (suc n) zero f e h k = absurd (omega arith)
bound-lift (suc n) (suc b) f e h k = refl

bound-least : (n b f e : ℕ) → 0 < n → e + 1 ≤ bound_by n b f e
bound-least zero b f e h = absurd (omega arith)
bound-least (suc n) zero f e h = omega arith
bound-least (suc n) (suc b) f e h = omega arith

bound-most : (n b f e : ℕ) → e + 2 ≤ f → bound_by n b f e ≤ f
bound-most zero b f e h = omega arith
bound-most (suc n) zero f e h = omega arith
bound-most (suc n) (suc b) f e h = omega arith

bound-close : (n b f e : ℕ) → 0 < n → bound_by n b f e ≤ e + 2
bound-close zero b f e h = absurd (omega arith)
bound-close (suc n) zero f e h = omega arith
bound-close (suc n) (suc b) f e h = omega arith

-- the parts of the bound, where the Leap's list is known
abbrev left_in : ℕ → List Item → Path → List Item → ℕ
left_in l body at a = bound_by (lands l (trees_of a)) (lands l (trees_of (take at.item a))) (length at.steps + levels l (trees_of body) + 3)
    (levels l (trees_of a))

left_is : (l : ℕ) (body : List Item) (at : Path) (a : List Item) → list_at body at.steps ≡ Some a → moves_left l body at ≡ left_in l body at a
left_is l body at a e = ap (left_in l body at) (there_is body at.steps a e)

pub left_most : (l : ℕ) (body : List Item) (at : Path) (a : List Item) → list_at body at.steps ≡ Some a →
    moves_left l body at ≤ length at.steps + levels l (trees_of body) + 3
left_most l body at a e =
    let h = list_total (lands_inside l) body at.steps a e in
    let m = bound-most (lands l (trees_of a)) (lands l (trees_of (take at.item a))) (length at.steps + levels l (trees_of body) + 3)
    (levels l (trees_of a)) (omega (arith, h)) in
    let s = left_is l body at a e in
    omega (arith, m, s)

-- rule L

pub lands-leap : (l : ℕ) (a : List Item) → lands l (trees_of (Leap l ∷ a)) ≡ lands l (trees_of a)
lands-leap l a =
    let e = ap (lands l) (trees-more (Leap l) a) in
    let t : lands_of l (tree_of (Leap l)) ≡ 0 = ap (lands_of l) (tree-Leap l) in
    omega (arith, e, t)

levels-leap : (l : ℕ) (a : List Item) → levels l (trees_of (Leap l ∷ a)) ≡ levels l (trees_of a)
levels-leap l a =
    let e = ap (levels l) (trees-more (Leap l) a) in
    let t : levels_of l (tree_of (Leap l)) ≡ 0 = ap (levels_of l) (tree-Leap l) in
    omega (arith, e, t)

-- where the Leap stands first in its list, and that has a Land
left_first : (l : ℕ) (q : Point) (a : List Item) → list_at q.body q.at.steps ≡ Some (Leap l ∷ a) → q.at.item ≡ 0 → 0 < lands l (trees_of a) →
    moves_left l q.body q.at ≡ levels l (trees_of a) + 1
left_first l q a e z h =
    let p = left_is l q.body q.at (Leap l ∷ a) e in
    let f = length q.at.steps + levels l (trees_of q.body) + 3 in
    let none : lands l (trees_of (take q.at.item (Leap l ∷ a))) ≡ 0 = ap (λ n. lands l (trees_of (take n (Leap l ∷ a)))) z ∙ ap (lands l) trees-none in
    p ∙ ap (λ n. bound_by (lands l (trees_of (Leap l ∷ a))) n f (levels l (trees_of (Leap l ∷ a)))) none
    ∙ bound-near (lands l (trees_of (Leap l ∷ a))) f (levels l (trees_of (Leap l ∷ a))) (let k = lands-leap l a in omega (arith, k))
    ∙ ap (λ n. n + 1) (levels-leap l a)

first_dropped : (a : List Item) (j : ℕ) (x : Item) → slice_get a j ≡ Some x → slice_get (drop j a) 0 ≡ Some x
first_dropped [] j x e = cc
first_dropped (y ∷ ys) zero x e = e
first_dropped (y ∷ ys) (suc j) x e = first_dropped ys j x e

pub range_held : (l : ℕ) (a : List Item) (j i : ℕ) (x : Item) → j < i → slice_get a j ≡ Some x → 0 < lands_of l (tree_of x) →
    0 < lands l (trees_of (slice_range a j i))
range_held l a j i x h e p =
    let k : 0 < i - j = omega arith in
    let s = early_total (land_of l) (drop j a) (i - j) 0 x k (first_dropped a j x e) in
    omega (arith, p, s)

lift_fewer : (l : ℕ) (p q : Point) → IsLifted l p q → moves_left l q.body q.at < moves_left l p.body p.at
lift_fewer l p q h =
    let t = lift_parts l p q h in
    let a = slice_range t.list h.place p.at.item in
    let w = lands_within l (tree_of t.item) in
    let k = t.held in
    let x : 0 < lands_of l (tree_of t.item) = omega (arith, w, k) in
    let new = left_first l q a (lifted_list l p q h.place t) t.first (range_held l t.list h.place p.at.item t.item t.earlier t.item_is x) in
    let s = early_total (land_of l) t.list p.at.item h.place t.item t.earlier t.item_is in
    let u = take_total (land_of l) t.list p.at.item in
    let old =
    left_is l p.body p.at t.list t.list_is
    ∙ bound-lift (lands l (trees_of t.list)) (lands l (trees_of (take p.at.item t.list))) (length p.at.steps + levels l (trees_of p.body) + 3)
    (levels l (trees_of t.list)) (omega (arith, x, s, u)) (omega (arith, x, s)) in
    let r = total-range (lands_inside l) t.list h.place p.at.item in
    omega (arith, new, old, r)

-- rule I

in_fewer : (l : ℕ) (p q : Point) → GoesIn l p q → moves_left l q.body q.at < moves_left l p.body p.at
in_fewer l p q h =
    let t = in_parts l p q h in
    let held = t.held in
    let new = left_first l q t.inner (entered_list l p q h.number h.place h.branch t) t.first held in
    let o = other_lists h.branch t.item t.inner t.inner_is in
    let inside = o.inside l in
    let e = element_total (lands_inside l) t.list h.place t.item h.branch t.inner t.item_is t.inner_is in
    let d = element_total (land_of l) t.list h.place t.item h.branch t.inner t.item_is t.inner_is in
    let old = left_is l p.body p.at t.list t.list_is in
    let least = bound-least (lands l (trees_of t.list)) (lands l (trees_of (take p.at.item t.list)))
    (length p.at.steps + levels l (trees_of p.body) + 3) (levels l (trees_of t.list)) (omega (arith, held, d)) in
    omega (arith, new, old, least, held, inside, e)

-- rule O

out_changed : (l : ℕ) (p q : Point) (outer : List Step) (last : Step) (t : OutParts l p q outer last) →
    Changed Moved (trees_of t.list) (trees_of (moved_out l last.item last.branch p.at.item t.list))
out_changed l p q outer last t = moved_out_changed l last.item p.at.item last.branch t.list t.item t.inner t.item_is t.inner_is t.leap t.branch

-- where the list that the Leap comes to has no Land, no Land is deeper
out_level : (l : ℕ) (p q : Point) (outer : List Step) (last : Step) (t : OutParts l p q outer last)
    → lands l (trees_of (moved_out l last.item last.branch p.at.item t.list)) ≡ 0 → levels l (trees_of q.body) ≤ levels l (trees_of p.body)
out_level l p q outer last t z =
    let w = moved_out l last.item last.branch p.at.item t.list in
    let c = out_changed l p q outer last t in
    let same = changed_lands l c in
    let more = changed_levels l c in
    let here : NoDeeper l 0 (trees_of t.list) (trees_of w) = record { lands_same = same; deeper = omega (arith, more, same, z) } in
    let all = no_deeper l 0 (changed_at (NoDeeper l 0) p.body outer t.list w t.list_is (C.here here)) in
    let d = all.deeper in
    let e = ap (λ (b : List Item). levels l (trees_of b)) t.body in
    omega (arith, d, e)

out_fewer : (l : ℕ) (p q : Point) → GoesOut l p q → lands l (trees_of p.body) ≡ 1 → moves_left l q.body q.at < moves_left l p.body p.at
out_fewer l p q h one =
    let t = out_parts l p q h in
    let w = moved_out l h.last.item h.last.branch p.at.item t.list in
    let here = ap (list_at p.body) h.steps ∙ t.all_is in
    let far = length p.at.steps + levels l (trees_of p.body) + 3 in
    let before = left_is l p.body p.at t.inner here ∙ bound-far (lands l (trees_of t.inner)) (lands l (trees_of (take p.at.item t.inner))) far
    (levels l (trees_of t.inner)) t.elsewhere in
    let shorter : length p.at.steps ≡ length q.at.steps + 1 = ap length h.steps ∙ length-append h.outer (h.last ∷ []) ∙
    ap (λ (z : List Step). length z + 1) (sym t.steps) in
    let there = left_list l p q h.outer h.last t in
    let after = left_is l q.body q.at w there in
    let all = changed_levels l (moves_out_changed l h.outer h.last p.at.item p.body q.body q.at h.moves) in
    let part = list_total (lands_inside l) q.body q.at.steps w there in
    let goal = λ (z : (lands l (trees_of w) ≡ 0) ⊎ (0 < lands l (trees_of w))). elim z as (λ _. moves_left l q.body q.at < moves_left l p.body p.at) [
      | inl e ↦
          let f = bound-far (lands l (trees_of w)) (lands l (trees_of (take q.at.item w))) (length q.at.steps + levels l (trees_of q.body) + 3)
          (levels l (trees_of w)) e in
          let level = out_level l p q h.outer h.last t e in
          omega (arith, before, shorter, after, f, level)
      | inr k ↦
          let f = bound-close (lands l (trees_of w)) (lands l (trees_of (take q.at.item w))) (length q.at.steps + levels l (trees_of q.body) + 3)
          (levels l (trees_of w)) k in
          omega (arith, before, shorter, after, f, all, part, one)
    ] in
    goal (none_or_some (lands l (trees_of w)))

-- each rule but the join

pub fewer : (k : MoveKind) (l : ℕ) (p q : Point) → MovesBy k l p q → lands l (trees_of p.body) ≡ 1 → moves_left l q.body q.at < moves_left l p.body p.at
fewer Out l p q h one = out_fewer l p q h one
fewer Lift l p q h one = lift_fewer l p q h
fewer Inward l p q h one = in_fewer l p q h
fewer _ l p q h one = absurd h

pub moved_changed : (k : MoveKind) (l : ℕ) (p q : Point) → MovesBy k l p q → Changed Moved (trees_of p.body) (trees_of q.body)
moved_changed Out l p q h = moves_out_changed l h.outer h.last p.at.item p.body q.body q.at h.moves
moved_changed Lift l p q h = lifts_changed l p.at.item h.place p.at.steps p.body q.body q.at h.moves
moved_changed Inward l p q h = moves_in_changed l h.number p.at.item h.place h.branch p.at.steps p.body q.body q.at h.moves
moved_changed _ l p q h = absurd h

-- a Leap that can be joined has one move left at least
pub join_some : (l : ℕ) (p : Point) (new : List Item) → IsJoined l p new → 0 < moves_left l p.body p.at
join_some l p new h =
    let t = join_parts l p new h in
    let s = total-split (land_of l) t.list h.place (Land l) t.land in
    let e = ap (lands_of l) (tree-Land l) ∙ one_land l in
    let old = left_is l p.body p.at t.list t.list_is in
    let least = bound-least (lands l (trees_of t.list)) (lands l (trees_of (take p.at.item t.list)))
    (length p.at.steps + levels l (trees_of p.body) + 3) (levels l (trees_of t.list)) (omega (arith, s, e)) in
    omega (arith, old, least) where
      one_land : (l : ℕ) → lands_of l (T.Land l) ≡ 1
      one_land l = ap (λ b. cond {A = ℕ} b 1 0) (eq-eqb l l refl)

pub all_fewer : (l : ℕ) {n : ℕ} {p q : Point} → Goes l n p q → lands l (trees_of p.body) ≡ 1 →
    (moves_left l q.body q.at + n ≤ moves_left l p.body p.at) × (lands l (trees_of q.body) ≡ 1)
all_fewer l (stays p) one = (omega arith, one)
all_fewer l (goes k {p = p} {q = q} m r) one =
    let f = fewer k l p q m one in
    let h = all_fewer l r (changed_lands l (moved_changed k l p q m) ∙ one) in
    let g = h.0 in
    (omega (arith, f, g), h.1)
