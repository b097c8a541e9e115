-- How many Leaps each rule leaves: a join takes one away, and every other rule keeps their number.
use Rattle.std.proofs.Common.{◌≡◌, inl, inr, ℕ, ℤ, zero, suc, ◌+◌, ◌≤◌, ◌<◌, Bool, true, false, cond, List, [], ◌∷◌, ◌++◌, Some, take, drop, slice_get, slice_set, slice_range, refl, sym, ap, subst, ◌∙◌, arith}
use Rattle.std.specs.Option.{option_map_or}
use Rattle.std.proofs.lemmas.Bool.{lt-ltb, le-ltb, cases_lt}
use Rattle.std.proofs.lemmas.List.Folds.{drop_split}
use Rattle.c_tree.specs.declared.tree.Item.{Item, Item-F, out-Item, Do, Leap}
use Rattle.c_tree.specs.declared.tree.Item.TheOpen as O
use Rattle.c_tree.specs.declared.tree.Section as Real
use Rattle.c_tree.specs.declared.tree.Branch.{Branch}
use Rattle.c_tree.specs.declared.tree.Branch.TheVariants as B
use Rattle.c_tree.specs.declared.tree.Test.{On}
use Rattle.c_tree.specs.declared.tree.Step.{Step}
use Rattle.c_tree.specs.Paths.{list_of, with_list, child_F, child, list_at, put_at}
use Rattle.c_tree.specs.Join as J
use Rattle.c_tree.specs.Lift.{lifted}
use Rattle.c_tree.specs.Outward.{rest_guarded, later_guarded, sections_left, left_F, left, moved_out, HasBranch_F, HasBranch}
use Rattle.c_tree.specs.Inward.{entered_F, entered, moved_in}
use Rattle.c_tree.specs.Trees.{Forest, Nil, Then, Sections, SectionTree, join, tree_of, trees_of, sections_of}
use Rattle.c_tree.specs.Everywhere.{total_of, total_in}
use Rattle.c_tree.specs.Changed as C
use Rattle.c_tree.specs.Changed.{one, Changed, ChangedSections, within, in_then, in_else, in_while, in_do, in_for, in_switch, in_block, in_section, in_later}
use Rattle.c_tree.specs.Moves.{guarded}
use Rattle.c_tree.proofs.KeptLemmas.{total-join}
use Rattle.c_tree.proofs.PathLemmas.{map_some}
use Rattle.c_tree.proofs.TreeLaws.{trees-append, trees-more, tree-Leap, tree-Do, section-parts}
use Rattle.c_tree.proofs.MoveLemmas.{trees-guarded}
use Rattle.c_tree.proofs.ChangeLemmas.{layer_tree, tree-out, tree-roll, section-with, changed_at}
use Rattle.report_moves.specs.declared.moves.MoveKind.{MoveKind}
use Rattle.report_moves.specs.declared.moves.MoveKind.TheVariants.{Out, Lift, Inward}
use Rattle.move_order_laws.specs.Leaps.{leap_of, leaps}
use Rattle.move_order_laws.specs.Next.{Point, IsJoined, MovesBy}
use Rattle.move_order_laws.proofs.ListTotals.{total-cut}
use Rattle.move_order_laws.proofs.Parts.{join_parts, lift_parts, out_parts, in_parts, moved_in_is}
use Rattle.move_order_laws.proofs.Reached.{drop_here}

-- ---- one list in a body

-- n Leaps fewer
record Fewer (n : ℕ) (xs ys : Forest) : Type 0 where
  left : leaps ys + n ≡ leaps xs

leaps-join : (a b : Forest) → leaps (join a b) ≡ leaps a + leaps b
leaps-join a b = total-join leap_of a b

module _ (n : ℕ) where
  mutual
    part_fewer : {xs ys : Forest} → Changed (Fewer n) xs ys → Fewer n xs ys
    part_fewer (C.here r) = r
    part_fewer (within a b {xs = xs} {ys = ys} c) =
        let h = (part_fewer c).left in
        let p = leaps-join a (join xs b) in let q = leaps-join xs b in let p' = leaps-join a (join ys b) in let q' = leaps-join ys b in
        record { left = omega arith }
    part_fewer (in_then t b c) = let h = (part_fewer c).left in record { left = omega arith }
    part_fewer (in_else t a c) = let h = (part_fewer c).left in record { left = omega arith }
    part_fewer (in_while t c) = let h = (part_fewer c).left in record { left = omega arith }
    part_fewer (in_do t c) = let h = (part_fewer c).left in record { left = omega arith }
    part_fewer (in_for f t u c) = let h = (part_fewer c).left in record { left = omega arith }
    part_fewer (in_switch s c) = let h = sections_fewer c in record { left = omega arith }
    part_fewer (in_block c) = let h = (part_fewer c).left in record { left = omega arith }

    sections_fewer : {c d : Sections} → ChangedSections (Fewer n) c d → total_in leap_of d + n ≡ total_in leap_of c
    sections_fewer (in_section cases default ends c r) = let h = (part_fewer r).left in omega arith
    sections_fewer (in_later cases default ends a r) = let h = sections_fewer r in omega arith

-- where the list at the steps has n Leaps fewer, so has the body
body_fewer : (n : ℕ) (old new : List Item) (steps : List Step) (a w : List Item) → list_at old steps ≡ Some a → new ≡ put_at old steps w →
    leaps (trees_of w) + n ≡ leaps (trees_of a)
    → leaps (trees_of new) + n ≡ leaps (trees_of old)
body_fewer n old new steps a w e f h =
    ap (λ z. leaps (trees_of z) + n) f ∙ (part_fewer n (changed_at (Fewer n) old steps a w e (C.here (record { left = h })))).left

-- ---- lists

leaps-append : (a b : List Item) → leaps (trees_of (a ++ b)) ≡ leaps (trees_of a) + leaps (trees_of b)
leaps-append a b = ap leaps (trees-append a b) ∙ leaps-join (trees_of a) (trees_of b)

leaps-guarded_trees : (m : ℕ) (a : Forest) → leaps (guarded m a) ≡ leaps a
leaps-guarded_trees m Nil = refl
leaps-guarded_trees m (Then x a) = omega arith

leaps-guarded : (m : ℕ) (a : List Item) → leaps (trees_of (J.guarded m a)) ≡ leaps (trees_of a)
leaps-guarded m a = ap leaps (trees-guarded m a) ∙ leaps-guarded_trees m (trees_of a)

one_leap : (l : ℕ) → total_of leap_of (tree_of (Leap l)) ≡ 1
one_leap l = ap (total_of leap_of) (tree-Leap l)

leaps-more : (x : Item) (a : List Item) → leaps (trees_of (x ∷ a)) ≡ total_of leap_of (tree_of x) + leaps (trees_of a)
leaps-more x a = ap leaps (trees-more x a)

leaps-three : (a b : List Item) (x : Item) → leaps (trees_of (a ++ x ∷ b)) ≡ leaps (trees_of a) + (total_of leap_of (tree_of x) + leaps (trees_of b))
leaps-three a b x = leaps-append a (x ∷ b) ∙ ap (λ n. leaps (trees_of a) + n) (leaps-more x b)

-- from an item on
leaps-from : (a : List Item) (i : ℕ) (x : Item) → slice_get a i ≡ Some x →
    leaps (trees_of (drop i a)) ≡ total_of leap_of (tree_of x) + leaps (trees_of (drop (i + 1) a))
leaps-from a i x e = ap (λ z. leaps (trees_of z)) (drop_here a i x e) ∙ leaps-more x (drop (i + 1) a)

-- what stands between two places, and behind
leaps-range : (a : List Item) (i j : ℕ) → i ≤ j → leaps (trees_of (drop i a)) ≡ leaps (trees_of (slice_range a i j)) + leaps (trees_of (drop j a))
leaps-range a i j h = ap (λ z. leaps (trees_of z)) (drop_split a i j h) ∙ leaps-append (slice_range a i j) (drop j a)

-- ---- rule J

after_leaps : (l i j : ℕ) (a : List Item) → slice_get a i ≡ Some (Leap l) → i < j → leaps (trees_of (J.joined_after l i j a)) + 1 ≡ leaps (trees_of a)
after_leaps l i j a e h =
    let mid = slice_range a (i + 1) j in
    let c = total-cut leap_of a i in
    let f = leaps-from a i (Leap l) e in
    let o = one_leap l in
    let d = leaps-range a (i + 1) j (omega arith) in
    let p = leaps-append (take i a ++ J.guarded l mid) (drop j a) in
    let q = leaps-append (take i a) (J.guarded l mid) in
    let g = leaps-guarded l mid in
    omega (arith, c, f, o, d, p, q, g)

before_leaps : (l i j : ℕ) (a : List Item) → slice_get a i ≡ Some (Leap l) → j ≤ i → leaps (trees_of (J.joined_before l i j a)) + 1 ≡ leaps (trees_of a)
before_leaps l i j a e h =
    let r = slice_range a j i in
    let c = total-cut leap_of a j in
    let d = leaps-range a j i h in
    let f = leaps-from a i (Leap l) e in
    let o = one_leap l in
    let p = leaps-three (take j a) (drop (i + 1) a) (Do r (On l)) in
    let m = ap (total_of leap_of) (tree-Do r (On l)) in
    omega (arith, c, d, f, o, p, m)

joined_leaps : (l i j : ℕ) (a : List Item) → slice_get a i ≡ Some (Leap l) → leaps (trees_of (J.joined l i j a)) + 1 ≡ leaps (trees_of a)
joined_leaps l i j a e = elim (cases_lt i j) [
  | inl h ↦ ap (λ z. leaps (trees_of (cond z (J.joined_after l i j a) (J.joined_before l i j a))) + 1) (lt-ltb i j h) ∙ after_leaps l i j a e h
  | inr h ↦ ap (λ z. leaps (trees_of (cond z (J.joined_after l i j a) (J.joined_before l i j a))) + 1) (le-ltb i j h) ∙ before_leaps l i j a e h
]

-- a join leaves one fewer
pub one_fewer : (l : ℕ) (p : Point) (new : List Item) → IsJoined l p new → leaps (trees_of new) + 1 ≡ leaps (trees_of p.body)
one_fewer l p new h =
    let t = join_parts l p new h in
    body_fewer 1 p.body new p.at.steps t.list (J.joined l p.at.item h.place t.list) t.list_is t.body (joined_leaps l p.at.item h.place t.list t.leap)

-- ---- rule L

lifted_leaps : (l i j : ℕ) (a : List Item) → slice_get a i ≡ Some (Leap l) → j < i → leaps (trees_of (lifted l i j a)) + 0 ≡ leaps (trees_of a)
lifted_leaps l i j a e h =
    let r = slice_range a j i in
    let c = total-cut leap_of a j in
    let d = leaps-range a j i (omega arith) in
    let f = leaps-from a i (Leap l) e in
    let p = leaps-three (take j a) (drop (i + 1) a) (Do (Leap l ∷ r) (On l)) in
    let m = ap (total_of leap_of) (tree-Do (Leap l ∷ r) (On l)) in
    let n = leaps-more (Leap l) r in
    omega (arith, c, d, f, p, m, n)

-- ---- sections

leaps-section : (c : Real.Section) (cs : List Real.Section) → total_in leap_of (sections_of (c ∷ cs)) ≡ leaps (trees_of (list_of c)) + total_in
    leap_of (sections_of cs)
unfolding sections_of
leaps-section c cs = ap (λ (z : SectionTree). leaps z.list + total_in leap_of (sections_of cs)) (section-parts c)

leaps-with : (w : List Item) (c : Real.Section) (cs : List Real.Section) →
    total_in leap_of (sections_of (with_list w c ∷ cs)) ≡ leaps (trees_of w) + total_in leap_of (sections_of cs)
unfolding sections_of
leaps-with w c cs = ap (λ (z : SectionTree). leaps z.list + total_in leap_of (sections_of cs)) (section-with w c)

chosen_leaps : (b : Bool) (cs ds : List Real.Section) → total_in leap_of (sections_of ds) ≡ total_in leap_of (sections_of cs) →
    total_in leap_of (sections_of (cond b cs ds)) ≡ total_in leap_of (sections_of cs)
chosen_leaps true cs ds h = refl
chosen_leaps false cs ds h = h

later_leaps : (l : ℕ) (cs : List Real.Section) → total_in leap_of (sections_of (later_guarded l cs)) ≡ total_in leap_of (sections_of cs)
later_leaps l [] = refl
later_leaps l (c ∷ cs) =
    let a = leaps-with (J.guarded l (list_of c)) c (cond (Real.out-Section c).ends cs (later_guarded l cs)) in
    let g = leaps-guarded l (list_of c) in
    let s = leaps-section c cs in
    let k = chosen_leaps (Real.out-Section c).ends cs (later_guarded l cs) (later_leaps l cs) in
    omega (arith, a, g, s, k)

-- a list that the Leap leaves
rest_leaps : (l i : ℕ) (a : List Item) → slice_get a i ≡ Some (Leap l) → leaps (trees_of (rest_guarded l i a)) + 1 ≡ leaps (trees_of a)
rest_leaps l i a e =
    let c = total-cut leap_of a i in
    let f = leaps-from a i (Leap l) e in
    let o = one_leap l in
    let p = leaps-append (take i a) (J.guarded l (drop (i + 1) a)) in
    let g = leaps-guarded l (drop (i + 1) a) in
    omega (arith, c, f, o, p, g)

left_sections_leaps : (l i : ℕ) (cs : List Real.Section) (k : ℕ) (c : Real.Section) → slice_get cs k ≡ Some c → slice_get (list_of c) i ≡ Some (Leap l)
    → total_in leap_of (sections_of (take k cs ++ sections_left l i (drop k cs))) + 1 ≡ total_in leap_of (sections_of cs)
left_sections_leaps l i [] k c e f = cc
left_sections_leaps l i (d ∷ cs) zero c e f =
    let h : d ≡ c = cc in
    let a = leaps-with (rest_guarded l i (list_of d)) d (cond (Real.out-Section d).ends cs (later_guarded l cs)) in
    let r = rest_leaps l i (list_of d) (subst (λ z. slice_get (list_of z) i ≡ Some (Leap l)) (sym h) f) in
    let s = leaps-section d cs in
    let k = chosen_leaps (Real.out-Section d).ends cs (later_guarded l cs) (later_leaps l cs) in
    omega (arith, a, r, s, k)
left_sections_leaps l i (d ∷ cs) (suc k) c e f =
    let r = left_sections_leaps l i cs k c e f in
    let s = leaps-section d cs in
    let t = leaps-section d (take k cs ++ sections_left l i (drop k cs)) in
    omega (arith, r, s, t)

entered_sections_leaps : (l : ℕ) (cs : List Real.Section) (k : ℕ) (c : Real.Section) → slice_get cs k ≡ Some c
    → total_in leap_of (sections_of (slice_set cs k (with_list (Leap l ∷ list_of c) c))) ≡ total_in leap_of (sections_of cs) + 1
entered_sections_leaps l [] k c e = cc
entered_sections_leaps l (d ∷ cs) zero c e =
    let h : d ≡ c = cc in
    let a = leaps-with (Leap l ∷ list_of c) c cs in
    let m = leaps-more (Leap l) (list_of c) in
    let o = one_leap l in
    let s = leaps-section d cs in
    let g = ap (λ z. leaps (trees_of (list_of z))) h in
    omega (arith, a, m, o, s, g)
entered_sections_leaps l (d ∷ cs) (suc k) c e =
    let r = entered_sections_leaps l cs k c e in
    let s = leaps-section d cs in
    let t = leaps-section d (slice_set cs k (with_list (Leap l ∷ list_of c) c)) in
    omega (arith, r, s, t)

-- ---- rule O

layer_left : (l i : ℕ) (b : Branch) (y : Item-F Item Real.Section) (a : List Item) → child_F b y ≡ Some a → slice_get a i ≡ Some (Leap l) → HasBranch_F b y
    → total_of leap_of (layer_tree (left_F l b i y)) + 1 ≡ total_of leap_of (layer_tree y)
unfolding trees_of sections_of
layer_left l i B.Then (O.If t x z) a e f h = let g : a ≡ x = cc in let r = rest_leaps l i x (subst (λ v. slice_get v i ≡ Some (Leap l)) g f) in omega (arith, r)
layer_left l i B.Else (O.If t z x) a e f h = let g : a ≡ x = cc in let r = rest_leaps l i x (subst (λ v. slice_get v i ≡ Some (Leap l)) g f) in omega (arith, r)
layer_left l i B.Body (O.While t x) a e f h = let g : a ≡ x = cc in let r = rest_leaps l i x (subst (λ v. slice_get v i ≡ Some (Leap l)) g f) in
    omega (arith, r)
layer_left l i B.Body (O.Do x t) a e f h = let g : a ≡ x = cc in let r = rest_leaps l i x (subst (λ v. slice_get v i ≡ Some (Leap l)) g f) in omega (arith, r)
layer_left l i (B.Section k) (O.Switch s cs) a e f h =
    let p = map_some list_of (slice_get cs k) a e in
    let r = left_sections_leaps l i cs k p.0 p.1 (subst (λ v. slice_get v i ≡ Some (Leap l)) (sym p.2) f) in
    omega (arith, r)
layer_left l i _ _ a e f h = absurd h

item_left : (l i : ℕ) (b : Branch) (x : Item) (a : List Item) → child b x ≡ Some a → slice_get a i ≡ Some (Leap l) → HasBranch b x →
    total_of leap_of (tree_of (left l b i x)) + 1 ≡ total_of leap_of (tree_of x)
item_left l i b x a e f h =
    ap (λ t. total_of leap_of t + 1) (tree-roll (left_F l b i (out-Item x))) ∙ layer_left l i b (out-Item x) a e f h ∙ ap (total_of leap_of) (sym (tree-out x))

out_leaps : (l k i : ℕ) (b : Branch) (xs : List Item) (x : Item) (a : List Item) → slice_get xs k ≡ Some x → child b x ≡ Some a →
    slice_get a i ≡ Some (Leap l) → HasBranch b x
    → leaps (trees_of (moved_out l k b i xs)) + 0 ≡ leaps (trees_of xs)
out_leaps l k i b xs x a e f g h =
    let v = ap (λ o. leaps (trees_of (option_map_or (λ x. take k xs ++ left l b i x ∷ Leap l ∷ drop (k + 1) xs) o xs))) e in
    let p = leaps-three (take k xs) (Leap l ∷ drop (k + 1) xs) (left l b i x) in
    let m = leaps-more (Leap l) (drop (k + 1) xs) in
    let o = one_leap l in
    let t = item_left l i b x a f g h in
    let c = total-cut leap_of xs k in
    let d = leaps-from xs k x e in
    omega (arith, v, p, m, o, t, c, d)

-- ---- rule I

layer_entered : (l : ℕ) (n : ℤ) (b : Branch) (y : Item-F Item Real.Section) (a : List Item) → child_F b y ≡ Some a → HasBranch_F b y
    → total_of leap_of (layer_tree (entered_F l n b y)) ≡ total_of leap_of (layer_tree y) + 1
unfolding trees_of sections_of
layer_entered l n B.Then (O.If t x z) a e h = let r = leaps-more (Leap l) x in let o = one_leap l in omega (arith, r, o)
layer_entered l n B.Else (O.If t z x) a e h = let r = leaps-more (Leap l) x in let o = one_leap l in omega (arith, r, o)
layer_entered l n B.Body (O.While t x) a e h = let r = leaps-more (Leap l) x in let o = one_leap l in omega (arith, r, o)
layer_entered l n B.Body (O.Do x t) a e h = let r = leaps-more (Leap l) x in let o = one_leap l in omega (arith, r, o)
layer_entered l n (B.Section k) (O.Switch s cs) a e h =
    let p = map_some list_of (slice_get cs k) a e in
    let v = ap (λ o. total_in leap_of (sections_of (option_map_or (λ c. slice_set cs k (with_list (Leap l ∷ list_of c) c)) o cs))) p.1 in
    let r = entered_sections_leaps l cs k p.0 p.1 in
    omega (arith, v, r)
layer_entered l n _ _ a e h = absurd h

item_entered : (l : ℕ) (n : ℤ) (b : Branch) (x : Item) (a : List Item) → child b x ≡ Some a → HasBranch b x →
    total_of leap_of (tree_of (entered l n b x)) ≡ total_of leap_of (tree_of x) + 1
item_entered l n b x a e h =
    ap (total_of leap_of) (tree-roll (entered_F l n b (out-Item x))) ∙ layer_entered l n b (out-Item x) a e h ∙
    ap (λ t. total_of leap_of t + 1) (sym (tree-out x))

in_leaps : (l : ℕ) (n : ℤ) (i j : ℕ) (b : Branch) (xs : List Item) (x : Item) (a : List Item) → i < j → slice_get xs i ≡ Some (Leap l) →
    slice_get xs j ≡ Some x → child b x ≡ Some a → HasBranch b x
    → leaps (trees_of (moved_in l n i j b xs)) + 0 ≡ leaps (trees_of xs)
in_leaps l n i j b xs x a h e f g w =
    let mid = slice_range xs (i + 1) j in
    let v = ap (λ z. leaps (trees_of z)) (moved_in_is l n i j b xs x f) in
    let p = leaps-three (take i xs ++ J.guarded l mid) (drop (j + 1) xs) (entered l n b x) in
    let q = leaps-append (take i xs) (J.guarded l mid) in
    let m = leaps-guarded l mid in
    let t = item_entered l n b x a g w in
    let c = total-cut leap_of xs i in
    let d = leaps-from xs i (Leap l) e in
    let o = one_leap l in
    let r = leaps-range xs (i + 1) j (omega arith) in
    let u = leaps-from xs j x f in
    omega (arith, v, p, q, m, t, c, d, o, r, u)

-- ---- rules O, L and I keep their number

pub same_leaps : (k : MoveKind) (l : ℕ) (p q : Point) → MovesBy k l p q → leaps (trees_of q.body) ≡ leaps (trees_of p.body)
same_leaps Out l p q h =
    let t = out_parts l p q h in
    let e = body_fewer 0 p.body q.body h.outer t.list (moved_out l h.last.item h.last.branch p.at.item t.list) t.list_is t.body
    (out_leaps l h.last.item p.at.item h.last.branch t.list t.item t.inner t.item_is t.inner_is t.leap t.branch) in
    omega (arith, e)
same_leaps Lift l p q h =
    let t = lift_parts l p q h in
    let e = body_fewer 0 p.body q.body p.at.steps t.list (lifted l p.at.item h.place t.list) t.list_is t.body
    (lifted_leaps l p.at.item h.place t.list t.leap t.earlier) in
    omega (arith, e)
same_leaps Inward l p q h =
    let t = in_parts l p q h in
    let e = body_fewer 0 p.body q.body p.at.steps t.list (moved_in l h.number p.at.item h.place h.branch t.list) t.list_is t.body
    (in_leaps l h.number p.at.item h.place h.branch t.list t.item t.inner t.later t.leap t.item_is t.inner_is t.branch) in
    omega (arith, e)
same_leaps _ l p q h = absurd h
