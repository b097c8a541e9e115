-- Items at the front of a body that stand before both a Leap and its Land: no move of the Leap touches them.
use Rattle.std.proofs.Common.{◌≡◌, ℕ, zero, suc, ◌+◌, ◌<◌, ◌≤◌, ℤ, List, [], ◌∷◌, ◌++◌, Option, Some, None, Bool, true, false, cond, nat_lt, take, drop, slice_get, slice_set, slice_range, refl, sym, ap, subst, ◌∙◌, append_assoc, arith}
use Rattle.std.specs.Option.{option_map_or}
use Rattle.c_tree.specs.declared.tree.Item.{Item, Leap, Land, Do}
use Rattle.c_tree.specs.declared.tree.Test.{On}
use Rattle.c_tree.specs.declared.tree.Branch.{Branch}
use Rattle.c_tree.specs.declared.tree.Path.{Path}
use Rattle.c_tree.specs.declared.tree.Step.{Step}
use Rattle.c_tree.specs.Paths.{child, with_child, put_at, item_at}
use Rattle.c_tree.specs.Join.{guarded, joined_after, joined_before, Joins}
use Rattle.c_tree.specs.Lift.{Lifts}
use Rattle.c_tree.specs.Inward.{entered, MovesIn}
use Rattle.c_tree.specs.Outward.{left, moved_out_at, path_outside}
use Rattle.c_tree.specs.Labels.{lands, lands_inside}
use Rattle.c_tree.specs.Trees.{tree_of, trees_of}
use Rattle.c_tree.specs.WellMade.{IsWellMade}
use Rattle.c_tree.proofs.TreeLaws.{trees-none}
use Rattle.c_tree.proofs.RuleChanges.{held_some}
use Rattle.label_offsets.specs.Marks.{label_at}
use Rattle.label_offsets.specs.Standing.{outermost_of, outermost}
use Rattle.label_offsets.proofs.HeldLaws.{lands-first, held-is}
use Rattle.label_offsets.proofs.PlaceCounts.{counted, counted-Land, item_lands, land_inside}
use Rattle.label_offsets.proofs.ChoiceLaws.{one_land}
use Rattle.report_moves.specs.declared.moves.MoveKind.{MoveKind}
use Rattle.report_moves.specs.declared.moves.MoveKind.TheVariants.{Out, Lift, Inward}
use Rattle.move_order_laws.specs.declared.kept.Kept.{Kept}
use Rattle.move_order_laws.specs.Next.{Point, MovesBy}
use Rattle.move_order_laws.specs.Derivations.{Eliminates, joins, moves}
use Rattle.move_bodies.specs.Moving.{IsUnderway}
use Rattle.move_bodies.proofs.Applied.{leap_at}

-- the front of a list of which an item, or what is behind a place, is another

set_front : {A : Type 0} (n k : ℕ) (xs : List A) (y : A) → n ≤ k → take n (slice_set xs k y) ≡ take n xs
set_front zero k xs y h = refl
set_front (suc n) k [] y h = refl
set_front (suc n) zero (x ∷ xs) y h = absurd (omega (arith, h))
set_front (suc n) (suc k) (x ∷ xs) y h = ap (λ l. x ∷ l) (set_front n k xs y (omega (arith, h)))

cut_front : {A : Type 0} (n i : ℕ) (xs ys : List A) (x : A) → n ≤ i → slice_get xs i ≡ Some x → take n (take i xs ++ ys) ≡ take n xs
cut_front zero i xs ys x h e = refl
cut_front (suc n) zero xs ys x h e = absurd (omega (arith, h))
cut_front (suc n) (suc i) [] ys x h e = cc
cut_front (suc n) (suc i) (z ∷ xs) ys x h e = ap (λ l. z ∷ l) (cut_front n i xs ys x (omega (arith, h)) e)

cut_front_before : {A : Type 0} (n i : ℕ) (xs ys zs : List A) (x : A) → n ≤ i → slice_get xs i ≡ Some x → take n (take i xs ++ ys ++ zs) ≡ take n xs
cut_front_before n i xs ys zs x h e = ap (take n) (append_assoc (take i xs) ys zs) ∙ cut_front n i xs (ys ++ zs) x h e

-- a list is put at steps that don't go into the front
put_front : (n : ℕ) (xs : List Item) (s : Step) (ss : List Step) (w : List Item) → n ≤ s.item → take n (put_at xs (s ∷ ss) w) ≡ take n xs
put_front n xs s ss w h = by_item (slice_get xs s.item) where
  by_child : (x : Item) (o : Option (List Item)) → take n (option_map_or (λ a. slice_set xs s.item (with_child s.branch (put_at a ss w) x)) o xs) ≡ take n xs
  by_child x None = refl
  by_child x (Some a) = set_front n s.item xs (with_child s.branch (put_at a ss w) x) h

  by_item : (o : Option Item) → take n (option_map_or (λ x. option_map_or (λ a. slice_set xs s.item (with_child s.branch (put_at a ss w) x))
      (child s.branch x) xs) o xs) ≡ take n xs
  by_item None = refl
  by_item (Some x) = by_child x (child s.branch x)

-- the Land stands behind the front

module _ (l : ℕ) where
  behind : (n j : ℕ) (xs : List Item) (x : Item) → slice_get xs j ≡ Some x → 0 < counted l x → lands l (trees_of (take n xs)) ≡ 0 → n ≤ j
  behind zero j xs x e c z = omega arith
  behind (suc n) j [] x e c z = cc
  behind (suc n) zero (y ∷ xs) x e c z =
      let h : y ≡ x = cc in
      let g = ap (counted l) h in
      absurd (omega (arith, g, c, z, lands-first l y (take n xs)))
  behind (suc n) (suc j) (y ∷ xs) x e c z = omega (arith, behind n j xs x e c (omega (arith, z, lands-first l y (take n xs))))

  free : (n m : ℕ) (xs : List Item) (x : Item) → n ≤ m → slice_get xs m ≡ Some x → 0 < counted l x → lands l (trees_of xs) ≡ 1 →
      lands l (trees_of (take n xs)) ≡ 0
  free zero m xs x h e c one = ap (lands l) trees-none
  free (suc n) m [] x h e c one = cc
  free (suc n) zero (y ∷ xs) x h e c one = absurd (omega (arith, h))
  free (suc n) (suc m) (y ∷ xs) x h e c one =
      let here = lands-first l y xs in
      let some = item_lands l xs m x e in
      let rest = free n m xs x (omega (arith, h)) e c (omega (arith, one, here, some, c)) in
      omega (arith, rest, one, here, some, c, lands-first l y (take n xs))

  -- the item in which the Land stands, or that it is
  place_item : (body : List Item) (ss : List Step) (i : ℕ) → item_at body ss i ≡ Some (Land l) →
      (x : Item) × (slice_get body (outermost_of ss i) ≡ Some x) × (0 < counted l x)
  place_item body [] i e = (Land l, e, counted-Land l)
  place_item body (s ∷ ss) i e =
      let h = land_inside l body s ss i e in
      (h.item, h.item_is, omega (arith, h.inside, held-is l h.item))

  -- where the front ends before the Land, it has none
  pub free_front : (body : List Item) (at land : Path) (n : ℕ) → IsWellMade (trees_of body) → label_at body at ≡ Some l →
      item_at body land.steps land.item ≡ Some (Land l) → n ≤ outermost land → lands l (trees_of (take n body)) ≡ 0
  free_front body at land n w leap there h =
      let p = place_item body land.steps land.item there in
      free n (outermost land) body p.0 h p.1 p.2 (one_land body w l at (leap_at body at l leap))

  -- one move

  module _ (n : ℕ) where
    join_front : (body : List Item) (ss : List Step) (i j : ℕ) (new : List Item) → Joins l i j ss body new → n ≤ outermost_of ss i →
        lands l (trees_of (take n body)) ≡ 0 → take n new ≡ take n body
    join_front body [] i j new m h z =
        let k = behind n j body (Land l) m.applies.land (counted-Land l) z in
        ap (take n) m.body ∙ by_order (nat_lt i j) k where
          by_order : (b : Bool) → n ≤ j → take n (cond b (joined_after l i j body) (joined_before l i j body)) ≡ take n body
          by_order true k = cut_front_before n i body (guarded l (slice_range body (i + 1) j)) (drop j body) (Leap l) h m.applies.leap
          by_order false k = cut_front n j body (Do (slice_range body j i) (On l) ∷ drop (i + 1) body) (Land l) k m.applies.land
    join_front body (s ∷ ss) i j new m h z = ap (take n) m.body ∙ put_front n body s ss _ h

    lift_front : (body : List Item) (ss : List Step) (i j : ℕ) (new : List Item) (to : Path) → Lifts l i j ss body new to → n ≤ outermost_of ss i →
        lands l (trees_of (take n body)) ≡ 0
        → (take n new ≡ take n body) × (n ≤ outermost to)
    lift_front body [] i j new to m h z =
        let x = held_some (λ y. 0 < lands_inside l (tree_of y)) (item_at body [] j) m.applies.held in
        let k = behind n j body x.0 x.1 (omega (arith, x.2, held-is l x.0)) z in (
          ap (take n) m.body ∙ cut_front n j body (Do (Leap l ∷ slice_range body j i) (On l) ∷ drop (i + 1) body) x.0 k x.1,
          subst (λ p. n ≤ outermost p) (sym m.path) k,
        )
    lift_front body (s ∷ ss) i j new to m h z = (ap (take n) m.body ∙ put_front n body s ss _ h, subst (λ p. n ≤ outermost p) (sym m.path) h)

    in_front : (number : ℤ) (body : List Item) (ss : List Step) (i j : ℕ) (b : Branch) (new : List Item) (to : Path) →
        MovesIn l number i j b ss body new to → n ≤ outermost_of ss i
        → (take n new ≡ take n body) × (n ≤ outermost to)
    in_front number body [] i j b new to m h = (
      ap (take n) m.body ∙ by_item (slice_get body j),
      subst (λ p. n ≤ outermost p) (sym m.path)
          (omega (arith, h)),
    ) where
      by_item : (o : Option Item) → take n
          (option_map_or (λ x. take i body ++ guarded l (slice_range body (i + 1) j) ++ entered l number b x ∷ drop (j + 1) body) o body) ≡ take n body
      by_item None = refl
      by_item (Some x) = cut_front_before n i body (guarded l (slice_range body (i + 1) j)) (entered l number b x ∷ drop (j + 1) body) (Leap l) h m.applies.leap
    in_front number body (s ∷ ss) i j b new to m h = (ap (take n) m.body ∙ put_front n body s ss _ h, subst (λ p. n ≤ outermost p) (sym m.path) h)

    out_front : (body : List Item) (outer : List Step) (last : Step) (i : ℕ) → n ≤ outermost_of (outer ++ last ∷ []) i
        → (take n (moved_out_at l outer last i body) ≡ take n body) × (n ≤ outermost (path_outside outer last))
    out_front body [] last i h = (by_item (slice_get body last.item) refl, omega (arith, h)) where
      by_item : (o : Option Item) → slice_get body last.item ≡ o → take n
          (option_map_or (λ x. take last.item body ++ left l last.branch i x ∷ Leap l ∷ drop (last.item + 1) body) o body) ≡ take n body
      by_item None e = refl
      by_item (Some x) e = cut_front n last.item body (left l last.branch i x ∷ Leap l ∷ drop (last.item + 1) body) x h e
    out_front body (s ∷ outer) last i h = (put_front n body s outer _ h, h)

    move_front : (k : MoveKind) (p q : Point) → MovesBy k l p q → n ≤ outermost p.at → lands l (trees_of (take n p.body)) ≡ 0 →
        (take n q.body ≡ take n p.body) × (n ≤ outermost q.at)
    move_front Out p q m h z =
        let f = out_front p.body m.outer m.last p.at.item (subst (λ ss. n ≤ outermost_of ss p.at.item) m.steps h) in
        (ap (take n) m.moves.body ∙ f.0, subst (λ a. n ≤ outermost a) (sym m.moves.path) f.1)
    move_front Lift p q m h z = lift_front p.body p.at.steps p.at.item m.place q.body q.at m.moves h z
    move_front Inward p q m h z = in_front m.number p.body p.at.steps p.at.item m.place m.branch q.body q.at m.moves h
    move_front _ p q m h z = absurd m

    -- all moves of the Leap
    eliminated_front : {p : Point} {ms : List Kept} {new : List Item} → Eliminates l p ms new → n ≤ outermost p.at →
        lands l (trees_of (take n p.body)) ≡ 0 → take n new ≡ take n p.body
    eliminated_front (joins p new j) h z = join_front p.body p.at.steps p.at.item j.place new j.moves h z
    eliminated_front (moves k p q ms new m e) h z =
        let f = move_front k p q m h z in
        eliminated_front e f.1 (ap (λ xs. lands l (trees_of xs)) f.0 ∙ z) ∙ f.0

    pub same_front : (at : Path) (old new : List Item) (before after : List Kept) → IsUnderway l at None old new before after → n ≤ outermost at →
        lands l (trees_of (take n old)) ≡ 0 → take n new ≡ take n old
    same_front at old new before after u h z = eliminated_front u.continues h z
