-- Each well made body has a derivation, and how much deeper it makes the body.
use Rattle.std.proofs.Common.{◌≡◌, ◌⊎◌, inl, inr, ℕ, zero, suc, ◌+◌, ◌*◌, ◌≤◌, ◌<◌, List, [], ◌∷◌, ◌++◌, Option, Some, None, length, take, drop, slice_get, refl, sym, ap, ◌∙◌, arith}
use Rattle.std.specs.Option.{option_map_or}
use Rattle.std.proofs.lemmas.List.{length-append, length-take-le}
use Rattle.std.proofs.lemmas.Option.{slice_get_within}
use Rattle.c_tree.specs.declared.tree.Item.{Item, Leap, Land, roll-Item, roll-out-Item}
use Rattle.c_tree.specs.declared.tree.Item.TheVariants.{rolls-Leap}
use Rattle.c_tree.specs.declared.tree.Path.{Path}
use Rattle.c_tree.specs.Paths.{item_at}
use Rattle.c_tree.specs.Outward.{left, moved_out}
use Rattle.c_tree.specs.Trees.{trees_of}
use Rattle.c_tree.specs.WellMade.{IsWellMade}
use Rattle.c_tree.proofs.RuleChanges.{stands, item_there}
use Rattle.label_offsets.specs.Leaps.{leaps_from, first}
use Rattle.label_offsets.proofs.FirstFound.{first_found}
use Rattle.label_offsets.proofs.ChoiceLaws.{one_land}
use Rattle.report_moves.specs.declared.moves.MoveKind.{MoveKind}
use Rattle.report_moves.specs.declared.moves.MoveKind.TheVariants.{Out, Lift, Inward, Join}
use Rattle.move_order_laws.specs.Levels.{moves_left}
use Rattle.move_order_laws.specs.Leaps.{leaps}
use Rattle.move_order_laws.specs.Nesting.{nesting}
use Rattle.move_order_laws.specs.Next.{Point, GoesOut, IsJoined, MovesBy, Goes, stays, goes}
use Rattle.move_order_laws.specs.declared.kept.Kept.{Kept}
use Rattle.move_order_laws.specs.Derivations.{Eliminates, joins, moves, Derives, ends, chooses}
use Rattle.move_order_laws.specs.MoveOrderLaws.{HasLeap, IsMovable, IsJoinable, NextMoveLaws, CountLaws, NestingLaws, HasDerivation, DerivationLaws}
use Rattle.move_order_laws.proofs.LandLevel.{land_level}
use Rattle.move_order_laws.proofs.Parts.{lift_parts, out_parts, in_parts, lifted_list, entered_list, left_list, get_middle}
use Rattle.move_order_laws.proofs.MovesLeft.{left_most, fewer, all_fewer, join_some}
use Rattle.move_order_laws.proofs.Depths.{no_deeper_on_the_way, no_deeper_joined}
use Rattle.move_order_laws.proofs.OneMove.{join_alone, one_join, one_move}
use Rattle.move_order_laws.proofs.OneDerivation.{leap_there, leap_first, well_made_moved, well_made_joined, well_made_eliminated, well_made_derived, unique}
use Rattle.move_order_laws.proofs.JoinCounts.{eliminated_one, derived_joins}
use Rattle.move_order_laws.proofs.NoLeaps.{no_leaps}
use Rattle.move_order_laws.proofs.SomeMove.{SomeMove, SomeJoin, some_move}

-- the Leap after a move

leap_out : (l : ℕ) (p q : Point) → GoesOut l p q → HasLeap l q
leap_out l p q h =
    let t = out_parts l p q h in
    let n = slice_get_within t.list h.last.item t.item t.item_is in
    let x = left l h.last.branch p.at.item t.item in
    let front = take h.last.item t.list in
    let back = drop (h.last.item + 1) t.list in
    let made : moved_out l h.last.item h.last.branch p.at.item t.list ≡ (front ++ x ∷ []) ++ Leap l ∷ back =
    ap (λ o. option_map_or (λ x. take h.last.item t.list ++ left l h.last.branch p.at.item x ∷ Leap l ∷ drop (h.last.item + 1) t.list) o t.list)
    t.item_is ∙ one_more front x (Leap l ∷ back) in
    let size : length (front ++ x ∷ []) ≡ h.last.item + 1 = length-append front (x ∷ []) ∙ ap (λ m. m + 1)
    (length-take-le h.last.item t.list (omega (arith, n))) in
    item_there q.body q.at.steps q.at.item (moved_out l h.last.item h.last.branch p.at.item t.list) (Leap l) (left_list l p q h.outer h.last t)
    (ap (slice_get (moved_out l h.last.item h.last.branch p.at.item t.list)) t.after ∙ ap (λ z. slice_get z (h.last.item + 1)) made ∙
    get_middle (front ++ x ∷ []) back (Leap l) (h.last.item + 1) size) where
      one_more : {A : Type 0} (ys : List A) (y : A) (zs : List A) → ys ++ y ∷ zs ≡ (ys ++ y ∷ []) ++ zs
      one_more [] y zs = refl
      one_more (w ∷ ys) y zs = ap (λ v. w ∷ v) (one_more ys y zs)

pub leap_after : (k : MoveKind) (l : ℕ) (p q : Point) → MovesBy k l p q → HasLeap l q
leap_after Out l p q h = leap_out l p q h
leap_after Lift l p q h = let t = lift_parts l p q h in item_there q.body q.at.steps q.at.item _ (Leap l) (lifted_list l p q h.place t)
    (ap (slice_get (Leap l ∷ _)) t.first)
leap_after Inward l p q h = let t = in_parts l p q h in item_there q.body q.at.steps q.at.item _ (Leap l)
    (entered_list l p q h.number h.place h.branch t) (ap (slice_get (Leap l ∷ _)) t.first)
leap_after _ l p q h = absurd h

-- there is an elimination

record Elimination (l : ℕ) (p : Point) : Type 0 where
  kept : List Kept
  new : List Item
  eliminates : Eliminates l p kept new

one_more_move : (l : ℕ) (p : Point) (s : SomeMove l p) → Elimination l s.next → Elimination l p
one_more_move l p s e = record {
  kept = record { kind = s.kind; label = l; path = p.at } ∷ e.kept;
  new = e.new;
  eliminates = moves s.kind p s.next e.kept e.new s.move e.eliminates;
}

at_once : (l : ℕ) (p : Point) → SomeJoin l p → Elimination l p
at_once l p s = record { kept = record { kind = Join; label = l; path = p.at } ∷ []; new = s.body; eliminates = joins p s.body s.join }

elimination : (n l : ℕ) (p : Point) → moves_left l p.body p.at ≤ n → IsWellMade (trees_of p.body) → HasLeap l p → Elimination l p
elimination zero l p h w leap = elim (some_move l p w leap) [
  | inl s ↦ let f = fewer s.kind l p s.next s.move (one_land p.body w l p.at leap) in absurd (omega (arith, f, h))
  | inr s ↦ at_once l p s
]
elimination (suc n) l p h w leap = elim (some_move l p w leap) [
  | inl s ↦
      let f = fewer s.kind l p s.next s.move (one_land p.body w l p.at leap) in
      one_more_move l p s (elimination n l s.next (omega (arith, f, h)) (well_made_moved s.kind l p s.next s.move w) (leap_after s.kind l p s.next s.move))
  | inr s ↦ at_once l p s
]

-- which leaves fewer Leaps

pub eliminated_leaps : (l : ℕ) {p : Point} {ms : List Kept} {new : List Item} → Eliminates l p ms new → leaps (trees_of new) < leaps (trees_of p.body)
eliminated_leaps l e = let f = eliminated_one l e in omega (arith, f)

-- there is a derivation

found_leap : (body : List Item) (at : Path) → first (leaps_from 0 body) ≡ Some at → (l : ℕ) × HasLeap l (record { body = body; at = at })
found_leap body at e =
    let f = first_found body at e in
    let x : f.item ≡ Leap f.label = sym (roll-out-Item f.item) ∙ ap roll-Item f.label_is ∙ rolls-Leap f.label in
    (f.label, item_there body at.steps at.item f.list (Leap f.label) f.list_is (f.item_is ∙ ap (λ z. Some z) x))

module _ (body : List Item) (w : IsWellMade (trees_of body))
    (rest : (mid : List Item) → leaps (trees_of mid) < leaps (trees_of body) → IsWellMade (trees_of mid) → HasDerivation mid) where
  step : (at : Path) → first (leaps_from 0 body) ≡ Some at → (l : ℕ) (e : Elimination l (record { body = body; at = at })) → HasDerivation e.new →
      HasDerivation body
  step at f l e d = record { moves = e.kept ++ d.moves; new = d.new; derives = chooses body at l e.kept d.moves e.new d.new f e.eliminates d.derives }

  by_first : (o : Option Path) → first (leaps_from 0 body) ≡ o → HasDerivation body
  by_first None e = record { moves = []; new = body; derives = ends body e }
  by_first (Some at) f =
      let l = found_leap body at f in
      let p : Point = record { body = body; at = at } in
      let e = elimination (moves_left l.0 body at) l.0 p (omega arith) w l.1 in
      step at f l.0 e (rest e.new (eliminated_leaps l.0 e.eliminates) (well_made_eliminated l.0 e.eliminates w))

derivation : (n : ℕ) (body : List Item) → leaps (trees_of body) ≤ n → IsWellMade (trees_of body) → HasDerivation body
derivation zero body h w = by_first body w (λ mid f v. absurd (omega (arith, f, h))) (first (leaps_from 0 body)) refl
derivation (suc n) body h w = by_first body w (λ mid f v. derivation n mid (omega (arith, f, h)) v) (first (leaps_from 0 body)) refl

-- what an elimination is, as the moves before its join

record Way (l : ℕ) (p : Point) (ms : List Kept) (new : List Item) : Type 0 where
  count : ℕ
  last : Point
  goes_there : Goes l count p last
  join : IsJoined l last new
  size : length ms ≡ count + 1

way : (l : ℕ) {p : Point} {ms : List Kept} {new : List Item} → Eliminates l p ms new → Way l p ms new
way l (joins p new j) = record { count = 0; last = p; goes_there = stays p; join = j; size = refl }
way l (moves k p q ms new m e) =
    let r = way l e in
    let s = r.size in
    record { count = suc r.count; last = r.last; goes_there = goes k m r.goes_there; join = r.join; size = omega (arith, s) }

bounded : (l : ℕ) (p : Point) (land : Path) (ms : List Kept) (new : List Item) → IsWellMade (trees_of p.body) → Eliminates l p ms new →
    item_at p.body land.steps land.item ≡ Some (Land l)
    → length ms ≤ length p.at.steps + length land.steps + 3
bounded l p land ms new w e h =
    let leap = leap_first l e in
    let one = one_land p.body w l p.at leap in
    let r = way l e in
    let f = (all_fewer l r.goes_there one).0 in
    let s = join_some l r.last new r.join in
    let t = stands p.body p.at.steps p.at.item (Leap l) leap in
    let m = left_most l p.body p.at t.list t.list_is in
    let v = land_level l p.body land.steps land.item h one in
    let z = r.size in
    omega (arith, f, s, m, v, z)

leap_last : (l : ℕ) {n : ℕ} {p q : Point} → Goes l n p q → HasLeap l p → HasLeap l q
leap_last l (stays p) h = h
leap_last l (goes k {p = p} {q = r} m g) h = leap_last l g (leap_after k l p r m)

on_the_way : (l : ℕ) {n : ℕ} {p q : Point} → Goes l n p q → IsWellMade (trees_of p.body) → nesting (trees_of q.body) ≤ nesting (trees_of p.body) + 3
on_the_way l (stays p) w = omega arith
on_the_way l (goes k {p = p} {q = r} {r = q} m g) w =
    let leap = leap_there k l p r m in
    let t = stands q.body q.at.steps q.at.item (Leap l) (leap_last l g (leap_after k l p r m)) in
    no_deeper_on_the_way l (goes k m g) t.list t.list_is t.item_is (one_land p.body w l p.at leap)

joined : (l : ℕ) (p : Point) (ms : List Kept) (new : List Item) → IsWellMade (trees_of p.body) → Eliminates l p ms new →
    nesting (trees_of new) ≤ nesting (trees_of p.body) + 3
joined l p ms new w e =
    let one = one_land p.body w l p.at (leap_first l e) in
    let r = way l e in
    no_deeper_joined l new r.goes_there r.join one (all_fewer l r.goes_there one).1

derived : {body : List Item} {ms : List Kept} {new : List Item} → Derives body ms new → IsWellMade (trees_of body) →
    nesting (trees_of new) ≤ nesting (trees_of body) + 3 * leaps (trees_of body)
derived (ends body e) w = omega arith
derived (chooses body at l ms ns mid new f e d) w =
    let a = joined l (record { body = body; at = at }) ms mid w e in
    let b = derived d (well_made_eliminated l e w) in
    let c = eliminated_leaps l e in
    omega (arith, a, b, c)

pub none_left : {body : List Item} {ms : List Kept} {new : List Item} → Derives body ms new → first (leaps_from 0 new) ≡ None
none_left (ends body e) = e
none_left (chooses body at l ms ns mid new f e d) = none_left d

-- the laws

movable : (l : ℕ) (p : Point) → SomeMove l p ⊎ SomeJoin l p → IsMovable l p ⊎ IsJoinable l p
movable l p s = elim s [
  | inl m ↦ inl (record { kind = m.kind; next = m.next; move = m.move })
  | inr j ↦ inr (record { body = j.body; join = j.join })
]

pub next_move_laws : NextMoveLaws
next_move_laws = record {
  some = λ l p w h. movable l p (some_move l p w h);
  one = λ l p q r j k w m n. one_move l p (one_land p.body w l p.at (leap_there j l p q m)) j k q r m n;
  one_join = λ l p new other w j i. one_join l p (one_land p.body w l p.at j.moves.applies.leap) new other j i;
  join_alone = λ l p q k new w m j. join_alone l p (one_land p.body w l p.at j.moves.applies.leap) k q new m j;
  stands = λ l p q k m. leap_after k l p q m;
  well_made = λ l p q k w m. well_made_moved k l p q m w;
  joined_well_made = λ l p new w j. well_made_joined l p new j w;
}

pub count_laws : CountLaws
count_laws = record {
  fewer = λ l p q k w m. fewer k l p q m (one_land p.body w l p.at (leap_there k l p q m));
  bounded = bounded;
  joins = λ body ms new w d. derived_joins d w;
}

pub nesting_laws : NestingLaws
nesting_laws = record { on_the_way = λ l n p q w g. on_the_way l g w; joined = joined; derived = λ body ms new w d. derived d w }

pub derivation_laws : DerivationLaws
derivation_laws = record {
  some = λ body w. derivation (leaps (trees_of body)) body (omega arith) w;
  one = λ body ms ns new other w d e. unique body ms ns new other w d e;
  well_made = λ body ms new w d. well_made_derived d w;
  none_left = λ body ms new d. none_left d;
  no_leap = λ body ms new w d. no_leaps new (well_made_derived d w) (none_left d);
}
