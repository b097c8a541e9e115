-- A body has as many joins as it has Leaps.
use Rattle.std.proofs.Common.{◌≡◌, ℕ, ◌+◌, false, cond, List, [], ◌∷◌, refl, sym, ap, ◌∙◌, arith}
use Rattle.std.proofs.lemmas.List.Sums.{sum_by-append}
use Rattle.c_tree.specs.declared.tree.Item.{Item}
use Rattle.c_tree.specs.Trees.{trees_of}
use Rattle.c_tree.specs.WellMade.{IsWellMade}
use Rattle.report_moves.specs.declared.moves.MoveKind.{MoveKind}
use Rattle.report_moves.specs.declared.moves.MoveKind.TheVariants.{Out, Lift, Inward}
use Rattle.move_order_laws.specs.declared.kept.Kept.{Kept}
use Rattle.move_order_laws.specs.Leaps.{leaps}
use Rattle.move_order_laws.specs.Next.{Point, MovesBy}
use Rattle.move_order_laws.specs.MoveOrderCounts.{is_join, join_count}
use Rattle.move_order_laws.specs.Derivations.{Eliminates, joins, moves, Derives, ends, chooses}
use Rattle.move_order_laws.proofs.LeapsLeft.{one_fewer, same_leaps}
use Rattle.move_order_laws.proofs.NoLeaps.{no_leaps}
use Rattle.move_order_laws.proofs.OneDerivation.{well_made_eliminated}

no_join : (k : MoveKind) (l : ℕ) (p q : Point) → MovesBy k l p q → is_join k ≡ false
no_join Out l p q m = refl
no_join Lift l p q m = refl
no_join Inward l p q m = refl
no_join _ l p q m = absurd m

one_more : (m : Kept) (ms : List Kept) → is_join m.kind ≡ false → join_count (m ∷ ms) ≡ join_count ms
one_more m ms h =
    let a = sum_by-append (λ (m : Kept). cond (is_join m.kind) 1 0) (m ∷ []) ms in
    let n = ap (λ b. cond {A = ℕ} b 1 0) h in
    omega (arith, a, n)

-- a Leap has one join, which leaves one Leap fewer
eliminated_joins : (l : ℕ) {p : Point} {ms : List Kept} {new : List Item} → Eliminates l p ms new → join_count ms ≡ 1
eliminated_joins l (joins p new j) = refl
eliminated_joins l (moves k p q ms new m e) = one_more (record { kind = k; label = l; path = p.at }) ms (no_join k l p q m) ∙ eliminated_joins l e

pub eliminated_one : (l : ℕ) {p : Point} {ms : List Kept} {new : List Item} → Eliminates l p ms new → leaps (trees_of new) + 1 ≡ leaps (trees_of p.body)
eliminated_one l (joins p new j) = one_fewer l p new j
eliminated_one l (moves k p q ms new m e) = eliminated_one l e ∙ same_leaps k l p q m

-- a body has one for each Leap
pub derived_joins : {body new : List Item} {ms : List Kept} → Derives body ms new → IsWellMade (trees_of body) → join_count ms ≡ leaps (trees_of body)
derived_joins (ends body e) w = sym (no_leaps body w e)
derived_joins (chooses body at l ms ns mid new f e d) w =
    let a = sum_by-append (λ (m : Kept). cond (is_join m.kind) 1 0) ms ns in
    let b = eliminated_joins l e in
    let c = eliminated_one l e in
    let r = derived_joins d (well_made_eliminated l e w) in
    omega (arith, a, b, c, r)
