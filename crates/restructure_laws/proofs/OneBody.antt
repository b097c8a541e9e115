-- A lawful move makes one body of a body.
use Rattle.std.proofs.Common.{◌≡◌, ℕ, suc, ◌<◌, inl, inr, Bool, eqb, List, drop, Option, Some, None, slice_get, refl, sym, ap, ap₂, subst, ◌∙◌, arith}
use Rattle.c_tree.specs.declared.tree.Item.{Item, Leap}
use Rattle.c_tree.specs.declared.tree.Function.{Function}
use Rattle.c_tree.specs.declared.tree.Path.{Path}
use Rattle.c_tree.specs.Paths.{list_at, item_at, put_at}
use Rattle.c_tree.specs.Trees.{Tree, Forest, tree_of, trees_of}
use Rattle.c_tree.specs.Everywhere.{total_of}
use Rattle.c_tree.specs.WellMade.{IsWellMade}
use Rattle.c_tree.proofs.MoveLemmas.{some_same}
use Rattle.c_tree.proofs.RuleChanges.{stands}
use Rattle.c_tree.proofs.TreeLaws.{tree-Leap}
use Rattle.label_offsets.proofs.ChoiceLaws.{one_land}
use Rattle.report_moves.specs.declared.moves.Move.{Move}
use Rattle.report_moves.specs.declared.moves.MoveKind.{MoveKind}
use Rattle.report_moves.specs.declared.moves.MoveKind.TheVariants.{Join, Z2, Z3, Z5}
use Rattle.move_order_laws.specs.Leaps.{leap_of, leaps}
use Rattle.move_order_laws.specs.Next.{Point, MovesBy}
use Rattle.move_order_laws.proofs.ListTotals.{total-split, list_total}
use Rattle.move_order_laws.proofs.OneDerivation.{leap_there, same_label}
use Rattle.move_order_laws.proofs.OneMove.{one_join, one_move}
use Rattle.move_bodies.specs.Moving.{MovesTo}
use Rattle.move_bodies.specs.Lawful.{IsMadeIn}
use Rattle.guard_simplify.specs.declared.choice.Choice.{Choice}
use Rattle.guard_simplify.specs.Choice.{Among, barred, choices, repeat_label, repeat_of, neighbours, unread_guard}
use Rattle.move_laws.specs.Drops.{dropped}
use Rattle.guard_simplify.specs.Application.{applied_as, edited, IsEdited, IsDropped, IsApplied}
use Rattle.guard_simplify.proofs.Members.{OwnAt, Located, located}
use Rattle.reread_parts_laws.proofs.ItemMirrors.{forest_in, items_whole}
use Rattle.restructure_laws.specs.Lawful.{IsLeapMoved, IsSimplifiedBy}
use Rattle.restructure_laws.proofs.ReplayedBodies.{IsChanged}

-- ---- no two lists of items have the same trees

pub same_items : (f : Function) (xs ys : List Item) → trees_of xs ≡ trees_of ys → xs ≡ ys
same_items f xs ys e = sym (items_whole f xs) ∙ ap forest_in e ∙ items_whole f ys

-- ---- a Leap at a path

pub leap_some : (l : ℕ) (body : List Item) (at : Path) → item_at body at.steps at.item ≡ Some (Leap l) → 0 < leaps (trees_of body)
leap_some l body at e =
    let s = stands body at.steps at.item (Leap l) e in
    let a = total-split leap_of s.list at.item (Leap l) s.item_is in
    let b = list_total leap_of body at.steps s.list s.list_is in
    let c : total_of leap_of (tree_of (Leap l)) ≡ 1 = ap (total_of leap_of) (tree-Leap l) in
    omega (arith, a, b, c)

leap_at : (to : Option Path) (k : MoveKind) (l : ℕ) (p : Point) (new : List Item) → MovesTo to k l p new → item_at p.body p.at.steps p.at.item ≡ Some (Leap l)
leap_at None k l p new h = h.1.moves.applies.leap
leap_at (Some to) k l p new h = leap_there k l p (record { body = new; at = to }) h

pub moved_leap : (labels : List (List ℕ)) (m : Move) (old new : List Item) (h : IsLeapMoved labels m old new) →
    item_at old m.path.steps m.path.item ≡ Some (Leap h.label)
moved_leap labels m old new h = leap_at h.to m.kind h.label (record { body = old; at = m.path }) new h.moves.moves

-- ---- one move of a Leap

no_join : (l : ℕ) (p q : Point) (k : MoveKind) → k ≡ Join → MovesBy k l p q → ⊥
no_join l p q k e h = subst (λ z. MovesBy z l p q) e h

one_to : (l : ℕ) (k : MoveKind) (p : Point) (w : IsWellMade (trees_of p.body)) (to uo : Option Path) (new other : List Item) → MovesTo to k l p new →
    MovesTo uo k l p other → new ≡ other
one_to l k p w None None new other h g = one_join l p (one_land p.body w l p.at h.1.moves.applies.leap) new other h.1 g.1
one_to l k p w None (Some uo) new other h g = absurd (no_join l p (record { body = other; at = uo }) k h.0 g)
one_to l k p w (Some to) None new other h g = absurd (no_join l p (record { body = new; at = to }) k g.0 h)
one_to l k p w (Some to) (Some uo) new other h g =
    let q : Point = record { body = new; at = to } in
    let r : Point = record { body = other; at = uo } in
    let s = one_move l p (one_land p.body w l p.at (leap_there k l p q h)) k k q r h g in
    ap (λ (z : Point). z.body) s.1

one_leap : (labels : List (List ℕ)) (m : Move) (old new other : List Item) → IsWellMade (trees_of old) → IsLeapMoved labels m old new →
    IsLeapMoved labels m old other → new ≡ other
one_leap labels m old new other w h g =
    let p : Point = record { body = old; at = m.path } in
    let e = same_label h.label g.label (item_at old m.path.steps m.path.item) (moved_leap labels m old new h) (moved_leap labels m old other g) in
    one_to h.label m.kind p w h.to g.to new other h.moves.moves (subst (λ l. MovesTo g.to m.kind l p other) (sym e) g.moves.moves)

-- ---- one simplification

-- the label of a choice of this kind at an item
abbrev label_by : MoveKind → (ℕ → Bool) → Tree → Forest → Option ℕ
label_by Z2 bar x rest = repeat_label (repeat_of x)
label_by Z3 bar x rest = neighbours x rest
label_by Z5 bar x rest = unread_guard bar x
label_by _ bar x rest = None

own_label : (bar : ℕ → Bool) (i : ℕ) (x : Tree) (rest : Forest) (c : Choice) → OwnAt bar i x rest c → c.label ≡ label_by c.kind bar x rest
own_label bar i x rest c h = elim h [
  | inl a ↦ a.1 ∙ ap (λ k. label_by k bar x rest) (sym a.0)
  | inr s ↦ elim s [
    | inl a ↦ a.1 ∙ ap (λ k. label_by k bar x rest) (sym a.0)
    | inr s ↦ elim s [
      | inl a ↦ a.1 ∙ ap (λ k. label_by k bar x rest) (sym a.0)
      | inr s ↦ elim s [
        | inl a ↦ a.1 ∙ ap (λ k. label_by k bar x rest) (sym a.0)
        | inr a ↦ a.1 ∙ ap (λ k. label_by k bar x rest) (sym a.0)
      ]
    ]
  ]
]

-- the list and the item at the place of a choice are known
same_place : (xs : List Item) (c d : Choice) (bar : ℕ → Bool) (a : Located bar xs c) (b : Located bar xs d) → c.path ≡ d.path →
    (a.list ≡ b.list) × (a.item ≡ b.item)
same_place xs c d bar a b e =
    let l : Some a.list ≡ Some b.list = sym a.list_is ∙ ap (λ (p : Path). list_at xs p.steps) e ∙ b.list_is in
    let list = some_same l in
    let i : Some a.item ≡ Some b.item = sym a.item_is ∙ ap₂ (λ (z : List Item) (p : Path). slice_get z p.item) list e ∙ b.item_is in
    (list, some_same i)

-- a choice is known by its kind and its place
pub one_choice : (body : List Item) (c d : Choice) → Among c (choices (trees_of body)) → Among d (choices (trees_of body)) → c.kind ≡ d.kind →
    c.path ≡ d.path → c ≡ d
one_choice body c d h g k e =
    let bar : ℕ → Bool = λ l. barred l (trees_of body) in
    let a = located bar c.path.steps body c refl h in
    let b = located bar d.path.steps body d refl g in
    let s = same_place body c d bar a b e in
    let place = ap (λ (p : Path). p.item) e in
    let tree = ap tree_of s.1 in
    let rest = ap₂ (λ (n : ℕ) (z : List Item). trees_of (drop (suc n) z)) place s.0 in
    let x = own_label bar c.path.item (tree_of a.item) (trees_of (drop (suc c.path.item) a.list)) c a.shape in
    let y = own_label bar d.path.item (tree_of b.item) (trees_of (drop (suc d.path.item) b.list)) d b.shape in
    let label : c.label ≡ d.label = x ∙ (λ i. label_by (k i) bar (tree i) (rest i)) ∙ sym y in
    λ i. record { kind = k i; label = label i; path = e i }

one_edit : (f : Function) (c : Choice) (old new other : List Item) → IsEdited c old new → IsEdited c old other → new ≡ other
one_edit f c old new other h g =
    let l = some_same (sym h.list_is ∙ g.list_is) in
    let e : trees_of h.other ≡ trees_of g.other = h.trees ∙ ap (λ z. edited c.kind c.path.item (trees_of z)) l ∙ sym g.trees in
    h.put ∙ ap (put_at old c.path.steps) (same_items f h.other g.other e) ∙ sym g.put

one_drop : (f : Function) (c : Choice) (old new other : List Item) → IsDropped c old new → IsDropped c old other → new ≡ other
one_drop f c old new other h g =
    let l = some_same (sym h.label_is ∙ g.label_is) in
    same_items f new other (h.trees ∙ ap (λ m. dropped (eqb m) (trees_of old)) l ∙ sym g.trees)

one_applied : (f : Function) (k : MoveKind) (c : Choice) (old new other : List Item) → applied_as k c old new → applied_as k c old other → new ≡ other
one_applied f Z5 c old new other h g = one_drop f c old new other h g
one_applied f _ c old new other h g = one_edit f c old new other h g

one_simplification : (f : Function) (name : List ℕ) (labels : List (List ℕ)) (m : Move) (old new other : List Item) → IsMadeIn name labels m old new →
    IsMadeIn name labels m old other → new ≡ other
one_simplification f name labels m old new other h g =
    let e = one_choice old h.choice g.choice h.named.among g.named.among (h.named.kind ∙ sym g.named.kind) (h.named.path ∙ sym g.named.path) in
    one_applied f h.choice.kind h.choice old new other h.applied (subst (λ (c : Choice). IsApplied c old other) (sym e) g.applied)

-- ---- either

leap_or : (name : List ℕ) (labels : List (List ℕ)) (m : Move) (old new other : List Item) → IsLeapMoved labels m old new →
    IsSimplifiedBy name labels m old other → ⊥
leap_or name labels m old new other h g =
    let p = leap_some h.label old m.path (moved_leap labels m old new h) in
    let z = g.leapless in
    omega (arith, p, z)

pub one_body : (f : Function) (name : List ℕ) (labels : List (List ℕ)) (m : Move) (old new other : List Item) → IsWellMade (trees_of old) →
    IsChanged name labels m old new → IsChanged name labels m old other → new ≡ other
one_body f name labels m old new other w h g = elim h [
  | inl j ↦ elim g [ inl i ↦ one_leap labels m old new other w j i | inr z ↦ absurd (leap_or name labels m old new other j z) ]
  | inr y ↦ elim g [ inl i ↦ absurd (leap_or name labels m old other new i y) | inr z ↦ one_simplification f name labels m old new other y.made z.made ]
]
