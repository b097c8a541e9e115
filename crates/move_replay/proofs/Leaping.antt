-- Leaps that are left, and one move of a Leap.
use Rattle.std.proofs.Common.{◌≡◌, inl, inr, ℕ, ◌+◌, ◌<◌, true, true≢false, cond, List, [], ◌∷◌, Option, Some, None, is_some, IsTrue, IsFalse, option_and_then, slice_get, sym, ap, subst, ◌∙◌, arith}
use Rattle.c_tree.specs.declared.tree.Item.{Item, Leap, roll-Item, roll-out-Item}
use Rattle.c_tree.specs.declared.tree.Item.TheVariants.{rolls-Leap}
use Rattle.c_tree.specs.declared.tree.Function.{Function}
use Rattle.c_tree.specs.declared.tree.Path.{Path}
use Rattle.c_tree.specs.declared.tree.Top.TheVariants as T
use Rattle.c_tree.specs.InRange.{body_of}
use Rattle.c_tree.specs.Paths.{item_at}
use Rattle.c_tree.specs.Trees.{trees_of}
use Rattle.c_tree.specs.WellMade.{IsWellMade}
use Rattle.c_tree.proofs.MoveLemmas.{some_same}
use Rattle.label_offsets.specs.Leaps.{leaps_from, first}
use Rattle.label_offsets.specs.Marks.{label_at}
use Rattle.label_offsets.proofs.ChoiceLaws.{one_land}
use Rattle.label_offsets.proofs.FirstFound.{first_found}
use Rattle.label_offsets.proofs.MarkLaws.{leap_of_label}
use Rattle.report_moves.specs.declared.moves.Move.{Move}
use Rattle.report_moves.specs.declared.moves.MoveKind.{MoveKind}
use Rattle.move_order_laws.specs.Leaps.{leaps}
use Rattle.move_order_laws.specs.MoveFunctionCounts.{joined}
use Rattle.move_order_laws.specs.Next.{Point}
use Rattle.move_order_laws.proofs.NoLeaps.{no_leaps}
use Rattle.move_order_laws.proofs.OneDerivation.{leap_there, same_label}
use Rattle.move_order_laws.proofs.OneMove.{one_move, join_alone}
use Rattle.move_bodies.specs.Moving.{MovesTo, IsMove}
use Rattle.move_bodies.specs.Lawful.{IsLawfulMove, IsMade}
use Rattle.whole_laws.proofs.Flattened.{body_is}
use Rattle.restructure_laws.specs.Lawful.{IsLeapMoved, IsSimplifiedBy, IsMovedBy, this_function, none, more}
use Rattle.restructure_laws.specs.Replayed.{IsTopWellMade, top_leaps}
use Rattle.restructure_laws.proofs.Whole.{lawful_laws}
use Rattle.restructure_laws.proofs.OneBody.{leap_some, moved_leap}

-- ---- Leaps

found_leap : (body : List Item) (at : Path) → first (leaps_from 0 body) ≡ Some at → 0 < leaps (trees_of body)
found_leap body at e =
    let f = first_found body at e in
    let x : f.item ≡ Leap f.label = sym (roll-out-Item f.item) ∙ ap roll-Item f.label_is ∙ rolls-Leap f.label in
    leap_some f.label body at (ap (option_and_then (λ a. slice_get a at.item)) f.list_is ∙ f.item_is ∙ ap Some x)

pub leap_yes : (body : List Item) (o : Option Path) → o ≡ first (leaps_from 0 body) → IsTrue (is_some o) → 0 < leaps (trees_of body)
leap_yes body None e h = absurd (true≢false (sym h))
leap_yes body (Some at) e h = found_leap body at (sym e)

pub leap_no : (body : List Item) → IsWellMade (trees_of body) → (o : Option Path) → o ≡ first (leaps_from 0 body) → IsFalse (is_some o) →
    leaps (trees_of body) ≡ 0
leap_no body w None e h = no_leaps body w (sym e)
leap_no body w (Some at) e h = absurd (true≢false h)

pub leap_at_path : (f : Function) (body : List Item) (at : Path) (o : Option ℕ) → f.body ≡ Some body → o ≡ label_at body at → IsTrue (is_some o) →
    0 < leaps (body_of f)
leap_at_path f body at None e h t = absurd (true≢false (sym t))
leap_at_path f body at (Some l) e h t = let p = leap_some l body at (leap_of_label body at l h) in let b = ap leaps (body_is f body e) in omega (arith, p, b)

-- ---- one move of a Leap is of one kind

one_kind : (l : ℕ) (p : Point) → IsWellMade (trees_of p.body) → (to uo : Option Path) (k j : MoveKind) (new other : List Item) →
    MovesTo to k l p new → MovesTo uo j l p other → k ≡ j
one_kind l p w None None k j new other h g = h.0 ∙ sym g.0
one_kind l p w None (Some uo) k j new other h g =
    absurd (join_alone l p (one_land p.body w l p.at h.1.moves.applies.leap) j (record { body = other; at = uo }) new g h.1)
one_kind l p w (Some to) None k j new other h g =
    absurd (join_alone l p (one_land p.body w l p.at g.1.moves.applies.leap) k (record { body = new; at = to }) other h g.1)
one_kind l p w (Some to) (Some uo) k j new other h g =
    let q : Point = record { body = new; at = to } in
    let r : Point = record { body = other; at = uo } in
    (one_move l p (one_land p.body w l p.at (leap_there k l p q h)) k j q r h g).0

-- where the Leap moves by another kind, the move isn't lawful
pub other_kind : (labels : List (List ℕ)) (m : Move) (old done new : List Item) (l : ℕ) (k : MoveKind) (to : Option Path) →
    IsWellMade (trees_of old) → Some l ≡ label_at old m.path → IsMove l m.path k to old done → IsLeapMoved labels m old new → k ≡ m.kind
other_kind labels m old done new l k to w e a h =
    let p : Point = record { body = old; at = m.path } in
    let s = same_label h.label l (item_at old m.path.steps m.path.item) (moved_leap labels m old new h) (leap_of_label old m.path l e) in
    one_kind l p w to h.to k m.kind done new a.moves (subst (λ z. MovesTo h.to m.kind z p new) s h.moves.moves)

-- ---- functions

pub same_body : (f : Function) (a : List Item) → f.body ≡ Some a → f.flat ≡ true → IsTopWellMade (T.Function f) → IsWellMade (trees_of a)
same_body f a e flat w = subst IsWellMade (body_is f a e) (w flat)

-- a function with a Leap is moved by a move of it alone
pub no_move : (m : Move) (f : Function) (a : List Item) → f.body ≡ Some a → 0 < leaps (body_of f) →
    ((new : List Item) → IsLeapMoved f.labels m a new → ⊥) → (g : Function) → IsMovedBy m f g → ⊥
no_move m f a e p n g k =
    let s = some_same (sym k.body_is ∙ e) in
    elim k.made [
      | inl j ↦ n k.new (subst (λ z. IsLeapMoved f.labels m z k.new) s j)
      | inr z ↦ let i = z.leapless in let b = ap leaps (body_is f k.body k.body_is) in absurd (omega (arith, p, i, b))
    ]

-- and one without Leap by a simplification alone
pub no_simplification : (m : Move) (f : Function) → leaps (body_of f) ≡ 0 → (IsLawfulMove f m → ⊥) → (g : Function) → IsMovedBy m f g → ⊥
no_simplification m f z n g k = elim k.made [
  | inl j ↦
      let p = leap_some j.label k.body m.path (moved_leap f.labels m k.body k.new j) in
      let b = ap leaps (body_is f k.body k.body_is) in
      absurd (omega (arith, p, z, b))
  | inr s ↦ n (record { body = k.body; body_is = k.body_is; lawful = record { choice = s.made.choice; function = s.made.function; named = s.made.named } })
]

-- no Leap comes back by a simplification
pub stays_leapless : (m : Move) (f g : Function) → f.flat ≡ true → f.name ≡ m.function → leaps (body_of f) ≡ 0 → IsMade f g m → leaps (body_of g) ≡ 0
stays_leapless m f g e n z k =
    let b = ap leaps (body_is f k.body k.body_is) in
    let empty : leaps (trees_of k.body) ≡ 0 = omega (arith, b, z) in
    let simple : IsSimplifiedBy f.name f.labels m k.body k.new = record { leapless = empty; made = k.made } in
    let h : IsMovedBy m f g = record { body = k.body; new = k.new; flat = e; name = n; body_is = k.body_is; made = inr simple; result = k.result } in
    let old : top_leaps (T.Function f) ≡ leaps (body_of f) = ap (λ z. cond z (leaps (body_of f)) 0) e in
    let flat : g.flat ≡ true = ap (λ (z : Function). z.flat) k.result ∙ e in
    let new : top_leaps (T.Function g) ≡ leaps (body_of g) = ap (λ z. cond z (leaps (body_of g)) 0) flat in
    let j : joined (m ∷ []) + (0 + top_leaps (T.Function g)) ≡ 0 + top_leaps (T.Function f) =
    lawful_laws.joins (T.Function f ∷ []) (T.Function g ∷ []) (m ∷ []) (more (this_function [] h) none) in
    omega (arith, old, new, j, z)
