-- The kind of a move of a Leap is that of the rule by which the Leap stands to its Land.
use Rattle.std.proofs.Common.{◌≡◌, inl, inr, ℕ, ◌<◌, List, Option, Some, None, option_and_then, slice_get, refl, sym, ap, subst, ◌∙◌}
use Rattle.c_tree.specs.declared.tree.Item.{Item, Leap, Land}
use Rattle.c_tree.specs.declared.tree.Path.{Path}
use Rattle.c_tree.specs.Join.{Holds}
use Rattle.c_tree.specs.Labels.{lands}
use Rattle.c_tree.specs.Paths.{item_at}
use Rattle.c_tree.specs.Trees.{trees_of}
use Rattle.c_tree.specs.WellMade.{IsWellMade}
use Rattle.label_offsets.specs.declared.places.Rule.{Rule}
use Rattle.label_offsets.specs.declared.places.Rule.TheVariants.{SiblingBefore, SiblingAfter, InwardOf, LiftOf, Outward}
use Rattle.label_offsets.specs.Choice.{Applies, AreAlike, LeadsIn}
use Rattle.label_offsets.specs.Relation.{relation}
use Rattle.label_offsets.proofs.ChoiceLaws.{one_land, rule_applies}
use Rattle.label_offsets.proofs.OneRule.{one_rule}
use Rattle.report_moves.specs.declared.moves.Move.{Move}
use Rattle.report_moves.specs.declared.moves.MoveKind.{MoveKind}
use Rattle.report_moves.specs.declared.moves.MoveKind.TheVariants.{Out, Lift, Inward, Join}
use Rattle.move_order_laws.specs.Next.{Point, GoesIn, IsJoined, MovesBy}
use Rattle.move_order_laws.proofs.Parts.{in_parts}
use Rattle.move_order_laws.proofs.SomeDerivation.{next_move_laws}
use Rattle.move_order_laws.proofs.OneDerivation.{same_label}
use Rattle.move_bodies.specs.Moving.{MovesTo}
use Rattle.restructure_laws.specs.Lawful.{kind_of, IsLeapMoved}
use Rattle.restructure_laws.specs.ReplayMovesLaws.{CanBeMade}
use Rattle.restructure_laws.proofs.OneBody.{moved_leap}

-- ---- which rule a move is by

record ByRule (k : MoveKind) (l : ℕ) (p : Point) : Type 0 where
  rule : Rule
  place : Path
  applies : Applies rule l p.at place p.body
  kind : k ≡ kind_of rule

in_rule : (l : ℕ) (p q : Point) → GoesIn l p q → LeadsIn l p.at.item p.at.steps p.body
in_rule l p q h =
    let t = in_parts l p q h in
    record {
      place = h.place;
      branch = h.branch;
      item = t.item;
      later = t.later;
      there = ap (option_and_then (λ a. slice_get a h.place)) t.list_is ∙ t.item_is;
      construct = t.branch;
      held = subst (Holds (λ a. 0 < lands l (trees_of a))) (sym t.inner_is) t.held;
    }

move_rule : (k : MoveKind) (l : ℕ) (p q : Point) → MovesBy k l p q → ByRule k l p
move_rule Out l p q h = record {
  rule = Outward;
  place = p.at;
  applies =
      record { outer = h.outer; last = h.last; steps_are = h.steps; applies = h.moves.applies };
  kind = refl;
}
move_rule Lift l p q h = record { rule = LiftOf; place = p.at; applies = record { place = h.place; applies = h.moves.applies }; kind = refl }
move_rule Inward l p q h = record { rule = InwardOf; place = p.at; applies = in_rule l p q h; kind = refl }
move_rule _ l p q h = absurd h

join_rule : (k : MoveKind) (l : ℕ) (p : Point) (new : List Item) → k ≡ Join → IsJoined l p new → ByRule k l p
join_rule k l p new e h = record { rule = SiblingBefore; place = record { steps = p.at.steps; item = h.place }; applies = h.moves.applies; kind = e }

to_rule : (to : Option Path) (k : MoveKind) (l : ℕ) (p : Point) (new : List Item) → MovesTo to k l p new → ByRule k l p
to_rule None k l p new h = join_rule k l p new h.0 h.1
to_rule (Some to) k l p new h = move_rule k l p (record { body = new; at = to }) h

alike : (r s : Rule) → AreAlike r s → kind_of r ≡ kind_of s
alike SiblingBefore SiblingBefore h = refl
alike SiblingBefore SiblingAfter h = refl
alike SiblingBefore _ h = absurd h
alike SiblingAfter SiblingBefore h = refl
alike SiblingAfter SiblingAfter h = refl
alike SiblingAfter _ h = absurd h
alike LiftOf LiftOf h = refl
alike LiftOf _ h = absurd h
alike InwardOf InwardOf h = refl
alike InwardOf _ h = absurd h
alike Outward Outward h = refl
alike Outward _ h = absurd h

-- ---- the kind

module _ (body : List Item) (w : IsWellMade (trees_of body)) (l : ℕ) (at land : Path) (leap : item_at body at.steps at.item ≡ Some (Leap l))
    (there : item_at body land.steps land.item ≡ Some (Land l)) where
  abbrev the_point : Point
  the_point = record { body = body; at = at }

  abbrev the_rule : Rule
  the_rule = relation at.steps at.item land.steps land.item

  by_kind : (k : MoveKind) → ByRule k l the_point → k ≡ kind_of the_rule
  by_kind k b =
      let one = one_rule body l (one_land body w l at leap) at the_rule b.rule land b.place (rule_applies body w l at land leap there) b.applies in
      b.kind ∙ sym (alike the_rule b.rule one)

  pub kind_is : (to : Option Path) (k : MoveKind) (new : List Item) → MovesTo to k l the_point new → k ≡ kind_of the_rule
  kind_is to k new h = by_kind k (to_rule to k l the_point new h)

  pub record Made (k : MoveKind) : Type 0 where
    pub new : List Item
    pub to : Option Path
    pub moves : MovesTo to k l the_point new

  pub made_of : (k : MoveKind) → k ≡ kind_of the_rule → Made k
  made_of k e = elim (next_move_laws.some l the_point w leap) [
    | inl m ↦
        let same = by_kind m.kind (move_rule m.kind l the_point m.next m.move) in
        record { new = m.next.body; to = Some m.next.at; moves = subst (λ z. MovesBy z l the_point m.next) (same ∙ sym e) m.move }
    | inr j ↦
        let same = by_kind Join (join_rule Join l the_point j.body refl j.join) in
        record { new = j.body; to = None; moves = (e ∙ sym same, j.join) }
  ]

-- ---- moves of a report

same_leap : (labels : List (List ℕ)) (m : Move) (body new : List Item) (l : ℕ) → item_at body m.path.steps m.path.item ≡ Some (Leap l) →
    (h : IsLeapMoved labels m body new) → MovesTo h.to m.kind l (record { body = body; at = m.path }) new
same_leap labels m body new l e h = subst (λ z. MovesTo h.to m.kind z (record { body = body; at = m.path }) new)
    (same_label h.label l (item_at body m.path.steps m.path.item) (moved_leap labels m body new h) e) h.moves.moves

pub the_kind : (labels : List (List ℕ)) (m : Move) (body new : List Item) (l : ℕ) (land : Path) → IsWellMade (trees_of body) →
    item_at body m.path.steps m.path.item ≡ Some (Leap l) → item_at body land.steps land.item ≡ Some (Land l)
    → IsLeapMoved labels m body new → m.kind ≡ kind_of (relation m.path.steps m.path.item land.steps land.item)
the_kind labels m body new l land w leap there h = kind_is body w l m.path land leap there h.to m.kind new (same_leap labels m body new l leap h)

pub some_made : (labels : List (List ℕ)) (m : Move) (body : List Item) (l : ℕ) (land : Path) → IsWellMade (trees_of body) →
    item_at body m.path.steps m.path.item ≡ Some (Leap l) → item_at body land.steps land.item ≡ Some (Land l)
    → m.kind ≡ kind_of (relation m.path.steps m.path.item land.steps land.item) → slice_get labels l ≡ m.label → CanBeMade labels m body
some_made labels m body l land w leap there e named =
    let a = made_of body w l m.path land leap there m.kind e in
    record { new = a.new; moved = record { label = l; named = named; to = a.to; moves = record { moves = a.moves } } }
