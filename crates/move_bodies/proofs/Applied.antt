-- What the four calls want of the Leap that a rule applies to, and what they make of it.
use Rattle.std.proofs.Common.{◌≡◌, ℕ, List, Option, Some, None, option_and_then, sym, ap, subst, ◌∙◌}
use Rattle.c_tree.specs.declared.tree.Item.{Item, Leap, Land}
use Rattle.c_tree.specs.declared.tree.Path.{Path}
use Rattle.c_tree.specs.declared.tree.Step.{Step}
use Rattle.c_tree.specs.Paths.{item_at}
use Rattle.c_tree.specs.Join.{Holds}
use Rattle.c_tree.specs.Trees.{trees_of}
use Rattle.c_tree.specs.WellMade.{IsWellMade}
use Rattle.c_tree.proofs.MoveLemmas.{some_same}
use Rattle.label_offsets.specs.declared.places.Rule.{Rule}
use Rattle.label_offsets.specs.declared.places.Rule.TheVariants.{InwardOf}
use Rattle.label_offsets.specs.Choice.{Applies, IsRuleAt}
use Rattle.label_offsets.specs.Marks.{leap_label, label_at}
use Rattle.label_offsets.specs.Relation.{relation}
use Rattle.label_offsets.proofs.ChoiceLaws.{one_land, rule_applies}
use Rattle.label_offsets.proofs.OneRule.{one_rule}
use Rattle.label_offsets.proofs.HeldLaws.{leap_label-Leap, leap-is}
use Rattle.outward_moves.specs.Leaving.{IsMovedOut}
use Rattle.inward_moves.specs.Entering.{LeadsTo, IsHeldAfter}
use Rattle.report_moves.specs.declared.moves.MoveKind.TheVariants.{Out}
use Rattle.move_order_laws.specs.Next.{GoesOut}
use Rattle.move_bodies.specs.Moving.{IsMove}

-- what they want

pub held_after : (body : List Item) (at : Path) → IsWellMade (trees_of body) → IsRuleAt InwardOf body at → IsHeldAfter body at
held_after body at w r =
    let a = r.applies in
    record {
      label = r.label;
      place = a.place;
      branch = a.branch;
      well_made = w;
      leap = r.leap;
      later = a.later;
      leads = subst (Holds (LeadsTo r.label a.branch)) (sym a.there) (record { construct = a.construct; held = a.held });
    }

-- the label of the Leap at the path is that of the rule

pub same_label : (body : List Item) (at : Path) (l m : ℕ) → label_at body at ≡ Some l → item_at body at.steps at.item ≡ Some (Leap m) → m ≡ l
same_label body at l m e f = some_same (sym (leap_label-Leap m) ∙ sym (ap (option_and_then leap_label) f) ∙ e)

pub leap_at : (body : List Item) (at : Path) (l : ℕ) → label_at body at ≡ Some l → item_at body at.steps at.item ≡ Some (Leap l)
leap_at body at l e = by_item (item_at body at.steps at.item) e where
  by_item : (o : Option Item) → option_and_then leap_label o ≡ Some l → o ≡ Some (Leap l)
  by_item None f = cc
  by_item (Some x) f = ap (λ z. Some z) (leap-is l x f)

-- the rule by which the Leap stands to its Land is the one that applies
pub rule_by : (body : List Item) → IsWellMade (trees_of body) → (at place : Path) (l : ℕ) (r : Rule) → label_at body at ≡ Some l →
    item_at body place.steps place.item ≡ Some (Land l)
    → r ≡ relation at.steps at.item place.steps place.item → IsRuleAt r body at
rule_by body w at place l r e land k =
    let leap = leap_at body at l e in
    let rule = subst (λ z. Applies z l at place body) (sym k) (rule_applies body w l at place leap land) in
    record {
      label = l;
      place = place;
      leap = leap;
      land = land;
      applies = rule;
      only = λ other q h. one_rule body l (one_land body w l at leap) at r other place q rule h;
    }

pub label_there : (body : List Item) (at : Path) (l : ℕ) → item_at body at.steps at.item ≡ Some (Leap l) → label_at body at ≡ Some l
label_there body at l e = ap (option_and_then leap_label) e ∙ leap_label-Leap l

-- what they make

module _ (body new : List Item) (at : Path) (l : ℕ) (e : label_at body at ≡ Some l) where
  pub moved_out : (to : Path) → IsMovedOut at body new to → IsMove l at Out (Some to) body new
  moved_out to h =
      let leap = ap (λ (z : List Step). item_at body z at.item) h.steps ∙ h.moves.applies.leap in
      let s = same_label body at l h.label e leap in
      record {
        moves = subst (λ m. GoesOut m (record { body = body; at = at }) (record { body = new; at = to })) s
            (record { outer = h.outer; last = h.last; steps = h.steps; moves = h.moves });
      }
