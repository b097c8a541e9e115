-- Which moves are lawful in a body.
use Rattle.std.proofs.Common.{◌≡◌, ℕ, ◌+◌, Bool, true, false, IsTrue, List, Option, Some, None, slice_get, refl, sym, ap, subst, ◌∙◌}
use Rattle.std.specs.Option.{option_and_then}
use Rattle.c_tree.specs.declared.tree.Item.{Item}
use Rattle.c_tree.specs.declared.tree.Path.{Path}
use Rattle.c_tree.specs.declared.tree.Step.{Step}
use Rattle.c_tree.specs.Paths.{list_at}
use Rattle.c_tree.specs.Trees.{trees_of}
use Rattle.report_moves.specs.declared.moves.Move.{Move}
use Rattle.report_moves.specs.declared.moves.MoveKind.{MoveKind}
use Rattle.guard_simplify.specs.declared.choice.Choice.{Choice}
use Rattle.guard_simplify.specs.Choice.{barred}
use Rattle.guard_simplify.specs.Own.{own_of}
use Rattle.guard_simplify.proofs.Placed.{found_at, missing_at, no_list_at, no_item_at, own_place, one_label}
use Rattle.move_bodies.specs.Lawful.{IsAt, IsNowhere, MayCome, IsNamed, IsLawfulIn}

-- the list and the item at a path are these
pub record Leads (body : List Item) (at : Path) (list : List Item) (x : Item) : Type 0 where
  pub list_is : list_at body at.steps ≡ Some list
  pub item_is : slice_get list at.item ≡ Some x

pub is_at : (bar : ℕ → Bool) (body list : List Item) (kind : MoveKind) (at : Path) (x : Item) (next : Option Item) (c : Choice) (steps : List Step) →
    ((l : ℕ) → bar l ≡ barred l (trees_of body)) → Leads body at list x
    → next ≡ slice_get list (at.item + 1) → own_of kind bar at.item x next ≡ Some c → steps ≡ at.steps
    → IsAt kind at body (record { kind = c.kind; label = c.label; path = record { steps = steps; item = at.item } })
is_at bar body list kind at x next c steps bars w n e s =
    let f : own_of kind bar at.item x (slice_get list (at.item + 1)) ≡ Some c = ap (own_of kind bar at.item x) (sym n) ∙ e in
    subst (λ ss. IsAt kind at body (record { kind = c.kind; label = c.label; path = record { steps = ss; item = at.item } })) (sym s) (record {
      among = found_at bar body bars kind at.steps at.item list x c w.list_is w.item_is f;
      kind_is = (own_place kind bar at.item x next c e).0;
      path_is = refl;
    })

pub is_nowhere : (bar : ℕ → Bool) (body list : List Item) (kind : MoveKind) (at : Path) (x : Item) (next : Option Item) →
    ((l : ℕ) → bar l ≡ barred l (trees_of body)) → Leads body at list x
    → next ≡ slice_get list (at.item + 1) → own_of kind bar at.item x next ≡ None → IsNowhere kind at body
is_nowhere bar body list kind at x next bars w n e d h k p =
    missing_at bar body bars kind at.steps at.item list x w.list_is w.item_is (ap (own_of kind bar at.item x) (sym n) ∙ e) d h k p

pub no_list : (body : List Item) (kind : MoveKind) (at : Path) → list_at body at.steps ≡ None → IsNowhere kind at body
no_list body kind at e d h k p = no_list_at (λ l. barred l (trees_of body)) body (λ l. refl) at.steps at.item e d h p

pub no_item : (body list : List Item) (kind : MoveKind) (at : Path) → list_at body at.steps ≡ Some list → slice_get list at.item ≡ None → IsNowhere kind at body
no_item body list kind at e f d h k p = no_item_at (λ l. barred l (trees_of body)) body (λ l. refl) at.steps at.item list e f d h p

-- ---- moves

-- no other choice is named than the one at the place of the move
pub none_named : (body : List Item) (labels : List (List ℕ)) (m : Move) → IsNowhere m.kind m.path body → (d : Choice) → IsNamed body labels m d → ⊥
none_named body labels m h d n = h d n.among n.kind n.path

pub none_lawful : (name : List ℕ) (labels : List (List ℕ)) (m : Move) (body : List Item) → ((d : Choice) → IsNamed body labels m d → ⊥) →
    IsLawfulIn name labels m body → ⊥
none_lawful name labels m body h w = h w.choice w.named

-- where one is at that place, it is the one that the move names
pub other_label : (body : List Item) (labels : List (List ℕ)) (m : Move) (c d : Choice) → IsAt m.kind m.path body c → IsNamed body labels m d →
    c.label ≡ d.label
other_label body labels m c d h n = one_label body c d h.among n.among (h.kind_is ∙ sym n.kind) (h.path_is ∙ sym n.path)

pub other_name : (body : List Item) (labels : List (List ℕ)) (m : Move) (c : Choice) → IsAt m.kind m.path body c →
    (option_and_then (slice_get labels) c.label ≡ m.label → ⊥) → (d : Choice) → IsNamed body labels m d → ⊥
other_name body labels m c h f d n = f (ap (option_and_then (slice_get labels)) (other_label body labels m c d h n) ∙ n.label)

pub other_place : (body : List Item) (labels : List (List ℕ)) (m : Move) (c : Choice) → IsAt m.kind m.path body c → (MayCome body c → ⊥) →
    (d : Choice) → IsNamed body labels m d → ⊥
other_place body labels m c h f d n =
    f (λ k l e. n.first (n.kind ∙ sym h.kind_is ∙ k) l (sym (other_label body labels m c d h n) ∙ e) ∙ ap Some (n.path ∙ sym h.path_is))

pub not_both : (b : Bool) → b ≡ false → IsTrue b → ⊥
not_both true e h = cc
not_both false e h = cc
