-- A Leap goes out as long as the place of its Land, when it was chosen, says so.
use Rattle.std.proofs.Common.{◌≡◌, ℕ, ◌<◌, List, [], ◌∷◌, ◌++◌, true, false, Some, option_and_then, slice_get, refl, sym, ap, ◌∙◌, append_assoc, arith}
use Rattle.std.proofs.lemmas.List.{append-nil}
use Rattle.std.proofs.lemmas.Bool.{true≢false}
use Rattle.c_tree.specs.declared.tree.Item.{Item, Leap, Land}
use Rattle.c_tree.specs.declared.tree.Path.{Path}
use Rattle.c_tree.specs.declared.tree.Step.{Step}
use Rattle.c_tree.specs.Paths.{list_at, put_at, item_at}
use Rattle.c_tree.specs.Join.{list_there}
use Rattle.c_tree.specs.Outward as O
use Rattle.c_tree.specs.Changed.{Changed}
use Rattle.c_tree.specs.Labels.{lands}
use Rattle.c_tree.specs.Trees.{trees_of}
use Rattle.c_tree.specs.Moves.{Moved}
use Rattle.c_tree.specs.WellMade.{IsWellMade}
use Rattle.c_tree.proofs.PathLemmas.{stepped, list_step, list_put}
use Rattle.c_tree.proofs.ExchangeLemmas.{list-append, put-append}
use Rattle.c_tree.proofs.ChangeLemmas.{changed_at}
use Rattle.c_tree.proofs.CrossLemmas.{moved_out_changed}
use Rattle.c_tree.proofs.WellMoved.{changed_lands}
use Rattle.c_tree.proofs.RuleChanges.{stands}
use Rattle.label_offsets.specs.declared.places.Rule.{Rule}
use Rattle.label_offsets.specs.declared.places.Rule.TheVariants.{SiblingBefore, SiblingAfter, InwardOf, LiftOf, Outward}
use Rattle.label_offsets.specs.Relation.{relation, Means}
use Rattle.label_offsets.specs.Marks.{label_at}
use Rattle.label_offsets.proofs.RelationLaws.{means}
use Rattle.label_offsets.proofs.OutCounts.{apart}
use Rattle.label_offsets.proofs.ChoiceLaws.{one_land}
use Rattle.outward_moves.specs.Leaving.{IsHeldElsewhere, IsMovedOut}
use Rattle.report_moves.specs.declared.moves.MoveKind.TheVariants.{Out}
use Rattle.move_order_laws.specs.declared.kept.Kept.{Kept}
use Rattle.move_order_laws.specs.Next.{Point, GoesOut}
use Rattle.move_order_laws.proofs.LandLevel.{land_some}
use Rattle.move_order_laws.proofs.Parts.{there_is, out_parts}
use Rattle.move_bodies.specs.Leaving.{is_outward, LeadsOn, IsLeaving}
use Rattle.move_bodies.proofs.Applied.{leap_at, moved_out, label_there}
use Rattle.move_bodies.proofs.Underway.{started, one_more}
use Rattle.move_bodies.proofs.Leaves.{held_elsewhere_here}

-- a list on the way to another
list_front : (xs : List Item) (front rest : List Step) (a : List Item) → list_at xs (front ++ rest) ≡ Some a → (b : List Item) × (list_at xs front ≡ Some b)
list_front xs [] rest a e = (xs, refl)
list_front xs (s ∷ front) rest a e =
    let t = stepped xs s (front ++ rest) a e in
    let r = list_front t.inner front rest a t.rest in
    (r.0, list_step xs s front t.item t.inner t.item_is t.inner_is ∙ r.1)

-- it has as many Lands after another list was put at the steps, which has as many
put_lands : (l : ℕ) (xs : List Item) (front rest : List Step) (a w : List Item) → list_at xs (front ++ rest) ≡ Some a → Changed Moved (trees_of a) (trees_of w)
    → lands l (trees_of (list_there (put_at xs (front ++ rest) w) front)) ≡ lands l (trees_of (list_there xs front))
put_lands l xs front rest a w e c =
    let f = list_front xs front rest a e in
    let inner = sym (list-append xs front rest f.0 f.1) ∙ e in
    let new = ap (λ z. list_at z front) (put-append xs front rest f.0 w f.1) ∙ list_put xs front (put_at f.0 rest w) f.0 f.1 in
    ap (λ z. lands l (trees_of z)) (there_is (put_at xs (front ++ rest) w) front (put_at f.0 rest w) new)
    ∙ changed_lands l (changed_at Moved f.0 rest a w inner c)
    ∙ sym (ap (λ z. lands l (trees_of z)) (there_is xs front f.0 f.1))

pub starts : (body : List Item) (at : Path) (l : ℕ) (before : List Kept) → IsWellMade (trees_of body) → label_at body at ≡ Some l →
    IsLeaving l at at body body before before
starts body at l before w e =
    let s = stands body at.steps at.item (Leap l) (leap_at body at l e) in
    record { underway = started body at l before w e; list = s.list; there = s.list_is; same = λ front rest f. refl }

-- the rule of the old place

not_outward : (r : Rule) (ss ts : List Step) (i j : ℕ) → is_outward r ≡ false → Means r ss i ts j → (rest : List Step) × (ts ≡ ss ++ rest)
not_outward SiblingBefore ss ts i j e m = ([], m.0 ∙ sym (append-nil ss))
not_outward SiblingAfter ss ts i j e m = ([], m.0 ∙ sym (append-nil ss))
not_outward LiftOf ss ts i j e m = (m.next ∷ m.rest, m.steps)
not_outward InwardOf ss ts i j e m = (m.next ∷ m.rest, m.steps)
not_outward Outward ss ts i j e m = absurd (true≢false e)

outward_is : (r : Rule) → is_outward r ≡ true → r ≡ Outward
outward_is Outward e = refl
outward_is _ e = absurd (true≢false (sym e))

module _ (l : ℕ) (start : Path) (old : List Item) (land : Path) (before : List Kept) (w : IsWellMade (trees_of old))
    (leap : item_at old start.steps start.item ≡ Some (Leap l)) (there : item_at old land.steps land.item ≡ Some (Land l)) where
  same_here : (at : Path) (mid : List Item) (after : List Kept) (h : IsLeaving l start at old mid before after) →
      lands l (trees_of (list_there mid at.steps)) ≡ lands l (trees_of h.list)
  same_here at mid after h = h.same at.steps [] (sym (append-nil at.steps)) ∙ ap (λ z. lands l (trees_of z)) (there_is old at.steps h.list h.there)

  pub held_elsewhere : (at : Path) (mid : List Item) (after : List Kept) → IsLeaving l start at old mid before after →
      is_outward (relation at.steps at.item land.steps land.item) ≡ true → IsHeldElsewhere mid at
  held_elsewhere at mid after h e =
      let a = apart l old at.steps at.item land.steps land.item h.list (outward_is (relation at.steps at.item land.steps land.item) e) h.there there in
      let one = one_land old w l start leap in
      let s = same_here at mid after h in
      held_elsewhere_here mid at l h.underway.well_made h.underway.continues.0 (omega (arith, a, one, s))

  pub leads_on : (at : Path) (mid : List Item) (after : List Kept) → IsLeaving l start at old mid before after →
      is_outward (relation at.steps at.item land.steps land.item) ≡ false → LeadsOn l mid at
  leads_on at mid after h e =
      let m = means at.steps at.item land.steps land.item in
      let n = not_outward (relation at.steps at.item land.steps land.item) at.steps land.steps at.item land.item e m in
      let inner : item_at h.list n.0 land.item ≡ Some (Land l) =
      ap (option_and_then (λ a. slice_get a land.item)) (sym (list-append old at.steps n.0 h.list h.there)) ∙
      ap (λ z. item_at old z land.item) (sym n.1) ∙ there in
      let s = same_here at mid after h in
      let k = land_some l h.list n.0 land.item inner in
      omega (arith, s, k)

pub out_more : (l : ℕ) (start at to : Path) (old mid new : List Item) (before after now : List Kept) → IsLeaving l start at old mid before after →
    IsMovedOut at mid new to → IsWellMade (trees_of new)
    → now ≡ after ++ record { kind = Out; label = l; path = at } ∷ [] → IsLeaving l start to old new before now
out_more l start at to old mid new before after now h m w e =
    let label = label_there mid at l h.underway.continues.0 in
    let move = moved_out mid new at l label to m in
    let p : Point = record { body = mid; at = at } in
    let q : Point = record { body = new; at = to } in
    let g : GoesOut l p q = move.moves in
    let t = out_parts l p q g in
    let steps = g.steps in
    let whole = ap (list_at old) (sym steps) ∙ h.there in
    let f = list_front old g.outer (g.last ∷ []) h.list whole in
    let c = moved_out_changed l g.last.item at.item g.last.branch t.list t.item t.inner t.item_is t.inner_is t.leap t.branch in
    record {
      underway = one_more l start old mid new at Out (Some to) before after now h.underway move w e;
      list = f.0;
      there = ap (list_at old) t.steps ∙ f.1;
      same = λ front rest x.
          let outer : g.outer ≡ front ++ rest = sym t.steps ∙ x in
          let list = ap (list_at mid) (sym outer) ∙ t.list_is in
          ap (λ z. lands l (trees_of (list_there z front))) (t.body ∙ ap (λ z. put_at mid z (O.moved_out l g.last.item g.last.branch at.item t.list)) outer)
          ∙ put_lands l mid front rest t.list (O.moved_out l g.last.item g.last.branch at.item t.list) list c
          ∙ h.same front (rest ++ g.last ∷ []) (steps ∙ ap (λ z. z ++ g.last ∷ []) outer ∙ append_assoc front rest (g.last ∷ []));
    }

-- the label of a Leap has a Land
pub some_land : (body : List Item) (at : Path) (l : ℕ) → IsWellMade (trees_of body) → label_at body at ≡ Some l → 0 < lands l (trees_of body)
some_land body at l w e = let one = one_land body w l at (leap_at body at l e) in omega (arith, one)
