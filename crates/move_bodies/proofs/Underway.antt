-- One more move of a Leap, and one more Leap of a body.
use Rattle.std.specs.Prelude.{IsSome}
use Rattle.label_offsets.proofs.FirstFound.{first_found}
use Rattle.c_tree.specs.declared.tree.Item.{roll-Item, roll-out-Item}
use Rattle.c_tree.specs.declared.tree.Item.TheVariants.{rolls-Leap}
use Rattle.std.proofs.Common.{◌≡◌, ℕ, ◌<◌, List, [], ◌∷◌, ◌++◌, Option, Some, None, option_and_then, slice_get, refl, sym, ap, subst, ◌∙◌, append_assoc, arith}
use Rattle.std.proofs.lemmas.List.{append-nil}
use Rattle.c_tree.specs.declared.tree.Item.{Item, Leap}
use Rattle.c_tree.specs.declared.tree.Path.{Path}
use Rattle.c_tree.specs.Paths.{item_at}
use Rattle.c_tree.specs.Trees.{trees_of}
use Rattle.c_tree.specs.WellMade.{IsWellMade}
use Rattle.label_offsets.specs.Leaps.{leaps_from, first}
use Rattle.label_offsets.specs.Marks.{label_at}
use Rattle.label_offsets.proofs.ChoiceLaws.{one_land}
use Rattle.report_moves.specs.declared.moves.MoveKind.{MoveKind}
use Rattle.move_order_laws.specs.declared.kept.Kept.{Kept}
use Rattle.move_order_laws.specs.Leaps.{leaps}
use Rattle.move_order_laws.specs.Next.{Point}
use Rattle.move_order_laws.specs.Derivations.{Eliminates, joins, moves, Derives, ends, chooses}
use Rattle.move_order_laws.proofs.MovesLeft.{fewer}
use Rattle.move_order_laws.proofs.OneDerivation.{leap_there}
use Rattle.move_order_laws.proofs.SomeDerivation.{leap_after, eliminated_leaps}
use Rattle.move_bodies.specs.Moving.{MovesTo, IsMove, Continues, IsUnderway, IsEliminated, moves_ahead, IsDerivedTo}
use Rattle.move_bodies.proofs.Applied.{leap_at, label_there}

pub started : (body : List Item) (at : Path) (l : ℕ) (before : List Kept) → IsWellMade (trees_of body) → label_at body at ≡ Some l →
    IsUnderway l at (Some at) body body before before
started body at l before w e = record {
  done = [];
  kept = sym (append-nil before);
  continues = (leap_at body at l e, λ ns end x. x);
  well_made = w;
}

module _ (l : ℕ) (start : Path) (old mid new : List Item) (path : Path) (kind : MoveKind) where
  abbrev one : Kept
  one = record { kind = kind; label = l; path = path }

  continued : (to : Option Path) (done : List Kept) → Continues (Some path) l start old done mid →
      MovesTo to kind l (record { body = mid; at = path }) new → Continues to l start old (done ++ one ∷ []) new
  continued None done h m =
      let e = joins (record { body = mid; at = path }) new m.1 in
      h.1 (one ∷ []) new (subst (λ k. Eliminates l (record { body = mid; at = path }) (record { kind = k; label = l; path = path } ∷ []) new) (sym m.0) e)
  continued (Some to) done h m = (
    leap_after kind l (record { body = mid; at = path }) (record { body = new; at = to }) m,
    λ ns end e.
        subst (λ ms. Eliminates l (record { body = old; at = start }) ms end) (sym (append_assoc done (one ∷ []) ns))
        (h.1 (one ∷ ns) end (moves kind (record { body = mid; at = path }) (record { body = new; at = to }) ns end m e)),
  )

  pub one_more : (to : Option Path) (before after now : List Kept) → IsUnderway l start (Some path) old mid before after →
      IsMove l path kind to mid new → IsWellMade (trees_of new) → now ≡ after ++ one ∷ []
      → IsUnderway l start to old new before now
  one_more to before after now u m w e = record {
    done = u.done ++ one ∷ [];
    kept = e ∙ ap (λ z. z ++ one ∷ []) u.kept ∙ append_assoc before u.done (one ∷ []);
    continues = continued to u.done u.continues m.moves;
    well_made = w;
  }

  pub less_ahead : (to : Option Path) → IsWellMade (trees_of mid) → IsMove l path kind to mid new → moves_ahead l new to < moves_ahead l mid (Some path)
  less_ahead None w m = omega arith
  less_ahead (Some to) w m =
      let p : Point = record { body = mid; at = path } in
      let q : Point = record { body = new; at = to } in
      let f = fewer kind l p q m.moves (one_land mid w l path (leap_there kind l p q m.moves)) in
      omega (arith, f)

-- the body

pub one_leap_more : (old mid new : List Item) (at : Path) (before after : List Kept) → IsDerivedTo old mid before →
    first (leaps_from 0 mid) ≡ Some at → IsEliminated at mid new before after → IsWellMade (trees_of new) → IsDerivedTo old new after
one_leap_more old mid new at before after h f e w = record {
  continues = λ ns end d.
      subst (λ ms. Derives old ms end) (sym (ap (λ z. z ++ ns) e.kept ∙ append_assoc before e.moves ns))
      (h.continues (e.moves ++ ns) end (chooses mid at e.label e.moves ns new end f e.eliminates d));
  well_made = w;
}

pub less_leaps : (mid new : List Item) (at : Path) (before after : List Kept) → IsEliminated at mid new before after →
    leaps (trees_of new) < leaps (trees_of mid)
less_leaps mid new at before after e = eliminated_leaps e.label e.eliminates

pub all_done : (old new : List Item) (ms : List Kept) → IsDerivedTo old new ms → first (leaps_from 0 new) ≡ None → Derives old ms new
all_done old new ms h e = subst (λ z. Derives old z new) (append-nil ms) (h.continues [] new (ends new e))

-- the first Leap has a label
pub first_label : (body : List Item) (at : Path) → first (leaps_from 0 body) ≡ Some at → IsSome (label_at body at)
first_label body at e =
    let f = first_found body at e in
    let x : f.item ≡ Leap f.label = sym (roll-out-Item f.item) ∙ ap roll-Item f.label_is ∙ rolls-Leap f.label in
    let there : item_at body at.steps at.item ≡ Some (Leap f.label) = ap (option_and_then (λ a. slice_get a at.item)) f.list_is ∙ f.item_is ∙
    ap (λ z. Some z) x in
    subst IsSome (sym (label_there body at f.label there)) refl
