-- The moves of each jump are within the bound of its levels.
use Rattle.std.proofs.Common.{ℕ, List, ap, arith}
use Rattle.c_tree.specs.declared.tree.Item.{Item}
use Rattle.c_tree.specs.declared.tree.Function.{Function}
use Rattle.c_tree.specs.declared.tree.Top.{Top}
use Rattle.c_tree.specs.declared.tree.Top.TheVariants as T
use Rattle.c_tree.specs.Trees.{trees_of}
use Rattle.c_tree.specs.WellMade.{IsWellMade}
use Rattle.c_resolved_defs.specs.Limits.{FlatCounts}
use Rattle.jump_meaning.specs.Laws.{IsTopUnflat}
use Rattle.label_offsets.proofs.ChoiceLaws.{one_land}
use Rattle.move_order_laws.specs.declared.kept.Kept.{Kept}
use Rattle.move_order_laws.specs.Derivations.{Eliminates, Derives, ends, chooses}
use Rattle.move_order_laws.specs.Next.{Point}
use Rattle.move_order_laws.proofs.OneDerivation.{leap_first, well_made_eliminated}
use Rattle.move_bodies.proofs.Levels.{reached_simpler}
use Rattle.move_order_laws.proofs.SomeDerivation.{count_laws, nesting_laws}
use Rattle.report_moves.specs.declared.moves.Move.{Move}
use Rattle.move_order_laws.specs.Moved.{IsMoved}
use Rattle.whole_laws.specs.Rewritten.{IsFlatForm, IsNoFunction}
use Rattle.whole_laws.proofs.Source.{IsSourceFunction}
use Rattle.restructure_laws.specs.Jumps.{IsWithinLevels, AreWithinLevels, no_leap, one_leap, IsMovedWithin, TopMovedWithin, moved, unmoved, TopsMovedWithin, no_top, one_top}
use Rattle.restructure_laws.specs.WholeBoundsLaws.{JumpsAreWithinLevels}
use Rattle.restructure_laws.proofs.Kept.{start_made}
use Rattle.restructure_laws.proofs.LandPlaces.{land_place}
use Rattle.restructure_laws.proofs.Placed.{Placed, is_moved, is_left, is_declared, is_other, AllPlaced, none_placed, more_placed, placed}

within : (l : ℕ) (p : Point) (ms : List Kept) (new : List Item) → IsWellMade (trees_of p.body) → Eliminates l p ms new → IsWithinLevels l p ms new
within l p ms new w e =
    let one = one_land p.body w l p.at (leap_first l e) in
    let place = land_place l p.body w (omega (arith, one)) in
    record {
      land = place.path;
      stands = place.stands;
      few = count_laws.bounded l p place.path ms new w e place.stands;
      on_the_way = λ n q g. nesting_laws.on_the_way l n p q w g;
      joined = nesting_laws.joined l p ms new w e;
    }

all_within : {body : List Item} {ms : List Kept} {new : List Item} → Derives body ms new → IsWellMade (trees_of body) → AreWithinLevels body ms new
all_within (ends body e) w = no_leap body e
all_within (chooses body at l ms ns mid new f e d) w = one_leap body at l ms ns mid new f e (within l (record { body = body; at = at }) ms mid w e)
    (all_within d (well_made_eliminated l e w))

-- ---- functions

moved_within : (f g k : Function) (ms : List Move) → IsSourceFunction f → IsFlatForm f g → IsMoved g k ms → IsMovedWithin g k ms
moved_within f g k ms s w m = record {
  body = m.body;
  middle = m.middle;
  new = m.new;
  moves = m.moves;
  choices = m.choices;
  old_body = m.body_is;
  new_body = ap (λ (j : Function). j.body) m.result;
  made = m.made;
  within = all_within m.derives (start_made f g k ms s w m);
  simpler = reached_simpler m.reaches;
}

-- ---- each place

other_unflat : (t : Top) → IsNoFunction t → IsTopUnflat t
other_unflat (T.Function f) n = absurd n
other_unflat _ n = tt

module _ (counts : FlatCounts) (tops : List Top) where
  top_within : {t u v : Top} {ms : List Move} → Placed counts tops t u v ms → TopMovedWithin u v ms
  top_within (is_moved {f = f} {g = g} {k = k} {ms = ms} n jumps w m) = moved w.flat (moved_within f g k ms n.source w m)
  top_within (is_left {g = g} n free w) = unmoved (T.Function g) w.flat
  top_within (is_declared f n e) = unmoved (T.Function f) n.source.unflat
  top_within (is_other t n) = unmoved t (other_unflat t n)

  tops_within : {ts us vs : List Top} {ms : List Move} → AllPlaced counts tops ts us vs ms → TopsMovedWithin us vs ms
  tops_within none_placed = no_top
  tops_within (more_placed s r) = one_top (top_within s) (tops_within r)

pub jumps_are_within_levels : JumpsAreWithinLevels
jumps_are_within_levels counts p q ms r w = tops_within counts p.tops (placed counts p r q ms w)
