-- The laws of this crate.
use Rattle.std.proofs.Common.{◌≡◌, ℕ, List, refl, ◌∙◌}
use Rattle.c_tree.specs.declared.tree.Item.{Item}
use Rattle.c_tree.specs.Trees.{Forest, trees_of}
use Rattle.c_tree.specs.Changed.{Changed}
use Rattle.c_tree.specs.Moves.{Moved}
use Rattle.c_tree.specs.WellMade.{IsWellMade}
use Rattle.c_tree.proofs.WellMoved.{well_moved}
use Rattle.c_tree.proofs.RuleChanges.{joins_changed}
use Rattle.move_order_laws.specs.declared.kept.Kept.{Kept}
use Rattle.move_order_laws.specs.Next.{Point}
use Rattle.move_order_laws.specs.Derivations.{Eliminates, joins, moves, Derives, ends, chooses}
use Rattle.move_order_laws.proofs.MovesLeft.{moved_changed}
use Rattle.move_order_laws.proofs.OneDerivation.{well_made_moved, well_made_eliminated}
use Rattle.move_order_laws.specs.Skeletons.{skeleton}
use Rattle.move_order_laws.specs.MoveSkeletonLaws.{SkeletonLaws}
use Rattle.move_order_laws.proofs.Moved.{moved_kept}
use Rattle.move_order_laws.proofs.Simpler.{simplified_kept, dropped_kept}
use Rattle.move_order_laws.proofs.Converted.{converted_kept}

moved : (xs ys : Forest) → IsWellMade xs → Changed Moved xs ys → skeleton ys ≡ skeleton xs
moved xs ys w c = let v = well_moved xs ys c w in moved_kept c w.converted v.converted

eliminated : (l : ℕ) {p : Point} {ms : List Kept} {new : List Item} → Eliminates l p ms new → IsWellMade (trees_of p.body) →
    skeleton (trees_of new) ≡ skeleton (trees_of p.body)
eliminated l (joins p new j) w = moved (trees_of p.body) (trees_of new) w (joins_changed l p.at.item j.place p.at.steps p.body new j.moves)
eliminated l (moves k p q ms new m e) w = eliminated l e (well_made_moved k l p q m w) ∙ moved (trees_of p.body) (trees_of q.body) w (moved_changed k l p q m)

derived : {body : List Item} {ms : List Kept} {new : List Item} → Derives body ms new → IsWellMade (trees_of body) →
    skeleton (trees_of new) ≡ skeleton (trees_of body)
derived (ends body e) w = refl
derived (chooses body at l ms ns mid new f e d) w = derived d (well_made_eliminated l e w) ∙ eliminated l e w

pub skeleton_laws : SkeletonLaws
skeleton_laws = record {
  moved = moved;
  simplified = λ xs ys h k c. simplified_kept c h k;
  dropped = dropped_kept;
  converted = converted_kept;
  derived = λ body ms new w d. derived d w;
}
