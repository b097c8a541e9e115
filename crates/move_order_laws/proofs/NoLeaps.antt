-- Where no path of a Leap is found in a well made body, none stands in it.
use mathlib.Core.Path.{fun_ext}
use Rattle.std.proofs.Common.{◌≡◌, List, None, refl, sym, ap, ◌∙◌}
use Rattle.c_tree.specs.declared.tree.Item.{Item}
use Rattle.c_tree.specs.Trees.{Tree, Arm, Leap, Land, trees_of}
use Rattle.c_tree.specs.Everywhere.{total}
use Rattle.c_tree.specs.WellMade.{IsWellMade}
use Rattle.label_offsets.specs.declared.first.Sought.TheVariants as S
use Rattle.label_offsets.specs.Leaps.{leaps_from, first}
use Rattle.label_offsets.proofs.FirstFound.{weight, none_there}
use Rattle.move_order_laws.specs.Leaps.{leap_of, leaps}

weight_is : (t : Tree) → weight S.Leap t ≡ leap_of t
weight_is (Leap l) = refl
weight_is (Arm l e) = refl
weight_is (Land l) = refl
weight_is _ = refl

pub no_leaps : (body : List Item) → IsWellMade (trees_of body) → first (leaps_from 0 body) ≡ None → leaps (trees_of body) ≡ 0
no_leaps body w e = sym (ap (λ f. total f (trees_of body)) (fun_ext weight_is)) ∙ none_there S.Leap body e w.loops
