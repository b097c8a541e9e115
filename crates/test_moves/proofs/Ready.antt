-- What the bodies of resolved programs are where they are asked for.
use Rattle.std.proofs.Common.{List, Some, ◌≡◌, true, sym, subst}
use Rattle.std.specs.Option.{option_map_or}
use Rattle.c_tree.specs.declared.tree.Function.{Function}
use Rattle.c_tree.specs.declared.tree.Item.{Item}
use Rattle.c_tree.specs.InRange.{body_of}
use Rattle.c_tree.specs.Trees.{Nil, trees_of}
use Rattle.c_tree.specs.WellMade.{IsWellMade}
use Rattle.guard_vars.specs.Conversion.{converted}

pub is_made : (f g : Function) → (f.flat ≡ true → IsWellMade (body_of (converted f))) → f.flat ≡ true → g ≡ converted f → IsWellMade (body_of g)
is_made f g c flat e = subst (λ h. IsWellMade (body_of h)) (sym e) (c flat)

pub of_body : (f : Function) (a : List Item) → f.body ≡ Some a → IsWellMade (body_of f) → IsWellMade (trees_of a)
of_body f a e w = subst (λ o. IsWellMade (option_map_or trees_of o Nil)) e w
