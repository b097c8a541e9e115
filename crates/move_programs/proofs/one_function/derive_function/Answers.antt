use Rattle.std.proofs.Common.{◌≡◌, Some, sym, subst, ◌∙◌}
use Rattle.c_tree.specs.Trees.{trees_of}
use Rattle.c_tree.specs.WellMade.{IsWellMade}
use Rattle.move_programs.proofs.one_function.derive_function.Goals as goal

pub derive-done-requires : goal.derive-done-requires
derive-done-requires c =
    let e : Some c.requires.body ≡ Some c.in-Some.body = sym c.requires.body_is ∙ sym c.replace.ensures.value ∙ c.in-Some.is in
    let f : c.requires.body ≡ c.in-Some.body = cc in
    subst (λ z. IsWellMade (trees_of z)) f c.requires.well_made
