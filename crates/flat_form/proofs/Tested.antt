-- Of the numbers of cases those that are there are tested.
use Rattle.std.proofs.Common.{◌≡◌, ◌+◌, cond, is_some, List, [], ◌∷◌, map, refl, ap}
use Rattle.c_types.specs.declared.kinds.IntKind.{IntKind}
use Rattle.c_tree.specs.Cases.{case_number}
use Rattle.c_tree.specs.ExpressionTrees.{ExpressionTree}
use Rattle.c_resolved_laws.specs.Counts.{tested}
use Rattle.flat_form.specs.Given.{some_in}

pub tested_are : (k : IntKind) (es : List ExpressionTree) → some_in (map (case_number k) es) ≡ tested k es
tested_are k [] = refl
tested_are k (e ∷ es) = ap (λ n. cond (is_some (case_number k e)) 1 0 + n) (tested_are k es)
