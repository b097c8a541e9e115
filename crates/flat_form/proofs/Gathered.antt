-- What is flattened beside gathered names is flattened with them.
use Rattle.std.proofs.Common.{ℕ, List, subst}
use Rattle.c_tree.specs.declared.tree.Function.{Function}
use Rattle.flat_names.specs.FlatNames.{with_known}
use Rattle.flat_names.specs.declared.whole.ProgramNames.{ProgramNames}
use Rattle.flat_names.specs.Gathered.{AreGathered}
use Rattle.flat_form.specs.Flattened.{IsFlattenedBeside, IsFlattened}

pub gathered_beside : (names file : List (List ℕ)) (n : ProgramNames) (f g : Function) → AreGathered names file n →
    IsFlattenedBeside n.used.file n.taken.file f g → IsFlattened names file f g
gathered_beside names file n f g a h =
    subst (λ u. IsFlattenedBeside u (with_known file) f g) a.used (subst (λ t. IsFlattenedBeside n.used.file t f g) a.taken h)
