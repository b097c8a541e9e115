-- What stands at file scope is flattened where the names of the program are gathered.
use Rattle.std.specs.Prelude.{ℕ, List}
use Rattle.c_tree.specs.declared.tree.Top.{Top}
use Rattle.flat_names.specs.declared.whole.ProgramNames.{ProgramNames}
use Rattle.flat_names.specs.Gathered.{AreGathered}
use Rattle.restructure_laws.specs.Flattened.{FlattenedTop, FlattenedTops}

abbrev pub IsTopFlattenedBeside : ProgramNames → Top → Top → Type 0
IsTopFlattenedBeside n t u = (names file : List (List ℕ)) → AreGathered names file n → FlattenedTop names file t u

abbrev pub AreFlattenedBeside : ProgramNames → List Top → List Top → Type 0
AreFlattenedBeside n ts us = (names file : List (List ℕ)) → AreGathered names file n → FlattenedTops names file ts us
