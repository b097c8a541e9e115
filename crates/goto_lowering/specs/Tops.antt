-- What stands at file scope, one after another.
use Rattle.std.specs.Prelude.{ℕ, ◌≡◌, List, [], ◌∷◌, ◌++◌}
use Rattle.c_tree.specs.declared.tree.Top.{Top}
use Rattle.lower_laws.specs.Lowering.{IsTopLowered}

-- behind what was there stands t lowered
pub record IsNext (names file : List (List ℕ)) (t : Top) (old new : List Top) : Type 0 where
  pub one : Top
  pub lowered : IsTopLowered names file t one
  pub tops : new ≡ old ++ one ∷ []
