-- A function of a resolved program.
use Rattle.std.specs.Prelude.{Contains}
use Rattle.c_tree.specs.declared.tree.Function.{Function}
use Rattle.c_tree.specs.declared.tree.Top.TheVariants as T
use Rattle.c_tree.specs.declared.tree.Program.{Program}
use Rattle.c_resolved_laws.specs.Counts.{IsResolved}

-- f is a function of a resolved program
pub record IsOfResolved (f : Function) : Type 0 where
  pub program : Program
  pub resolved : IsResolved program
  pub there : Contains program.tops (T.Function f)
