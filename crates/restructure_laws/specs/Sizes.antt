-- How deep the lists of the result of a rewriting stand in one another, and how long its expressions are.
use Rattle.std.specs.Prelude.{ℕ, ◌+◌, ◌*◌, ◌≤◌, IfSome}
use Rattle.c_tree.specs.declared.tree.Function.{Function}
use Rattle.c_tree.specs.declared.tree.Top.{Top}
use Rattle.c_tree.specs.declared.tree.Top.TheVariants as T
use Rattle.c_tree.specs.InRange.{body_of}
use Rattle.c_resolved_defs.specs.Limits.{most_counted}
use Rattle.c_resolved_defs.specs.PrintableStatements.{depth}
use Rattle.c_resolved_laws.specs.Counts.{flat_counts}

-- r is the result of f, whose flat form has so many gotos and labels
pub record HasSizes (f r : Function) (flat : ℕ × ℕ) : Type 0 where
  -- its lists stand at most three levels deeper in one another for each goto
  pub depth : depth (body_of r) ≤ depth (body_of f) + 3 * flat.0
  -- and no full expression of it has more than six counted tokens more for each label than one of f has at most
  pub counted : most_counted (body_of r) ≤ most_counted (body_of f) + 6 * flat.1

-- what stands at one place of the source and in the result, where it is a function with jumps
abbrev pub IsWithinSizes : Top → Top → Type 0
IsWithinSizes (T.Function f) (T.Function r) = IfSome (flat_counts (body_of f)) (HasSizes f r)
IsWithinSizes _ _ = Unit {0}
