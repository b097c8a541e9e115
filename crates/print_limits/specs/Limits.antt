-- Programs whose printed text is within the limits of nesting and of full expressions.
use Rattle.std.specs.Prelude.{◌≤◌, ◌+◌, ℕ, max, option_map, All}
use Rattle.c_tree.specs.declared.tree.EnumItem.{EnumItem}
use Rattle.c_tree.specs.declared.tree.Function.{Function}
use Rattle.c_tree.specs.declared.tree.Section.{Section, out-Section}
use Rattle.c_tree.specs.declared.tree.Top.{Top}
use Rattle.c_tree.specs.declared.tree.Top.TheVariants as T
use Rattle.c_tree.specs.declared.tree.Program.{Program}
use Rattle.c_tree.specs.ExpressionTrees.{expression_tree}
use Rattle.c_tree.specs.InRange.{body_of}
use Rattle.c_tree.specs.Trees.{expression_trees, trees_of}
use Rattle.c_resolved_defs.specs.Limits.{most_of, most_case, most_listed, most_counted}
use Rattle.c_resolved_defs.specs.PrintableStatements.{most, depth}

-- the most counted tokens of a full expression of a section
abbrev pub section_most : Section → ℕ
section_most c = let o = out-Section c in max (most_of 3 (expression_trees o.cases)) (most_counted (trees_of o.list))

-- a function: its outermost list is level 1
pub record FunctionIsWithin (f : Function) : Type 0 where
  pub depth : 1 + depth (body_of f) ≤ most
  pub counted : most_counted (body_of f) ≤ most

abbrev pub EnumItemIsWithin : EnumItem → Type 0
EnumItemIsWithin x = most_case (option_map expression_tree x.given) ≤ most

abbrev pub TopIsWithin : Top → Type 0
TopIsWithin (T.Function f) = FunctionIsWithin f
TopIsWithin (T.Enum xs) = All EnumItemIsWithin xs
TopIsWithin (T.Global g) = most_listed (option_map expression_trees g.init) ≤ most
TopIsWithin _ = Unit {0}

-- no list is nested too deeply, and no full expression has too many counted tokens
abbrev pub IsWithinLimits : Program → Type 0
IsWithinLimits p = All TopIsWithin p.tops
