-- The measures of a function with jumps, which keep what is made of it within the limits of a text.
use Rattle.std.specs.Prelude.{ℕ, ◌≤◌, ◌+◌, ◌*◌, max, List, [], ◌∷◌, length, drop, Option, Some, None, IfSome}
use Rattle.c_tree.specs.declared.tree.Slot.{Slot}
use Rattle.c_tree.specs.declared.tree.Function.{Function}
use Rattle.c_tree.specs.ExpressionTrees.{ExpressionTree}
use Rattle.c_tree.specs.TestTrees.{TestTree, Source, AndOff, OrOn}
use Rattle.c_tree.specs.Trees.{Tree, Forest, Nil, Then, Sections, NoSection, Section, Evaluate, Return, If, While, Do, For, Switch, Block, Local, Arrival}
use Rattle.c_tree.specs.Cases.{selector_source}
use Rattle.c_tree.specs.InRange.{body_of}
use Rattle.c_resolved_defs.specs.PrintableExpressions.{counted, counted_at}
use Rattle.c_resolved_defs.specs.PrintableStatements.{most, depth}
use Rattle.c_resolved_defs.specs.Within.{Each}

-- ---- the greatest number of counted tokens of a full expression

-- of a list, where the grammar needs a level
abbrev pub most_of : ℕ → List ExpressionTree → ℕ
most_of need [] = 0
most_of need (e ∷ es) = max (counted_at need e) (most_of need es)

abbrev pub most_if : Option ExpressionTree → ℕ
most_if None = 0
most_if (Some e) = counted e

abbrev pub most_case : Option ExpressionTree → ℕ
most_case None = 0
most_case (Some e) = counted_at 3 e

abbrev pub most_listed : Option (List ExpressionTree) → ℕ
most_listed None = 0
most_listed (Some es) = most_of 2 es

abbrev pub most_tested : TestTree → ℕ
most_tested (Source e) = counted e
most_tested (AndOff l t) = most_tested t
most_tested (OrOn l t) = most_tested t
most_tested _ = 0

abbrev mutual
  pub most_counted : Forest → ℕ
  most_counted Nil = 0
  most_counted (Then x xs) = max (most_counted_of x) (most_counted xs)

  pub most_counted_of : Tree → ℕ
  most_counted_of (Evaluate e) = counted e
  most_counted_of (Return e) = most_if e
  most_counted_of (If t a b) = max (most_tested t) (max (most_counted a) (most_counted b))
  most_counted_of (While t a) = max (most_tested t) (most_counted a)
  most_counted_of (Do a t) = max (most_counted a) (most_tested t)
  most_counted_of (For first t u a) = max (most_counted first) (max (most_if t) (max (most_if u) (most_counted a)))
  most_counted_of (Switch s c) = max (counted (selector_source s)) (most_counted_in c)
  most_counted_of (Block a) = most_counted a
  most_counted_of (Local k given) = most_listed given
  most_counted_of (Arrival e) = most_case e
  most_counted_of _ = 0

  pub most_counted_in : Sections → ℕ
  most_counted_in NoSection = 0
  most_counted_in (Section cases default a ends c) = max (most_of 3 cases) (max (most_counted a) (most_counted_in c))

-- ---- a function with jumps

-- how many gotos and labels the flat form of a body has; none where the body has no jumps
abbrev pub FlatCounts : Type 0
FlatCounts = Forest → Option (ℕ × ℕ)

-- no body is held to have jumps: what is resolved with these counts may have functions that are too tangled
abbrev pub no_counts : FlatCounts
no_counts a = None

abbrev pub IsShort : List ℕ → Type 0
IsShort m = length m ≤ 63

pub record IsWithinLimits (f : Function) (flat : ℕ × ℕ) : Type 0 where
  pub depth : 1 + depth (body_of f) + 3 * flat.0 ≤ most
  pub counted : most_counted (body_of f) + 6 * flat.1 ≤ most
  pub labels : Each IsShort f.labels
  pub variables : Each (λ (s : Slot). IsShort s.name) (drop f.params f.slots)

-- a function with jumps is not too tangled
abbrev pub IsUntangled : FlatCounts → Function → Type 0
IsUntangled counts f = IfSome (counts (body_of f)) (IsWithinLimits f)
