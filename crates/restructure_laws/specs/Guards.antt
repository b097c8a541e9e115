-- How many guards the functions of a rewritten program declare.
use Rattle.std.specs.Prelude.{ℕ, ◌+◌, ◌*◌, ◌≡◌, ◌≤◌, cond, List, ◌++◌, map, length}
use Rattle.c_tree.specs.declared.tree.Function.{Function}
use Rattle.c_tree.specs.declared.tree.Top.{Top}
use Rattle.c_tree.specs.declared.tree.Top.TheVariants as T
use Rattle.c_tree.specs.Everywhere.{total}
use Rattle.c_tree.specs.InRange.{body_of}
use Rattle.c_tree.specs.Trees.{Tree, While, Do, For, Switch}
use Rattle.flat_laws.specs.Parts.{is_scattered, switch_labels, has_jumps}
use Rattle.plain_laws.specs.Plain.{guard_slot}

-- 1 for a loop
abbrev pub loop_of : Tree → ℕ
loop_of (While t a) = 1
loop_of (Do a t) = 1
loop_of (For first t u a) = 1
loop_of _ = 0

-- 1 for a switch
abbrev pub switch_of : Tree → ℕ
switch_of (Switch s d) = 1
switch_of _ = 0

-- the case and default labels of a scattered switch
abbrev pub scattered_of : Tree → ℕ
scattered_of (Switch s d) = cond (is_scattered d) (length (switch_labels d)) 0
scattered_of _ = 0

-- the labels of a function with jumps, its switches, twice its loops, and the case and default labels of its scattered switches
abbrev pub most_guards : Function → ℕ
most_guards f = cond (has_jumps (body_of f)) (length f.labels + total switch_of (body_of f) + 2 * total loop_of (body_of f) + total scattered_of (body_of f)) 0

-- behind the variables of m, r has its guards, at most so many
pub record HasGuards (most : ℕ) (m r : Function) : Type 0 where
  pub guards : List (List ℕ)
  pub slots : r.slots ≡ m.slots ++ map guard_slot guards
  pub few : length guards ≤ most

-- what stands at one place of the source, after all moves and simplifications, and in the result
abbrev pub HasFewGuards : Top → Top → Top → Type 0
HasFewGuards (T.Function f) (T.Function m) (T.Function r) = HasGuards (most_guards f) m r
HasFewGuards _ _ _ = Unit {0}
