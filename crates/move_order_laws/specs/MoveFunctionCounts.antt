-- How many jumps a program has after its flat forms, and how many joins a list of moves.
use Rattle.std.specs.Prelude.{ℕ, ◌+◌, List, count_by, sum_by, cond}
use Rattle.c_tree.specs.declared.tree.Top.{Top}
use Rattle.c_tree.specs.declared.tree.Top.TheVariants as T
use Rattle.c_tree.specs.InRange.{body_of}
use Rattle.report_moves.specs.declared.moves.Move.{Move}
use Rattle.move_order_laws.specs.Leaps.{leaps}
use Rattle.move_order_laws.specs.MoveOrderCounts.{is_join}
use Rattle.move_order_laws.specs.MoveBodyLaws.{gotos}

-- the joins among these moves
abbrev pub joined : List Move → ℕ
joined ms = count_by (λ (m : Move). is_join m.kind) ms

-- the jumps of a flat function; a function that isn't flat has none to move
abbrev pub jumps_of : Top → ℕ
jumps_of (T.Function f) = cond f.flat (gotos (body_of f) + leaps (body_of f)) 0
jumps_of _ = 0

-- of all functions
abbrev pub jumps : List Top → ℕ
jumps ts = sum_by jumps_of ts
