-- How many of the moves of a body are joins.
use Rattle.std.specs.Prelude.{ℕ, Bool, true, false, List, count_by}
use Rattle.report_moves.specs.declared.moves.MoveKind.{MoveKind}
use Rattle.report_moves.specs.declared.moves.MoveKind.TheVariants.{Join}
use Rattle.move_order_laws.specs.declared.kept.Kept.{Kept}

abbrev pub is_join : MoveKind → Bool
is_join Join = true
is_join _ = false

abbrev pub join_count : List Kept → ℕ
join_count ms = count_by (λ (m : Kept). is_join m.kind) ms
