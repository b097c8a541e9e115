-- What a rewriting did, each counted up to the last u64.
use Rattle.std.specs.Prelude.{ℕ, ◌+◌, ◌-◌, min, List, [], ◌∷◌, length, map, Option, Some, None}
use Rattle.c_tree.specs.declared.tree.Top.{Top}
use Rattle.c_tree.specs.declared.tree.Top.TheVariants as T
use Rattle.c_tree.specs.declared.tree.Program.{Program}
use Rattle.report_moves.specs.declared.moves.Move.{Move}
use Rattle.move_order_laws.specs.MoveFunctionCounts.{joined}
use Rattle.move_driver.specs.declared.counts.Counts.{Counts}

abbrev pub counted : ℕ → ℕ
counted n = min n 18446744073709551615

-- the variables that a function has more in its plain form, which are its guards
abbrev pub guards_between : Top → Top → ℕ
guards_between (T.Function f) (T.Function g) = length g.slots - length f.slots
guards_between _ _ = 0

abbrev pub guards_from : List Top → List Top → ℕ
guards_from [] us = 0
guards_from (t ∷ ts) [] = 0
guards_from (t ∷ ts) (u ∷ us) = guards_between t u + guards_from ts us

-- the joins, of which there is one for each jump of the flat forms; all moves; and the guards that are declared
abbrev pub counts_of : List Move → Program → Program → Counts
counts_of ms moved plain = record { jumps = joined ms; moves = length ms; guards = counted (guards_from moved.tops plain.tops) }

-- ---- the same by how many variables there were before

abbrev pub slot_count : Top → Option ℕ
slot_count (T.Function f) = Some (length f.slots)
slot_count _ = None

abbrev pub guards_behind : Option ℕ → Top → ℕ
guards_behind (Some n) (T.Function g) = length g.slots - n
guards_behind _ _ = 0

abbrev pub guards_past : List (Option ℕ) → List Top → ℕ
guards_past [] us = 0
guards_past (n ∷ ns) [] = 0
guards_past (n ∷ ns) (u ∷ us) = guards_behind n u + guards_past ns us
