-- A whole program after a list of moves: each function gets its flat form, the flat ones are converted, and the moves
-- are made in the order of the list.
use Rattle.std.specs.Prelude.{◌≡◌, ℕ, true, List, map, cond}
use Rattle.c_tree.specs.declared.tree.Top.{Top}
use Rattle.c_tree.specs.declared.tree.Top.TheVariants as T
use Rattle.c_tree.specs.declared.tree.Program.{Program}
use Rattle.c_tree.specs.InRange.{body_of}
use Rattle.c_tree.specs.WellMade.{IsWellMade}
use Rattle.guard_vars.specs.Conversion.{converted}
use Rattle.move_order_laws.specs.Leaps.{leaps}
use Rattle.report_moves.specs.declared.moves.Move.{Move}
use Rattle.whole_laws.specs.Rewritten.{FlatTops}
use Rattle.restructure_laws.specs.Lawful.{Moves}

-- a flat function is converted, and any other stays
abbrev pub converted_top : Top → Top
converted_top (T.Function f) = T.Function (cond f.flat (converted f) f)
converted_top t = t

abbrev pub converted_tops : List Top → List Top
converted_tops ts = map converted_top ts

-- no Leap is left in a flat function
abbrev pub IsTopLeapless : Top → Type 0
IsTopLeapless (T.Function f) = f.flat ≡ true → leaps (body_of f) ≡ 0
IsTopLeapless _ = Unit {0}

-- a flat function is well made
abbrev pub IsTopWellMade : Top → Type 0
IsTopWellMade (T.Function f) = f.flat ≡ true → IsWellMade (body_of f)
IsTopWellMade _ = Unit {0}

-- the Leaps of the flat functions
abbrev pub top_leaps : Top → ℕ
top_leaps (T.Function f) = cond f.flat (leaps (body_of f)) 0
top_leaps _ = 0

-- q is what p is made by these moves, each of them lawful where it is made
pub record IsReplayed (p q : Program) (ms : List Move) : Type 0 where
  pub flat : Program
  pub flattened : FlatTops p.tops flat.tops
  pub moved : Moves (converted_tops flat.tops) ms q.tops
