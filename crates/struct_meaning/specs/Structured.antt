-- Programs without jumps.
use Rattle.std.specs.Prelude.{All}
use Rattle.c_tree.specs.declared.tree.Program.{Program}
use Rattle.c_tree.specs.declared.tree.Top.{Top}
use Rattle.c_tree.specs.declared.tree.Top.TheVariants as T
use Rattle.c_tree.specs.Trees.{Tree, Goto, Mark, Arm, Leap, Land, Arrival}
use Rattle.c_tree.specs.Everywhere.{Everywhere}
use Rattle.c_tree.specs.InRange.{body_of}

-- an item other than a goto, a label, what the rewriting makes of them, and a nested case label (6.8.1, 6.8.6.1)
abbrev pub IsStructured : Tree → Type 0
IsStructured (Goto l) = ⊥
IsStructured (Mark l) = ⊥
IsStructured (Arm l e) = ⊥
IsStructured (Leap l) = ⊥
IsStructured (Land l) = ⊥
IsStructured (Arrival e) = ⊥
IsStructured _ = Unit {0}

-- a function of which each item is such a one, at any depth (this profile)
abbrev pub IsTopStructured : Top → Type 0
IsTopStructured (T.Function f) = Everywhere IsStructured (body_of f)
IsTopStructured _ = Unit {0}

-- a program of such functions (this profile)
abbrev pub IsProgramStructured : Program → Type 0
IsProgramStructured q = All IsTopStructured q.tops
