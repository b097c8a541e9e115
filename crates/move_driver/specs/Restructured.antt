-- A program that is restructured: flat forms, moves and simplifications, and the plain form.
use Rattle.std.specs.Prelude.{◌≡◌, List, length}
use Rattle.c_tree.specs.declared.tree.Program.{Program}
use Rattle.c_copies.specs.Names.{names}
use Rattle.report_moves.specs.declared.moves.Move.{Move}
use Rattle.move_order_laws.specs.MoveFunctionCounts.{jumps}
use Rattle.plain_form.specs.Plain.{plain}
use Rattle.restructure_laws.specs.WholeNamesLaws.{IsRewrittenWithNames}
use Rattle.move_driver.specs.declared.counts.Counts.{Counts}
use Rattle.move_driver.specs.Counts.{counted, guards_from}

-- q is the plain form of what p is rewritten to by these moves
pub record IsRestructured (p q : Program) (ms : List Move) (counts : Counts) : Type 0 where
  pub moved : Program
  pub rewritten : IsRewrittenWithNames p moved ms
  pub result : q ≡ plain (names p) moved
  -- the gotos of the flat forms, the moves, and the guards that are declared
  pub jumps : counts.jumps ≡ jumps rewritten.flat.tops
  pub moves : counts.moves ≡ length ms
  pub guards : counts.guards ≡ counted (guards_from moved.tops q.tops)

-- whatever p is restructured to is q, by these moves
abbrev pub IsOnly : Program → Program → List Move → Counts → Type 0
IsOnly p q ms counts = (r : Program) (ns : List Move) (others : Counts) → IsRestructured p r ns others → (r ≡ q) × (ns ≡ ms) × (others ≡ counts)
