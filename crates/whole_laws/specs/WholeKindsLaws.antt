-- What `kind_laws` states: kinds that agree stay so where one body changes.
use Rattle.std.specs.Prelude.{All}
use Rattle.c_tree.specs.declared.tree.Top.{Top}
use Rattle.c_tree.specs.declared.tree.Top.TheVariants as T
use Rattle.c_tree.specs.declared.tree.Program.{Program}
use Rattle.c_tree.specs.Everywhere.{Everywhere}
use Rattle.c_tree.specs.InRange.{body_of}
use Rattle.jump_meaning.specs.Code.{Code, code_of}
use Rattle.move_laws.specs.Bodies.{OneBodyChanged, MovesWell}
use Rattle.move_order_laws.specs.ConvertLaws.{OneFunctionConverted}
use Rattle.move_laws.specs.GuardSimplifyLaws.{SimplifiesWell}
use Rattle.move_laws.specs.GuardDropLaws.{DropsGuard}
use Rattle.plain_laws.specs.Kinded.{KindedItem}

-- the kinds of a function agree
abbrev pub IsKindedTop : Code → Top → Type 0
IsKindedTop p (T.Function f) = Everywhere (KindedItem p f.slots) (body_of f)
IsKindedTop p _ = Unit {0}

-- the kinds of a program agree
abbrev pub IsKindedProgram : Program → Type 0
IsKindedProgram p = All (IsKindedTop (code_of p)) p.tops

-- kinds that agree do so after each step of one body or function
pub record KindLaws : Type 0 where
  -- where a flat function is converted
  pub converted : (p q : Program) → OneFunctionConverted p.tops q.tops → IsKindedProgram p → IsKindedProgram q
  -- where a rule changes one body
  pub moved : (p q : Program) → OneBodyChanged MovesWell p.tops q.tops → IsKindedProgram p → IsKindedProgram q
  -- where a made test or `if` is simplified
  pub simplified : (p q : Program) → OneBodyChanged SimplifiesWell p.tops q.tops → IsKindedProgram p → IsKindedProgram q
  -- where the guard of a label that nothing reads goes
  pub dropped : (p q : Program) → OneBodyChanged DropsGuard p.tops q.tops → IsKindedProgram p → IsKindedProgram q
