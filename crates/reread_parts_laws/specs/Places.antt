-- Places of a text where expressions of a resolved program stand.
use Rattle.std.specs.Prelude.{◌≡◌, ℕ, List, length, take}
use Rattle.c_tree.specs.ExpressionTrees.{ExpressionTree}
use Rattle.c_kinds.specs.Scopes.{Env}
use Rattle.c_resolved_defs.specs.Names.{Names}
use Rattle.c_resolved_defs.specs.Kinds.{IsOperand, KindsAgree, WritesNoConst}
use Rattle.c_resolved_defs.specs.Scopes.{Scope, IsBound}
use Rattle.c_resolved_defs.specs.Within.{Within}
use Rattle.c_resolved_defs.specs.PrintableExpressions.{Prints}
use Rattle.print_laws.specs.Reread.{Spelling}
use Rattle.reread_parts_laws.specs.Words.{AreWords}
use Rattle.c_statements.specs.Context.{Walk}
use Rattle.reread_parts_laws.specs.Bindings.{IsInScope, AreSameScopes, ScopesAgree}

-- a place of a text where an expression may stand: the names of the program, their scopes there, and the words of the tokens
pub record IsPlace (n : Names) (ss : List Scope) (env : Env) (tokens : List Spelling) : Type 0 where
  pub words : AreWords env.word tokens
  pub scopes : ScopesAgree n ss env.scopes

-- an expression of a resolved program at such a place, which prints
pub record IsExpressionOf (n : Names) (ss : List Scope) (x : ExpressionTree) : Type 0 where
  pub kinds : KindsAgree n x
  pub bound : IsBound n.slots ss x
  pub consts : Within (WritesNoConst n) x
  pub operand : IsOperand x
  pub prints : Prints n.slots x

-- a place in a function: its scopes, and the slots that are declared before it
pub record Standing (n : Names) (ss : List Scope) (k : ℕ) (w : Walk) : Type 0 where
  pub inside : IsInScope ss
  pub same : AreSameScopes n ss w.scopes
  pub slots_are : w.slots ≡ take k n.slots
  pub count : length w.slots ≡ k
