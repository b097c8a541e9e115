-- The names of the guards of a function of the plain form.
use Rattle.std.specs.Prelude.{◌≡◌, ◌++◌, true, List, All}
use Rattle.c_types.specs.Words.{known_functions}
use Rattle.c_copies.specs.Names.{names}
use Rattle.c_tree.specs.declared.tree.Function.{Function}
use Rattle.c_tree.specs.declared.tree.Top.{Top}
use Rattle.c_tree.specs.declared.tree.Top.TheVariants as T
use Rattle.c_tree.specs.declared.tree.Program.{Program}
use Rattle.guard_vars.specs.GuardNames.{own_names, guard_names, AreNew}
use Rattle.plain_laws.specs.Plain.{plain_with}
use Rattle.c_resolved_defs.specs.Within.{Each}
use Rattle.c_resolved_defs.specs.PrintableExpressions.{IsName}
use Rattle.c_resolved_laws.specs.Counts.{IsResolved}
use Rattle.report_moves.specs.declared.moves.Move.{Move}
use Rattle.whole_laws.specs.Rewritten.{IsRewritten}
use Rattle.whole_laws.specs.Names.{HasOwnNames}

-- a flat function of what a program is rewritten to: its variables have names of their own, its labels have names, and no
-- name of a guard is used elsewhere, as `guard_names` promises
pub record HasNames (p : Program) (g : Function) : Type 0 where
  pub variables : HasOwnNames p.tops g
  pub labels : Each IsName g.labels
  pub guards : AreNew (names p ++ known_functions ++ own_names g) (guard_names (names p) g)

abbrev pub TopHasNames : Program → Top → Type 0
TopHasNames p (T.Function g) = g.flat ≡ true → HasNames p g
TopHasNames p _ = Unit {0}

-- the plain form with the names of guards that the tool gives is resolved
abbrev pub NamedPlainFormIsResolved : Type 0
NamedPlainFormIsResolved = (p q : Program) (ms : List Move) → IsResolved p → IsRewritten p q ms → All (TopHasNames p) q.tops →
    IsResolved (plain_with (guard_names (names p)) q)
