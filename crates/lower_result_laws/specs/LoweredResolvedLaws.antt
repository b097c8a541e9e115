-- What `lowered_resolved_laws` states.
use Rattle.c_tree.specs.declared.tree.Program.{Program}
use Rattle.c_tree.specs.declared.tree.Top.{Top}
use Rattle.c_tree.specs.declared.tree.Top.TheVariants as T
use Rattle.c_resolved_defs.specs.Limits.{FlatCounts, no_counts, IsUntangled}
use Rattle.c_resolved_defs.specs.Resolved.{IsResolvedWith}
use Rattle.c_resolved_defs.specs.Within.{Each}
use Rattle.c_resolved_laws.specs.Laws.{HasText}
use Rattle.lower_laws.specs.Lowering.{IsLoweredProgram}
use Rattle.lower_result_laws.specs.Modest.{IsModest}

-- a function is not too tangled
abbrev pub IsTopUntangled : FlatCounts → Top → Type 0
IsTopUntangled counts (T.Function f) = IsUntangled counts f
IsTopUntangled counts _ = Unit {0}

pub record LoweredResolvedLaws : Type 0 where
  -- what a modest resolved program is lowered to is resolved but for the measures of its flat forms
  pub uncounted : (counts : FlatCounts) (p q : Program) → IsResolvedWith counts p → IsLoweredProgram p q → IsModest p → IsResolvedWith no_counts q
  -- and resolved where none of its functions is too tangled
  pub resolved : (counts counts' : FlatCounts) (p q : Program) → IsResolvedWith counts p → IsLoweredProgram p q → IsModest p →
      Each (IsTopUntangled counts') q.tops → IsResolvedWith counts' q
  -- it has a text
  pub text : (counts : FlatCounts) (p q : Program) → IsResolvedWith counts p → IsLoweredProgram p q → HasText q
