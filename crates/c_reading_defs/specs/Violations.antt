-- Violations: a token and a reason; and the one that is reported.
use Rattle.std.specs.Prelude.{◌≡◌, ℕ, true}
use Rattle.c_kinds.specs.declared.typed.Fault.{Fault}
use Rattle.c_scopes.specs.Resolving.{is_before}

-- a violation at the token, for the reason
abbrev pub broken : ℕ → ℕ → Fault
broken at reason = record { at = at; reason = reason }

-- a violation than which none is before: it has the least place, and there the least reason
pub record IsLeast (P : Fault → Type 0) (v : Fault) : Type 0 where
  pub is : P v
  pub first : (w : Fault) → P w → is_before w v ≡ true → ⊥

-- no rule is broken
abbrev pub IsFaultless : (Fault → Type 0) → Type 0
IsFaultless P = (v : Fault) → P v → ⊥
