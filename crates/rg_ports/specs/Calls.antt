-- The calls of a memory port, which are numbered from 0.
use Rattle.std.specs.Prelude.{ℕ, List, Contains, refl}
use Rattle.std.specs.Coded.{Coded, code_by, coded×, coded_list, coded_ℕ}
use Rattle.rg_ports.specs.Count.{following}

pub record Calls : Type 0 where
  -- the numbers of the calls that fail
  pub failing : List ℕ
  -- the number of the next call
  pub next : ℕ

-- no call was made yet
abbrev pub no_calls : List ℕ → Calls
no_calls failing = record { failing = failing; next = 0 }

-- the next call fails
abbrev pub Fails : Calls → Type 0
Fails calls = Contains calls.failing calls.next

-- once that call was made
abbrev pub after_call : Calls → Calls
after_call calls = record calls { next = following calls.next }

abbrev pub calls_code : Coded Calls
calls_code = code_by (List ℕ × ℕ) (coded× (coded_list coded_ℕ) coded_ℕ)
    (λ c. (c.failing, c.next))
    (λ p. record { failing = p.0; next = p.1 }) (λ _. refl)
