-- What names are bound to (ISO/IEC 9899:2011, 6.2.1), and violations.
use Rattle.std.specs.Prelude.{ℕ, Bool, false, List, [], ◌∷◌, Option, Some, None, is_some, codes, cond}
use Rattle.std.specs.BTreeMap.{insert_entry}
use Rattle.std.specs.Str.{bytes_eq}
use Rattle.c_types.specs.declared.kinds.IntKind.{IntKind}
use Rattle.c_types.specs.declared.kinds.IntKind.TheVariants.{Int}
use Rattle.c_types.specs.Words.{name_cmp}
use Rattle.c_kinds.specs.declared.binding.Binding.{Binding}
use Rattle.c_kinds.specs.declared.binding.Binding.TheVariants.{Function, Printf}
use Rattle.c_kinds.specs.declared.binding.Want.{Want}
use Rattle.c_kinds.specs.declared.binding.Want.TheVariants as want
use Rattle.c_kinds.specs.declared.typed.Fault.{Fault}

-- ---- violations, the last that was found first

abbrev pub Faults : Type 0
Faults = List Fault

abbrev pub fault : ℕ → ℕ → Faults → Faults
fault at reason vs = record { at = at; reason = reason } ∷ vs

abbrev pub fault_if : Bool → ℕ → ℕ → Faults → Faults
fault_if b at reason vs = cond b (fault at reason vs) vs

-- ---- scopes

-- names and what each has; the first of a name counts. Those that `with_entry` makes have each once and in byte order
abbrev pub Names : Type 0 → Type 0
Names X = List (List ℕ × X)

abbrev pub found : {X : Type 0} → List ℕ → Names X → Option X
found name [] = None
found name (e ∷ es) = cond (bytes_eq name e.0) (Some e.1) (found name es)

-- the names with one more, or with another thing at it
abbrev pub with_entry : {X : Type 0} → List ℕ → X → Names X → Names X
with_entry name x es = insert_entry name_cmp es name x

abbrev pub Scope : Type 0
Scope = Names Binding

abbrev pub or_else : {X : Type 0} → Option X → Option X → Option X
or_else (Some x) later = Some x
or_else None later = later

-- what a name is bound to, by the scopes around it, the nearest first
abbrev pub look_up : List Scope → List ℕ → Option Binding
look_up [] name = None
look_up (s ∷ ss) name = or_else (found name s) (look_up ss name)

-- The names at a place of the file: the scopes around it, and the words of the tokens.
pub record Env : Type 0 where
  pub word : ℕ → List ℕ
  pub scopes : List Scope

abbrev pub meaning : Env → ℕ → Option Binding
meaning env at = look_up env.scopes (env.word at)

-- ---- declared names

-- what the nearest scope has the name bound to
abbrev pub bound : List ℕ → List Scope → Option Binding
bound name [] = None
bound name (s ∷ ss) = found name s

abbrev pub is_bound : List ℕ → List Scope → Bool
is_bound name scopes = is_some (bound name scopes)

-- a name keeps what it was bound to first in its scope
abbrev pub with_name : List ℕ → Binding → Scope → Scope
with_name name b s = cond (is_some (found name s)) s (with_entry name b s)

abbrev pub bind : List ℕ → Binding → List Scope → List Scope
bind name b [] = []
bind name b (s ∷ ss) = with_name name b s ∷ ss

-- a name that is declared again in its scope
abbrev pub bind_fault : ℕ → List ℕ → List Scope → Faults → Faults
bind_fault at name scopes vs = fault_if (is_bound name scopes) at 21 vs

-- ---- the scope around the file, which has the known functions

abbrev pub takes : Option IntKind → List Want → Binding
takes result wants = Function (record { result = result; wants = wants })

abbrev pub known_scope : Scope
known_scope =
    (codes "abort", takes None [])
    ∷ (codes "exit", takes None (want.Number Int false ∷ []))
    ∷ (codes "getchar", takes (Some Int) [])
    ∷ (codes "printf", Printf)
    ∷ (codes "putchar", takes (Some Int) (want.Number Int false ∷ []))
    ∷ []
