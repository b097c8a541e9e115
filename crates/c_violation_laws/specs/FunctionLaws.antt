-- What `function_laws` states: the walk over a function finds the rules that are broken in it.
use Rattle.std.specs.Prelude.{◌≡◌, ◌≤◌, ◌<◌, ℕ, List}
use Rattle.c_grammar.specs.Tops.{Function}
use Rattle.c_kinds.specs.Scopes.{Scope}
use Rattle.c_statements.specs.declared.anchors.Anchor.{Anchor}
use Rattle.c_statements.specs.Functions.{FlatCounts, function_faults}
use Rattle.c_kinds.specs.Typing.{typed}
use Rattle.c_reading_defs.specs.Symbols.{Symbol, token_behind}
use Rattle.c_reading_defs.specs.DerivedTops.{IsFunction}
use Rattle.c_reading_defs.specs.Scopes.{Identifier, scopes_at}
use Rattle.c_reading_defs.specs.Functions.{FunctionBreaks}
use Rattle.c_violation_laws.specs.Finds.{Finds}

-- in scopes as they are known throughout the function, behind its name
abbrev pub FunctionLaws : Type 0
FunctionLaws = (flat : FlatCounts) (word : ℕ → List ℕ) (notes : Anchor → List (List ℕ)) (at : ℕ) (symbols : List Symbol) (f : Function) →
    IsFunction at symbols f
    → (known : List Scope) (scopes : List (List Identifier)) → ((token : ℕ) → f.name < token → token ≤ token_behind at symbols → scopes_at scopes token ≡ known)
    → Finds (function_faults flat word notes f known) (λ v. FunctionBreaks typed flat word notes f scopes v)
