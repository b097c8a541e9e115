-- Scopes (ISO/IEC 9899:2011, 6.2.1): each is the list of all that it declares, in text order.
use Rattle.std.specs.Prelude.{ℕ, cond, nat_lt, List, [], ◌∷◌, ◌++◌, map}
use Rattle.c_grammar.specs.Terms.{Term, first_of}
use Rattle.c_kinds.specs.declared.binding.Binding.{Binding}
use Rattle.c_kinds.specs.Scopes.{Scope, Env, known_scope}

-- an identifier that is declared
pub record Identifier : Type 0 where
  -- the token that declares it
  pub at : ℕ
  pub name : List ℕ
  pub binding : Binding

-- those that are declared in front of a token
abbrev pub known_at : ℕ → List Identifier → Scope
known_at token [] = []
known_at token (x ∷ xs) = cond (nat_lt x.at token) ((x.name, x.binding) ∷ known_at token xs) (known_at token xs)

-- the scopes round a token, the nearest first; round all of them is that of the known functions
abbrev pub scopes_at : List (List Identifier) → ℕ → List Scope
scopes_at scopes token = map (known_at token) scopes ++ known_scope ∷ []

abbrev pub names_at : (ℕ → List ℕ) → List (List Identifier) → ℕ → Env
names_at word scopes token = record { word = word; scopes = scopes_at scopes token }

-- An expression has the names that are known at its first token. What stands in square brackets behind a declared name, and the
-- value of an enum constant, have those that are known at that name, since its scope begins behind them (6.2.1, 7).
abbrev pub names_for : (ℕ → List ℕ) → List (List Identifier) → Term → Env
names_for word scopes t = names_at word scopes (first_of t)
