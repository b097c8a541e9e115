-- What a name is bound to (ISO/IEC 9899:2011, 6.2.1). A scope is the list of its declarations in front of a token, in text
-- order; a name may stand in it twice.
use Rattle.std.specs.Prelude.{◌≡◌, ◌≢◌, ◌⊎◌, ℕ, List, [], ◌∷◌}
use Rattle.c_kinds.specs.declared.binding.Binding.{Binding}
use Rattle.c_kinds.specs.Scopes.{Scope}

-- no declaration of the scope is of this name
abbrev pub DeclaresNot : List ℕ → Scope → Type 0
DeclaresNot name [] = Unit {0}
DeclaresNot name (d ∷ ds) = (d.0 ≢ name) × DeclaresNot name ds

-- the first declaration of the name in the scope binds it to b; a later one is a violation, unless both declare one function
abbrev pub DeclaresAs : List ℕ → Binding → Scope → Type 0
DeclaresAs name b [] = ⊥
DeclaresAs name b (d ∷ ds) = ((d.0 ≡ name) × (d.1 ≡ b)) ⊎ ((d.0 ≢ name) × DeclaresAs name b ds)

-- among the scopes round a place, the nearest first, the nearest one that declares the name binds it to b
abbrev pub IsBoundTo : List ℕ → Binding → List Scope → Type 0
IsBoundTo name b [] = ⊥
IsBoundTo name b (s ∷ ss) = DeclaresAs name b s ⊎ (DeclaresNot name s × IsBoundTo name b ss)

-- no scope round the place declares the name
abbrev pub IsUnbound : List ℕ → List Scope → Type 0
IsUnbound name [] = Unit {0}
IsUnbound name (s ∷ ss) = DeclaresNot name s × IsUnbound name ss

-- the first declaration of the name in the nearest scope binds it to b
abbrev pub IsDeclaredAs : List ℕ → Binding → List Scope → Type 0
IsDeclaredAs name b [] = ⊥
IsDeclaredAs name b (s ∷ ss) = DeclaresAs name b s

-- the nearest scope declares the name already
abbrev pub IsDeclared : List ℕ → List Scope → Type 0
IsDeclared name ss = (b : Binding) × IsDeclaredAs name b ss
