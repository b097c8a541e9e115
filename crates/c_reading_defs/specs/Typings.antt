-- What all expressions are: each is what it means. Where a rule or a program needs what an expression is as a function, it asks
-- a typing.
use Rattle.std.specs.Prelude.{◌≡◌, ◌⊎◌}
use Rattle.c_grammar.specs.Terms.{Term}
use Rattle.c_kinds.specs.declared.typed.Typed.{Typed}
use Rattle.c_kinds.specs.declared.typed.Typed.TheVariants.{Wrong}
use Rattle.c_kinds.specs.Scopes.{Env}
use Rattle.c_reading_defs.specs.Meanings.{Means}

abbrev pub Typing : Type 0
Typing = Env → Term → Typed

-- it has what each expression means, and Wrong for one that means nothing
abbrev pub IsTyping : Typing → Type 0
IsTyping typing = (env : Env) (t : Term) → Means env t (typing env t) ⊎ ((typing env t ≡ Wrong) × ((x : Typed) → Means env t x → ⊥))
