-- The rules for declared variables (ISO/IEC 9899:2011, 6.7).
use Rattle.std.specs.Prelude.{◌⊎◌, true, List, [], ◌∷◌}
use Rattle.c_grammar.specs.Terms.{Term}
use Rattle.c_grammar.specs.Items.{Size, Sized, Initialiser, NoValue, OneValue, ValueList, Declarator, Declaration}
use Rattle.c_kinds.specs.declared.typed.Fault.{Fault}
use Rattle.c_kinds.specs.Scopes.{Env}
use Rattle.c_reading_defs.specs.Typings.{Typing}
use Rattle.c_reading_defs.specs.Bindings.{IsDeclared}
use Rattle.c_reading_defs.specs.Arrays.{ArrayBreaks}
use Rattle.c_reading_defs.specs.Expressions.{Role, NeedsValue, NeedsConstant, ExpressionBreaks}
use Rattle.c_reading_defs.specs.Behind.{SomeOf}
use Rattle.c_reading_defs.specs.Labels.{InFunction}
use Rattle.c_reading_defs.specs.Scopes.{scopes_at}
use Rattle.c_reading_defs.specs.Places.{Place, names, names_behind}
use Rattle.c_reading_defs.specs.Violations.{broken}

-- the length that is written is no constant expression, or breaks a rule itself
abbrev pub SizeBreaks : Env → Size → Fault → Type 0
SizeBreaks env (Sized t) v = ExpressionBreaks env NeedsConstant t v
SizeBreaks env _ v = ⊥

-- one of these values breaks a rule
abbrev pub ValuesBreak : (Term → Env) → Role → List Term → Fault → Type 0
ValuesBreak env role [] v = ⊥
ValuesBreak env role (t ∷ ts) v = ExpressionBreaks (env t) role t v ⊎ ValuesBreak env role ts v

-- a value of an initialiser breaks a rule
abbrev pub InitialiserBreaks : (Term → Env) → Role → Initialiser → Fault → Type 0
InitialiserBreaks env role NoValue v = ⊥
InitialiserBreaks env role (OneValue t) v = ExpressionBreaks (env t) role t v
InitialiserBreaks env role (ValueList ts) v = ValuesBreak env role ts v

-- a variable of a block
pub data LocalBreaks (typing : Typing) (f : InFunction) (p : Place) (d : Declarator) : Fault → Type 0 where
  declared_twice : IsDeclared (f.word d.name) (scopes_at p.scopes d.name) → LocalBreaks typing f p d (broken d.name 21)
  bad_array : ArrayBreaks typing (names_behind f p d.name) true d.size d.value → LocalBreaks typing f p d (broken d.name 35)

-- at one name: its length, its declarator and its values
abbrev pub DeclaratorBreaks : Typing → InFunction → Place → Declarator → Fault → Type 0
DeclaratorBreaks typing f p d v = SizeBreaks (names_behind f p d.name) d.size v ⊎
    (LocalBreaks typing f p d v ⊎ InitialiserBreaks (names f p) NeedsValue d.value v)

abbrev pub DeclarationBreaks : Typing → InFunction → Place → Declaration → Fault → Type 0
DeclarationBreaks typing f p d v = SomeOf (λ x. DeclaratorBreaks typing f p x v) d.names
