-- Enums (ISO/IEC 9899:2011, 6.7.2.2): their constants, and the violations.
use Rattle.std.specs.Prelude.{ℕ, ℤ, pos, ◌+ℤ◌, cond, not, List, [], ◌∷◌, Option, Some, None, option_map, option_and_then}
use Rattle.c_types.specs.declared.kinds.IntKind.TheVariants.{Int}
use Rattle.c_types.specs.Numbers.{is_in_range}
use Rattle.c_tree.specs.declared.tree.EnumItem.{EnumItem}
use Rattle.c_grammar.specs.Terms.{Term, first_of}
use Rattle.c_grammar.specs.Tops.{Enumerator}
use Rattle.c_kinds.specs.declared.binding.Binding.TheVariants.{Constant}
use Rattle.c_kinds.specs.Scopes.{Env, Faults, fault_if}
use Rattle.c_kinds.specs.Constants.{constant_of}
use Rattle.c_kinds.specs.Typing.{typed, constant_faults}
use Rattle.c_statements.specs.Declarations.{constant_at}
use Rattle.c_scopes.specs.FileNames.{bound_in, file_name_faults}

abbrev pub an_int : ℤ → Option ℤ
an_int v = cond (is_in_range Int v) (Some v) None

-- one more than the value of the constant before
abbrev pub next_value : Option ℤ → Option ℤ
next_value before = option_map (λ v. v +ℤ pos 1) before

-- what a constant expression is worth
abbrev pub worth : Env → Term → Option ℤ
worth env t = option_map (λ c. c.1) (constant_of (typed env t))

-- the number that is written, or one more than the value of the constant before
abbrev pub number_of : Env → Option Term → Option ℤ → Option ℤ
number_of env (Some t) before = worth env t
number_of env None before = next_value before

-- none where the number is no int
abbrev pub value_of : Env → Option Term → Option ℤ → Option ℤ
value_of env t before = option_and_then an_int (number_of env t before)

-- behind a violation a value is 0
abbrev pub or_zero : Option ℤ → ℤ
or_zero (Some v) = v
or_zero None = pos 0

abbrev pub enumerated : Enumerator → Option ℤ → Env → Env
enumerated e value env = bound_in e.name (Constant (or_zero value)) env

abbrev pub behind_enum : List Enumerator → Option ℤ → Env → Env
behind_enum [] before env = env
behind_enum (e ∷ es) before env =
    let value = value_of env e.value before in behind_enum es value (enumerated e value env)

abbrev pub enum_item : Enumerator → Option ℤ → Env → EnumItem
enum_item e value env = record { name = env.word e.name; given = option_map (constant_at env) e.value; value = or_zero value }

abbrev pub enum_items : List Enumerator → Option ℤ → Env → List EnumItem
enum_items [] before env = []
enum_items (e ∷ es) before env =
    let value = value_of env e.value before in enum_item e value env ∷ enum_items es value (enumerated e value env)

-- ---- violations

-- a value that is no int
abbrev pub int_fault : ℕ → Option ℤ → Faults → Faults
int_fault at (Some v) vs = fault_if (not (is_in_range Int v)) at 34 vs
int_fault at None vs = vs

abbrev pub given_faults : Env → Option Term → Faults → Faults
given_faults env (Some t) vs = constant_faults env t vs
given_faults env None vs = vs

-- where a number that is no int is named
abbrev pub number_first : ℕ → Option Term → ℕ
number_first name (Some t) = first_of t
number_first name None = name

abbrev pub value_faults : Env → ℕ → Option Term → Option ℤ → Faults → Faults
value_faults env name t before vs = int_fault (number_first name t) (number_of env t before) (given_faults env t vs)

abbrev pub enum_faults : List Enumerator → Option ℤ → Env → Faults → Faults
enum_faults [] before env vs = vs
enum_faults (e ∷ es) before env vs =
    let value = value_of env e.value before in
    enum_faults es value (enumerated e value env) (file_name_faults e.name env (value_faults env e.name e.value before vs))
