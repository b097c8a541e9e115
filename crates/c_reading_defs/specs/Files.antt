-- The rules for file scope (ISO/IEC 9899:2011, 6.9), and all that a file can break.
use Rattle.std.specs.Prelude.{◌≡◌, ◌⊎◌, ℕ, ℤ, true, false, List, [], ◌∷◌, codes, Option, Some, None}
use Rattle.c_types.specs.declared.kinds.IntKind.TheVariants.{Int}
use Rattle.c_types.specs.Numbers.{is_in_range}
use Rattle.c_types.specs.Words.{is_known}
use Rattle.c_grammar.specs.Terms.{Term}
use Rattle.c_grammar.specs.Items.{Declarator}
use Rattle.c_grammar.specs.Tops.{Enumerator, Function, Form, Enum, Globals, Defines, Top, From}
use Rattle.c_kinds.specs.declared.binding.Signature.{Signature}
use Rattle.c_kinds.specs.declared.binding.Binding.TheVariants as binding
use Rattle.c_kinds.specs.declared.typed.Fault.{Fault}
use Rattle.c_kinds.specs.Scopes.{Env, Scope}
use Rattle.c_scopes.specs.Enums.{number_first}
use Rattle.c_scopes.specs.Files.{File}
use Rattle.c_scopes.specs.FunctionNames.{has_body, is_main_form, same_signature, signature_in}
use Rattle.c_reading_defs.specs.Typings.{Typing}
use Rattle.c_reading_defs.specs.Bindings.{IsDeclared, IsDeclaredAs}
use Rattle.c_reading_defs.specs.Arrays.{ArrayBreaks}
use Rattle.c_reading_defs.specs.Declared.{SizeBreaks, InitialiserBreaks}
use Rattle.c_reading_defs.specs.Expressions.{NeedsConstant, ExpressionBreaks}
use Rattle.c_reading_defs.specs.Scopes.{Identifier, scopes_at, names_at, names_for}
use Rattle.c_reading_defs.specs.FileScopes.{enumerator_number}
use Rattle.c_reading_defs.specs.Behind.{SomeOf, SomeBehind}
use Rattle.c_reading_defs.specs.Functions.{FunctionBreaks}
use Rattle.c_reading_defs.specs.Violations.{broken}

-- the name of an enum constant or a variable
pub data FileNameBreaks (word : ℕ → List ℕ) (scopes : List (List Identifier)) (at : ℕ) : Fault → Type 0 where
  declared_twice : IsDeclared (word at) (scopes_at scopes at) → FileNameBreaks word scopes at (broken at 21)
  known_function : is_known (word at) ≡ true → FileNameBreaks word scopes at (broken at 21)
  is_main : word at ≡ codes "main" → FileNameBreaks word scopes at (broken at 36)

-- ---- enums

-- a constant of this number
pub data EnumeratorBreaks (number : Option ℤ) (e : Enumerator) : Fault → Type 0 where
  no_int : (n : ℤ) → number ≡ Some n → is_in_range Int n ≡ false → EnumeratorBreaks number e (broken (number_first e.name e.value) 34)

-- the value that is written for a constant, if one is
abbrev pub GivenBreaks : Env → Option Term → Fault → Type 0
GivenBreaks env (Some t) v = ExpressionBreaks env NeedsConstant t v
GivenBreaks env None v = ⊥

-- at one constant with these in front of it: its value and its name
abbrev pub ConstantBreaks : Typing → (ℕ → List ℕ) → List (List Identifier) → List Enumerator → Enumerator → Fault → Type 0
ConstantBreaks typing word scopes front e v =
    GivenBreaks (names_at word scopes e.name) e.value v
    ⊎ (EnumeratorBreaks (enumerator_number typing word scopes front e) e v ⊎ FileNameBreaks word scopes e.name v)

-- ---- variables

-- the declarator of a variable of the file
pub data GlobalBreaks (typing : Typing) (env : Env) (d : Declarator) : Fault → Type 0 where
  bad_array : ArrayBreaks typing env false d.size d.value → GlobalBreaks typing env d (broken d.name 35)

-- at one name: its length, its declarator and its values
abbrev pub VariableBreaks : Typing → (ℕ → List ℕ) → List (List Identifier) → Declarator → Fault → Type 0
VariableBreaks typing word scopes d v =
    let env = names_at word scopes d.name in
    SizeBreaks env d.size v
    ⊎ (GlobalBreaks typing env d v
    ⊎ (FileNameBreaks word scopes d.name v
    ⊎ InitialiserBreaks (names_for word scopes) NeedsConstant d.value v))

-- ---- names of functions

-- one of these defines the function
abbrev pub IsDefinedIn : (ℕ → List ℕ) → List ℕ → List Top → Type 0
IsDefinedIn word name [] = ⊥
IsDefinedIn word name (From first after (Defines f) ∷ xs) = ((has_body f ≡ true) × (name ≡ word f.name)) ⊎ IsDefinedIn word name xs
IsDefinedIn word name (From first after _ ∷ xs) = IsDefinedIn word name xs

-- the name of a function, behind these of the file, where these scopes are round it
pub data FunctionNameBreaks (file : File) (before : List Top) (ss : List Scope) (f : Function) : Fault → Type 0 where
  known_function : is_known (file.word f.name) ≡ true → FunctionNameBreaks file before ss f (broken f.name 21)
  no_function : IsDeclared (file.word f.name) ss → ((s : Signature) → IsDeclaredAs (file.word f.name) (binding.Function s) ss → ⊥) →
      FunctionNameBreaks file before ss f (broken f.name 21)
  second_body : (s : Signature) → IsDeclaredAs (file.word f.name) (binding.Function s) ss → has_body f ≡ true →
      IsDefinedIn file.word (file.word f.name) before → FunctionNameBreaks file before ss f (broken f.name 21)
  other_main : file.word f.name ≡ codes "main" → is_main_form file.word f ≡ false → FunctionNameBreaks file before ss f (broken f.name 36)
  disagrees : (s : Signature) → IsDeclaredAs (file.word f.name) (binding.Function s) ss →
      same_signature s (signature_in file.bodies file.word f) ≡ false → FunctionNameBreaks file before ss f (broken f.name 37)

-- ---- files

-- in a declaration or a function, behind these of the file
abbrev pub FormBreaks : Typing → File → List (List Identifier) → List Top → Form → Fault → Type 0
FormBreaks typing file scopes before (Enum es) v = SomeBehind (λ front e. ConstantBreaks typing file.word scopes front e v) es
FormBreaks typing file scopes before (Globals static d) v = SomeOf (λ x. VariableBreaks typing file.word scopes x v) d.names
FormBreaks typing file scopes before (Defines f) v = FunctionNameBreaks file before (scopes_at scopes f.name) f v ⊎ FunctionBreaks typing file.flat
    file.word file.notes f scopes v
FormBreaks typing file scopes before _ v = ⊥

abbrev pub TopBreaks : Typing → File → List (List Identifier) → List Top → Top → Fault → Type 0
TopBreaks typing file scopes before (From first after form) v = FormBreaks typing file scopes before form v

-- a rule for names, kinds or statements is broken in a file of this scope: at this token, for this reason; all rules are reached
-- from here
abbrev pub IsViolation : Typing → File → List Identifier → List Top → Fault → Type 0
IsViolation typing file scope xs v = SomeBehind (λ before x. TopBreaks typing file (scope ∷ []) before x v) xs
