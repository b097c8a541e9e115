-- The scope of a file.
use Rattle.std.specs.Prelude.{◌≡◌, ℕ, ℤ, pos, List, [], ◌∷◌, ◌++◌, map, reverse, Option, Some, option_and_then}
use Rattle.c_lexer.specs.Behind.{each_behind}
use Rattle.c_grammar.specs.Items.{Declarator}
use Rattle.c_grammar.specs.Tops.{Enumerator, Function, Form, Enum, Globals, Defines, Top, From}
use Rattle.c_kinds.specs.declared.binding.Binding.TheVariants as binding
use Rattle.c_kinds.specs.declared.binding.Binding.TheVariants.{Constant, Global}
use Rattle.c_statements.specs.declared.extents.Kinded.{Kinded}
use Rattle.c_statements.specs.Declarations.{kinded, shape_of}
use Rattle.c_scopes.specs.Enums.{an_int, next_value, or_zero}
use Rattle.c_scopes.specs.Files.{File}
use Rattle.c_scopes.specs.FunctionNames.{signature_in}
use Rattle.c_reading_defs.specs.Typings.{Typing}
use Rattle.c_reading_defs.specs.Written.{written_or}
use Rattle.c_reading_defs.specs.Scopes.{Identifier, names_at}

-- ---- enum constants (6.7.2.2, 3)

-- a number, if it is an int
abbrev pub int_only : Option ℤ → Option ℤ
int_only n = option_and_then an_int n

-- the number of a constant behind these, which stand with the last first: the one that is written for it, or else one more than
-- the value of the constant in front of it, and 0 for the first of all
abbrev pub number_behind : Typing → (ℕ → List ℕ) → List (List Identifier) → List Enumerator → Enumerator → Option ℤ
number_behind typing word scopes [] e = written_or typing (names_at word scopes e.name) e.value (Some (pos 0))
number_behind typing word scopes (d ∷ before) e =
    written_or typing (names_at word scopes e.name) e.value (next_value (int_only (number_behind typing word scopes before d)))

-- the number of a constant with these in front of it, in text order
abbrev pub enumerator_number : Typing → (ℕ → List ℕ) → List (List Identifier) → List Enumerator → Enumerator → Option ℤ
enumerator_number typing word scopes front e = number_behind typing word scopes (reverse front) e

-- its value: none where its number is no int
abbrev pub enumerator_value : Typing → (ℕ → List ℕ) → List (List Identifier) → List Enumerator → Enumerator → Option ℤ
enumerator_value typing word scopes front e = int_only (enumerator_number typing word scopes front e)

abbrev pub enum_constant : Typing → (ℕ → List ℕ) → List (List Identifier) → List Enumerator → Enumerator → Identifier
enum_constant typing word scopes front e =
    record { at = e.name; name = word e.name; binding = Constant (or_zero (enumerator_value typing word scopes front e)) }

-- ---- variables and functions

abbrev pub global_variable : (ℕ → List ℕ) → Kinded → Declarator → Identifier
global_variable word k d = record { at = d.name; name = word d.name; binding = Global (shape_of k d) }

-- a function is known in its own parameters and its own body
abbrev pub function_identifier : File → Function → Identifier
function_identifier file f = record { at = f.name; name = file.word f.name; binding = binding.Function (signature_in file.bodies file.word f) }

-- ---- files

abbrev pub form_identifiers : Typing → File → List (List Identifier) → Form → List Identifier
form_identifiers typing file scopes (Enum es) = each_behind (enum_constant typing file.word scopes) es
form_identifiers typing file scopes (Globals static d) = map (global_variable file.word (kinded file.word d)) d.names
form_identifiers typing file scopes (Defines f) = function_identifier file f ∷ []
form_identifiers typing file scopes _ = []

-- what a file declares, where expressions have the names of these scopes
abbrev pub file_identifiers : Typing → File → List (List Identifier) → List Top → List Identifier
file_identifiers typing file scopes [] = []
file_identifiers typing file scopes (From first after form ∷ xs) = form_identifiers typing file scopes form ++ file_identifiers typing file scopes xs

-- the scope of a file: what it declares, where expressions have the names of this same scope
abbrev pub IsFileScope : Typing → File → List Top → List Identifier → Type 0
IsFileScope typing file xs scope = scope ≡ file_identifiers typing file (scope ∷ []) xs
