-- The rule for arrays and their initialisers (ISO/IEC 9899:2011, 6.7.6.2 and 6.7.9).
use Rattle.std.specs.Prelude.{◌≡◌, ◌<◌, ℕ, ℤ, Bool, true, List, length, Some, None}
use Rattle.c_grammar.specs.Terms.{Term}
use Rattle.c_grammar.specs.Items.{Size, NoSize, Unsized, Sized, Initialiser, NoValue, OneValue, ValueList}
use Rattle.c_kinds.specs.Scopes.{Env}
use Rattle.c_statements.specs.Declarations.{in_bounds, is_array}
use Rattle.c_reading_defs.specs.Typings.{Typing}
use Rattle.c_reading_defs.specs.Written.{worth}

-- an array with these brackets and this list has n cells: what the constant says, if it is one from 1 to 65,536, or as many as
-- the list has values
abbrev pub HasCells : Typing → Env → Size → List Term → ℕ → Type 0
HasCells typing env NoSize ts n = ⊥
HasCells typing env Unsized ts n = n ≡ length ts
HasCells typing env (Sized t) ts n = (z : ℤ) × ((worth typing env t ≡ Some z) × (in_bounds z ≡ Some n))

-- brackets behind a name, and what follows them, that go wrong together; `local` says that it is a variable of a block
pub data ArrayBreaks (typing : Typing) (env : Env) (local : Bool) : Size → Initialiser → Type 0 where
  length_outside : {t : Term} {value : Initialiser} (z : ℤ) → worth typing env t ≡ Some z → in_bounds z ≡ None → ArrayBreaks typing env local (Sized t) value
  long_list : {ts : List Term} → 65536 < length ts → ArrayBreaks typing env local Unsized (ValueList ts)
  no_list : ArrayBreaks typing env local Unsized NoValue
  -- one without braces
  bare_value : {size : Size} {t : Term} → is_array size ≡ true → ArrayBreaks typing env local size (OneValue t)
  -- a variable that is no array
  list_of_number : {ts : List Term} → ArrayBreaks typing env local NoSize (ValueList ts)
  more_values : {size : Size} {ts : List Term} (n : ℕ) → HasCells typing env size ts n → n < length ts → ArrayBreaks typing env local size (ValueList ts)
  long_local : {size : Size} {ts : List Term} (n : ℕ) → local ≡ true → HasCells typing env size ts n → 1024 < n →
      ArrayBreaks typing env local size (ValueList ts)
