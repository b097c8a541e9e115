-- The rules for functions (ISO/IEC 9899:2011, 6.9.1), and which ones are too tangled.
use Rattle.std.specs.Prelude.{◌≡◌, ◌⊎◌, ℕ, Bool, true, List, map, Option, Some, None, is_some}
use Rattle.c_grammar.specs.Items.{Body, Braces, Lone}
use Rattle.c_grammar.specs.Tops.{Parameter, Function}
use Rattle.c_kinds.specs.declared.typed.Fault.{Fault}
use Rattle.c_statements.specs.declared.anchors.Anchor.{Anchor}
use Rattle.c_statements.specs.Functions.{FlatCounts, measures}
use Rattle.c_statements.specs.Measures.{is_tangled}
use Rattle.c_reading_defs.specs.Typings.{Typing}
use Rattle.c_reading_defs.specs.Bodies.{known, inside, outermost_items}
use Rattle.c_reading_defs.specs.Behind.{SomeOf, SomeBehind, IsOne}
use Rattle.c_reading_defs.specs.Bindings.{IsDeclared}
use Rattle.c_reading_defs.specs.Declared.{SizeBreaks}
use Rattle.c_reading_defs.specs.Scopes.{Identifier, scopes_at}
use Rattle.c_reading_defs.specs.Places.{Place, names_behind}
use Rattle.c_reading_defs.specs.Labels.{InFunction, body_labels}
use Rattle.c_reading_defs.specs.Statements.{ItemBreaks, ListBreaks}
use Rattle.c_reading_defs.specs.Violations.{broken}

-- ---- parameters

-- a parameter; a function with a body `defines`
pub data ParameterBreaks (f : InFunction) (p : Place) (defines : Bool) (x : Parameter) : Fault → Type 0 where
  declared_twice : (at : ℕ) → x.name ≡ Some at → IsDeclared (f.word at) (scopes_at p.scopes at) → ParameterBreaks f p defines x (broken at 21)
  no_name : defines ≡ true → x.name ≡ None → ParameterBreaks f p defines x (broken x.first 43)

abbrev pub ParametersBreak : InFunction → Place → Bool → List Parameter → Fault → Type 0
ParametersBreak f p defines xs v = SomeOf (λ x. SizeBreaks (names_behind f p x.first) x.size v ⊎ ParameterBreaks f p defines x v) xs

-- ---- labels, behind these of the same function

pub data LabelTwice (word : ℕ → List ℕ) (before : List ℕ) : ℕ → Fault → Type 0 where
  label_twice : {at : ℕ} → IsOne (word at) (map word before) → LabelTwice word before at (broken at 32)

-- ---- bodies

-- the parameters and the outermost list are one scope
abbrev pub OutermostBreaks : Typing → InFunction → Place → Body → Fault → Type 0
OutermostBreaks typing f p (Braces first after xs) v = ListBreaks typing f p xs v
OutermostBreaks typing f p (Lone first after x) v = ItemBreaks typing f p x v

-- a function that is too tangled; `flat` gives counts for a body with jumps, and none for another
pub data Tangled (typing : Typing) (flat : FlatCounts) (word : ℕ → List ℕ) (notes : Anchor → List (List ℕ)) (f : Function) (b : Body)
    (scopes : List (List Identifier)) : Fault → Type 0 where
  tangled : (counts : ℕ × ℕ) → flat (outermost_items typing (known word notes f) b (inside word notes f scopes)) ≡ Some counts →
      is_tangled (measures word f b counts) ≡ true → Tangled typing flat word notes f b scopes (broken f.name 39)

-- the labels, the statements and the size of a function with a body
abbrev pub DefinitionBreaks : Typing → FlatCounts → (ℕ → List ℕ) → (Anchor → List (List ℕ)) → Function → List (List Identifier) → Option Body → Fault → Type 0
DefinitionBreaks typing flat word notes f scopes None v = ⊥
DefinitionBreaks typing flat word notes f scopes (Some b) v =
    SomeBehind (λ before at. LabelTwice word before at v) (body_labels b)
    ⊎ (OutermostBreaks typing (known word notes f) (inside word notes f scopes) b v
    ⊎ Tangled typing flat word notes f b scopes v)

-- in a function, which these scopes are round
abbrev pub FunctionBreaks : Typing → FlatCounts → (ℕ → List ℕ) → (Anchor → List (List ℕ)) → Function → List (List Identifier) → Fault → Type 0
FunctionBreaks typing flat word notes f scopes v = ParametersBreak (known word notes f) (inside word notes f scopes) (is_some f.body) f.parameters v ⊎
    DefinitionBreaks typing flat word notes f scopes f.body v
