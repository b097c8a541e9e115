-- What is written with expressions, by what those are.
use Rattle.std.specs.Prelude.{ℤ, List, [], ◌∷◌, ◌++◌, Option, Some, None, option_map}
use Rattle.c_tree.specs.declared.tree.Expression.{Expression}
use Rattle.c_tree.specs.declared.tree.Item as item
use Rattle.c_tree.specs.declared.tree.Slot.{Slot}
use Rattle.c_tree.specs.declared.tree.Test as test
use Rattle.c_grammar.specs.Terms.{Term}
use Rattle.c_grammar.specs.Items.{Size, NoSize, Unsized, Sized, Declarator, Label, Named, Case, Default}
use Rattle.c_kinds.specs.Constants.{constant_of}
use Rattle.c_kinds.specs.Scopes.{Env}
use Rattle.c_kinds.specs.Values as values
use Rattle.c_statements.specs.declared.extents.Kinded.{Kinded}
use Rattle.c_statements.specs.declared.extents.Length.{Length}
use Rattle.c_statements.specs.declared.extents.Length.TheVariants.{NoLength, OfList, Constant}
use Rattle.c_statements.specs.declared.anchors.Anchor.TheVariants.{Before}
use Rattle.c_statements.specs.Declarations.{or_placeholder, constant_or_placeholder, extent_of, slot, shape_of, cells_of}
use Rattle.c_statements.specs.Statements.{or_dropped}
use Rattle.c_reading_defs.specs.Typings.{Typing}
use Rattle.c_reading_defs.specs.Labels.{InFunction, notes_at, mark}

-- ---- expressions, by the names of each

-- one of which the value is used
abbrev pub value_at : Typing → (Term → Env) → Term → Expression
value_at typing env t = or_placeholder (values.value_of (typing (env t) t))

abbrev pub test_at : Typing → (Term → Env) → Term → test.Test
test_at typing env t = test.Source (value_at typing env t)

-- one of which a value is dropped
abbrev pub dropped_at : Typing → (Term → Env) → Term → Expression
dropped_at typing env t = or_dropped (values.dropped (typing (env t) t))

abbrev pub constant_at : Typing → (Term → Env) → Term → Expression
constant_at typing env t = constant_or_placeholder (constant_of (typing (env t) t))

-- what a constant expression is worth among these names
abbrev pub worth : Typing → Env → Term → Option ℤ
worth typing env t = option_map (λ c. c.1) (constant_of (typing env t))

-- ---- declarations

-- what the brackets behind a name give
abbrev pub length_in : Typing → Env → Size → Length
length_in typing env NoSize = NoLength
length_in typing env Unsized = OfList
length_in typing env (Sized t) = Constant (worth typing env t)

abbrev pub slot_of : Typing → Env → Kinded → Declarator → Slot
slot_of typing env k d = slot (env.word d.name) (shape_of k d) (cells_of (extent_of (length_in typing env d.size) d.value))

-- ---- labels

-- in a nested statement a case or default label is an Arrival
abbrev pub label_items : Typing → InFunction → (Term → Env) → Label → List item.Item
label_items typing f env (Named at after) = mark f at
label_items typing f env (Case at after t) = notes_at f (Before at) ++ item.Arrival (Some (constant_at typing env t)) ∷ []
label_items typing f env (Default at after) = notes_at f (Before at) ++ item.Arrival None ∷ []

abbrev pub labels_items : Typing → InFunction → (Term → Env) → List Label → List item.Item
labels_items typing f env [] = []
labels_items typing f env (l ∷ ls) = label_items typing f env l ++ labels_items typing f env ls

-- the labels with a name stand in the list of a section
abbrev pub section_marks : InFunction → List Label → List item.Item
section_marks f [] = []
section_marks f (Named at after ∷ ls) = mark f at ++ section_marks f ls
section_marks f (l ∷ ls) = section_marks f ls

-- the cases at the head of a section
abbrev pub label_cases : Typing → (Term → Env) → Label → List Expression
label_cases typing env (Case at after t) = constant_at typing env t ∷ []
label_cases typing env _ = []

abbrev pub section_cases : Typing → (Term → Env) → List Label → List Expression
section_cases typing env [] = []
section_cases typing env (l ∷ ls) = label_cases typing env l ++ section_cases typing env ls

-- ---- enum constants

-- the number that is written for a constant, or else this one
abbrev pub written_or : Typing → Env → Option Term → Option ℤ → Option ℤ
written_or typing env (Some t) other = worth typing env t
written_or typing env None other = other
