-- The bodies of functions, and functions (ISO/IEC 9899:2011, 6.9.1).
use Rattle.std.specs.Prelude.{ℕ, List, [], ◌++◌, map, Option, Some, None, option_map}
use Rattle.c_tree.specs.declared.tree.Slot.{Slot}
use Rattle.c_tree.specs.declared.tree.Item as item
use Rattle.c_tree.specs.declared.tree.Function as tree
use Rattle.c_grammar.specs.Items.{Body, Braces, Lone}
use Rattle.c_grammar.specs.Tops.{Function}
use Rattle.c_statements.specs.declared.anchors.Anchor.{Anchor}
use Rattle.c_statements.specs.declared.anchors.Anchor.TheVariants.{AtEnd}
use Rattle.c_statements.specs.Functions.{result_kind, parameter_slot, function}
use Rattle.c_reading_defs.specs.Typings.{Typing}
use Rattle.c_reading_defs.specs.Scopes.{Identifier}
use Rattle.c_reading_defs.specs.Places.{Place, within_function}
use Rattle.c_reading_defs.specs.Labels.{InFunction, notes_at, distinct_labels}
use Rattle.c_reading_defs.specs.Variables.{variables_of}
use Rattle.c_reading_defs.specs.Slots.{slots_in, slots_of_list}
use Rattle.c_reading_defs.specs.Items.{item_items, list_items}

abbrev pub labels_within : (ℕ → List ℕ) → Option Body → List (List ℕ)
labels_within word None = []
labels_within word (Some b) = distinct_labels word b

-- what is known in a function
abbrev pub known : (ℕ → List ℕ) → (Anchor → List (List ℕ)) → Function → InFunction
known word notes f = record { word = word; notes = notes; labels = labels_within word f.body; variables = variables_of f; result = result_kind word f }

-- the place of its parameters and its outermost list
abbrev pub inside : (ℕ → List ℕ) → (Anchor → List (List ℕ)) → Function → List (List Identifier) → Place
inside word notes f scopes = within_function (known word notes f) f scopes

-- the outermost list has no scope of its own
abbrev pub outermost_items : Typing → InFunction → Body → Place → List item.Item
outermost_items typing f (Braces first after xs) p = list_items typing f xs p ++ notes_at f (AtEnd first)
outermost_items typing f (Lone first after x) p = item_items typing f x p ++ notes_at f (AtEnd first)

abbrev pub body_slots : Typing → InFunction → Body → Place → List Slot
body_slots typing f (Braces first after xs) p = slots_of_list typing f xs p
body_slots typing f (Lone first after x) p = slots_in typing f x p

abbrev pub slots_within : Typing → InFunction → Option Body → Place → List Slot
slots_within typing f None p = []
slots_within typing f (Some b) p = body_slots typing f b p

abbrev pub function_of : Typing → (ℕ → List ℕ) → (Anchor → List (List ℕ)) → Function → List (List Identifier) → tree.Function
function_of typing word notes f scopes =
    let p = inside word notes f scopes in
    function word f (map (parameter_slot word) f.parameters ++ slots_within typing (known word notes f) f.body p) (labels_within word f.body)
    (option_map (λ b. outermost_items typing (known word notes f) b p) f.body)
