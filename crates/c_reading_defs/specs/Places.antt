-- The places of a function, each told by what stands round it.
use Rattle.std.specs.Prelude.{ℕ, List, [], ◌∷◌, ◌++◌, map, flat_map, Option, Some, None}
use Rattle.c_grammar.specs.Terms.{Term}
use Rattle.c_grammar.specs.Items.{Declarator, Declaration, Start, StartNames, Item, Declares, States, Body, Items, NoItem, Then, items_in}
use Rattle.c_grammar.specs.Tops.{Parameter, Function}
use Rattle.c_kinds.specs.declared.binding.Binding.TheVariants.{Local}
use Rattle.c_kinds.specs.Scopes.{Env}
use Rattle.c_statements.specs.declared.extents.Kinded.{Kinded}
use Rattle.c_statements.specs.Context.{Around, no_construct, in_loop, in_switch}
use Rattle.c_statements.specs.Declarations.{kinded, shape_of}
use Rattle.c_statements.specs.Functions.{parameter_shape}
use Rattle.c_reading_defs.specs.Labels.{InFunction}
use Rattle.c_reading_defs.specs.Scopes.{Identifier, names_at, names_for}
use Rattle.c_reading_defs.specs.Variables.{variable_number}

pub record Place : Type 0 where
  -- the scopes round it, the nearest first
  pub scopes : List (List Identifier)
  -- the constructs round it
  pub around : Around

-- the names of an expression
abbrev pub names : InFunction → Place → Term → Env
names f p t = names_for f.word p.scopes t

-- the names of what stands in brackets behind a declared name
abbrev pub names_behind : InFunction → Place → ℕ → Env
names_behind f p name = names_at f.word p.scopes name

-- ---- what is declared

abbrev pub variable : InFunction → Kinded → Declarator → Identifier
variable f k d = record { at = d.name; name = f.word d.name; binding = Local (variable_number f.variables d.name) (shape_of k d) }

abbrev pub declared : InFunction → Declaration → List Identifier
declared f d = map (variable f (kinded f.word d)) d.names

-- by an item of a list; what stands within the item has scopes of its own
abbrev pub item_identifiers : InFunction → Item → List Identifier
item_identifiers f (Declares first after d) = declared f d
item_identifiers f (States ls s) = []

abbrev pub list_identifiers : InFunction → Items → List Identifier
list_identifiers f NoItem = []
list_identifiers f (Then x xs) = item_identifiers f x ++ list_identifiers f xs

abbrev pub start_identifiers : InFunction → Start → List Identifier
start_identifiers f (StartNames d) = declared f d
start_identifiers f _ = []

abbrev pub parameter_identifier : InFunction → Parameter → List Identifier
parameter_identifier f x = elim x.name [
  | Some at ↦ record {
    at = at;
    name = f.word at;
    binding = Local (variable_number f.variables x.first) (parameter_shape f.word x);
  } ∷ []
  | None ↦ []
]

-- ---- into a construct

-- a list is a scope of its own
abbrev pub within : InFunction → Body → Place → Place
within f b p = record { scopes = list_identifiers f (items_in b) ∷ p.scopes; around = p.around }

-- so is a `for`, with what its first part declares
abbrev pub within_for : InFunction → Start → Place → Place
within_for f start p = record { scopes = start_identifiers f start ∷ p.scopes; around = p.around }

abbrev pub within_loop : Place → Place
within_loop p = record { scopes = p.scopes; around = in_loop p.around }

abbrev pub within_switch : Place → Place
within_switch p = record { scopes = p.scopes; around = in_switch p.around }

abbrev pub outermost_identifiers : InFunction → Option Body → List Identifier
outermost_identifiers f None = []
outermost_identifiers f (Some b) = list_identifiers f (items_in b)

-- the parameters of a function and its outermost list are one scope
abbrev pub within_function : InFunction → Function → List (List Identifier) → Place
within_function f fn scopes = record {
  scopes = (flat_map (parameter_identifier f) fn.parameters ++ outermost_identifiers f fn.body) ∷ scopes;
  around = no_construct;
}
