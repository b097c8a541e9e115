-- Functions (ISO/IEC 9899:2011, 6.9.1): what their definition gives, and its violations.
use Rattle.std.specs.Prelude.{ℕ, Bool, false, cond, List, [], ◌∷◌, ◌++◌, map, length, Option, Some, None, option_map, is_some}
use Rattle.c_types.specs.declared.kinds.IntKind.{IntKind}
use Rattle.c_tree.specs.declared.tree.Slot.{Slot}
use Rattle.c_tree.specs.declared.tree.Function as tree
use Rattle.c_tree.specs.declared.tree.Item as item
use Rattle.c_grammar.specs.Items.{Body, Braces, Lone}
use Rattle.c_grammar.specs.Tops.{Parameter, Function}
use Rattle.c_grammar.specs.Words.{kind_of}
use Rattle.c_kinds.specs.declared.binding.Shape.{Shape}
use Rattle.c_kinds.specs.declared.binding.Want.{Want}
use Rattle.c_kinds.specs.declared.binding.Want.TheVariants as want
use Rattle.c_kinds.specs.declared.binding.Signature.{Signature}
use Rattle.c_kinds.specs.declared.binding.Binding.TheVariants.{Local}
use Rattle.c_kinds.specs.Scopes.{Scope, Faults, fault_if, bind, bind_fault}
use Rattle.c_statements.specs.Context.{Anchor, AtEnd, Context, Walk, env_in, notes_at, no_construct}
use Rattle.c_statements.specs.Declarations.{is_array, size_faults}
use Rattle.c_statements.specs.Labels.{body_labels, numbers, distinct, twice_faults}
use Rattle.c_statements.specs.Statements.{list_items, item_items, behind_items, behind_item}
use Rattle.c_statements.specs.Violations.{list_faults, item_faults}
use Rattle.c_statements.specs.Measures.{body_depth, body_longest, is_tangled}
use Rattle.c_statements.specs.declared.measures.Measures.{Measures}

-- ---- parameters

abbrev pub result_kind : (ℕ → List ℕ) → Function → Option IntKind
result_kind word f = option_map (kind_of word) f.words

-- what the argument has to be; a function without a body in the file takes no array
abbrev pub want_of : (ℕ → List ℕ) → Bool → Parameter → Want
want_of word external x = cond (is_array x.size) (want.Array (kind_of word x.words) x.constant external) (want.Number (kind_of word x.words) x.constant)

abbrev pub signature : (ℕ → List ℕ) → Bool → Function → Signature
signature word external f = record { result = result_kind word f; wants = map (want_of word external) f.parameters }

-- a parameter without a name has the empty name
abbrev pub parameter_name : (ℕ → List ℕ) → Option ℕ → List ℕ
parameter_name word None = []
parameter_name word (Some at) = word at

abbrev pub parameter_slot : (ℕ → List ℕ) → Parameter → Slot
parameter_slot word x = record {
  name = parameter_name word x.name;
  kind = kind_of word x.words;
  cells = cond (is_array x.size) (Some 0) None;
  constant = x.constant;
}

abbrev pub parameter_shape : (ℕ → List ℕ) → Parameter → Shape
parameter_shape word x = record { kind = kind_of word x.words; array = is_array x.size; constant = x.constant }

abbrev pub bind_parameter : (ℕ → List ℕ) → Parameter → Walk → Walk
bind_parameter word x w =
    record {
      scopes = elim x.name [ Some at ↦ bind (word at) (Local (length w.slots) (parameter_shape word x)) w.scopes | None ↦ w.scopes ];
      slots = w.slots ++ parameter_slot word x ∷ [];
    }

abbrev pub bind_parameters : (ℕ → List ℕ) → List Parameter → Walk → Walk
bind_parameters word [] w = w
bind_parameters word (x ∷ xs) w = bind_parameters word xs (bind_parameter word x w)

-- a parameter without a name in a definition, and one that is declared twice; a length is a constant
abbrev pub parameter_fault : (ℕ → List ℕ) → Bool → Parameter → Walk → Faults → Faults
parameter_fault word defines x w vs =
    elim x.name [
      | Some at ↦ bind_fault at (word at) w.scopes (size_faults (env_in word w) x.size vs)
      | None ↦ fault_if defines x.first 43 (size_faults (env_in word w) x.size vs)
    ]

abbrev pub parameters_faults : (ℕ → List ℕ) → Bool → List Parameter → Walk → Faults → Faults
parameters_faults word defines [] w vs = vs
parameters_faults word defines (x ∷ xs) w vs = parameters_faults word defines xs (bind_parameter word x w) (parameter_fault word defines x w vs)

-- ---- bodies: the parameters and the outermost list are one scope

abbrev pub body_items : Context → Body → Walk → List item.Item
body_items ctx (Braces first after xs) w = list_items ctx xs w ++ notes_at ctx (AtEnd first)
body_items ctx (Lone first after x) w = item_items ctx x w ++ notes_at ctx (AtEnd first)

abbrev pub behind_body : Context → Body → Walk → Walk
behind_body ctx (Braces first after xs) w = behind_items ctx xs w
behind_body ctx (Lone first after x) w = behind_item ctx x w

abbrev pub body_faults : Context → Body → Walk → Faults → Faults
body_faults ctx (Braces first after xs) w vs = list_faults ctx no_construct xs w vs
body_faults ctx (Lone first after x) w vs = item_faults ctx no_construct x w vs

-- what is known in a function with this body
abbrev pub context : (ℕ → List ℕ) → (Anchor → List (List ℕ)) → Function → Body → Context
context word notes f b = record { word = word; notes = notes; labels = numbers (map word (body_labels b [])); result = result_kind word f }

-- in the scope of its parameters, before them and behind them
abbrev pub entered : List Scope → Walk
entered scopes = record { scopes = [] ∷ scopes; slots = [] }

abbrev pub inside : (ℕ → List ℕ) → Function → List Scope → Walk
inside word f scopes = bind_parameters word f.parameters (entered scopes)

abbrev pub function : (ℕ → List ℕ) → Function → List Slot → List (List ℕ) → Option (List item.Item) → tree.Function
function word f slots labels body =
    record {
      name = word f.name;
      result = result_kind word f;
      file_only = f.static;
      params = length f.parameters;
      slots = slots;
      labels = labels;
      body = body;
      flat = false;
    }

-- what the body gives, if there is one, behind the parameters

abbrev pub labels_within : (ℕ → List ℕ) → Option Body → List (List ℕ)
labels_within word None = []
labels_within word (Some b) = distinct (map word (body_labels b []))

abbrev pub items_within : (ℕ → List ℕ) → (Anchor → List (List ℕ)) → Function → Option Body → Walk → Option (List item.Item)
items_within word notes f None w = None
items_within word notes f (Some b) w = Some (body_items (context word notes f b) b w)

abbrev pub behind_within : (ℕ → List ℕ) → (Anchor → List (List ℕ)) → Function → Option Body → Walk → Walk
behind_within word notes f None w = w
behind_within word notes f (Some b) w = behind_body (context word notes f b) b w

abbrev pub function_of : (ℕ → List ℕ) → (Anchor → List (List ℕ)) → Function → List Scope → tree.Function
function_of word notes f scopes =
    let w = inside word f scopes in
    function word f (behind_within word notes f f.body w).slots (labels_within word f.body) (items_within word notes f f.body w)

-- ---- violations in a function

-- The numbers of gotos and labels of the flat form of a body, which has one if it has jumps.
abbrev pub FlatCounts : Type 0
FlatCounts = List item.Item → Option (ℕ × ℕ)

abbrev pub measures : (ℕ → List ℕ) → Function → Body → ℕ × ℕ → Measures
measures word f b flat = record { depth = body_depth b; counted = f.counted; jumps = flat.0; labels = flat.1; longest = body_longest word b }

-- a function with jumps that is too tangled
abbrev pub tangle_fault : FlatCounts → (ℕ → List ℕ) → Function → Body → List item.Item → Faults → Faults
tangle_fault flat word f b items vs = elim (flat items) [ Some n ↦ fault_if (is_tangled (measures word f b n)) f.name 39 vs | None ↦ vs ]

-- in the body, if there is one
abbrev pub faults_within : FlatCounts → (ℕ → List ℕ) → (Anchor → List (List ℕ)) → Function → Option Body → Walk → Faults → Faults
faults_within flat word notes f None w vs = vs
faults_within flat word notes f (Some b) w vs =
    let ctx = context word notes f b in
    tangle_fault flat word f b (body_items ctx b w)
    (body_faults ctx b w
    (twice_faults word (body_labels b []) vs))

abbrev pub function_faults : FlatCounts → (ℕ → List ℕ) → (Anchor → List (List ℕ)) → Function → List Scope → Faults → Faults
function_faults flat word notes f scopes vs =
    faults_within flat word notes f f.body (inside word f scopes) (parameters_faults word (is_some f.body) f.parameters (entered scopes) vs)
