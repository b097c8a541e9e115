-- Declared variables (ISO/IEC 9899:2011, 6.7): what they are, their slots, their initialisers, and the violations.
use Rattle.std.specs.Prelude.{ℕ, ℤ, pos, Bool, true, false, cond, ◌&&◌, ◌||◌, nat_le, nat_lt, List, [], ◌∷◌, ◌++◌, map, Option, Some, None, length, is_some, not, option_map}
use Rattle.c_types.specs.declared.kinds.IntKind.TheVariants.{Int}
use Rattle.c_tree.specs.declared.tree.Slot.{Slot}
use Rattle.c_tree.specs.declared.tree.Item.{Item}
use Rattle.c_tree.specs.declared.tree.Item as item
use Rattle.c_tree.specs.declared.tree.Node as node
use Rattle.c_tree.specs.declared.tree.Expression.{Expression}
use Rattle.c_grammar.specs.Terms.{Term}
use Rattle.c_grammar.specs.Items.{Size, NoSize, Unsized, Sized, Initialiser, NoValue, OneValue, ValueList, Declarator, Declaration}
use Rattle.c_grammar.specs.Words.{kind_of}
use Rattle.c_kinds.specs.declared.binding.Shape.{Shape}
use Rattle.c_kinds.specs.declared.binding.Binding.TheVariants.{Local}
use Rattle.c_kinds.specs.declared.typed.Valued.{Valued}
use Rattle.c_kinds.specs.Scopes.{Env, Scope, Faults, fault_if, bind, bind_fault}
use Rattle.c_kinds.specs.Values.{expression_of, expression, value_of}
use Rattle.c_kinds.specs.Constants.{constant_of}
use Rattle.c_kinds.specs.Typing.{typed, faults, used, constant_faults}
use Rattle.c_statements.specs.declared.extents.Kinded.{Kinded}
use Rattle.c_statements.specs.declared.extents.Length.{Length}
use Rattle.c_statements.specs.declared.extents.Length.TheVariants.{NoLength, OfList, Constant}
use Rattle.c_statements.specs.declared.extents.Extent.{Extent}
use Rattle.c_statements.specs.declared.extents.Extent.TheVariants.{One, Many, Unclear}
use Rattle.c_statements.specs.Context.{Walk, env_in}

-- ---- expressions of declarations and statements

-- in the place of an expression with a violation
abbrev pub placeholder : Expression
placeholder = expression_of (Some Int) (node.Number (pos 0))

abbrev pub or_placeholder : Option Valued → Expression
or_placeholder (Some v) = expression v
or_placeholder None = placeholder

-- an expression of which the value is used
abbrev pub value_at : Env → Term → Expression
value_at env t = or_placeholder (value_of (typed env t))

abbrev pub constant_or_placeholder : Option (Expression × ℤ) → Expression
constant_or_placeholder (Some c) = c.0
constant_or_placeholder None = placeholder

abbrev pub constant_at : Env → Term → Expression
constant_at env t = constant_or_placeholder (constant_of (typed env t))

abbrev pub value_faults : Env → Term → Faults → Faults
value_faults env t vs = used env t (faults env t vs)

abbrev pub each_faults : (Term → Faults → Faults) → List Term → Faults → Faults
each_faults k [] vs = vs
each_faults k (t ∷ ts) vs = each_faults k ts (k t vs)

-- ---- lengths

-- the lengths that an array can have
abbrev pub in_bounds : ℤ → Option ℕ
in_bounds (pos n) = cond (nat_le 1 n && nat_le n 65536) (Some n) None
in_bounds _ = None

-- what the brackets behind a name give
abbrev pub length_in : Env → Size → Length
length_in env NoSize = NoLength
length_in env Unsized = OfList
length_in env (Sized t) = Constant (option_map (λ c. c.1) (constant_of (typed env t)))

abbrev pub of_length : Option ℕ → Extent
of_length (Some n) = Many n
of_length None = Unclear

abbrev pub constant_extent : Option ℤ → Extent
constant_extent (Some n) = of_length (in_bounds n)
constant_extent None = Unclear

-- an array without a length has that of its list
abbrev pub listed_extent : Initialiser → Extent
listed_extent (ValueList ts) = Many (length ts)
listed_extent _ = Unclear

abbrev pub extent_of : Length → Initialiser → Extent
extent_of NoLength value = One
extent_of OfList value = listed_extent value
extent_of (Constant n) value = constant_extent n

abbrev pub extent : Env → Size → Initialiser → Extent
extent env size value = extent_of (length_in env size) value

abbrev pub cells_of : Extent → Option ℕ
cells_of One = None
cells_of (Many n) = Some n
cells_of Unclear = Some 1

abbrev pub is_array : Size → Bool
is_array NoSize = false
is_array _ = true

-- ---- bad arrays and initialisers

-- a constant length that no array can have
abbrev pub is_out_of_bounds : Option ℤ → Bool
is_out_of_bounds (Some n) = not (is_some (in_bounds n))
is_out_of_bounds None = false

abbrev pub is_bad_list_length : Initialiser → Bool
is_bad_list_length (ValueList ts) = nat_lt 65536 (length ts)
is_bad_list_length _ = true

abbrev pub is_bad_length : Length → Initialiser → Bool
is_bad_length NoLength value = false
is_bad_length OfList value = is_bad_list_length value
is_bad_length (Constant n) value = is_out_of_bounds n

-- more initialisers than cells, or a long array of a block that has initialisers
abbrev pub is_bad_list : Bool → Extent → ℕ → Bool
is_bad_list local One given = true
is_bad_list local (Many n) given = nat_lt n given || (local && nat_lt 1024 n)
is_bad_list local Unclear given = false

abbrev pub is_one : Extent → Bool
is_one One = true
is_one _ = false

abbrev pub is_bad_value : Bool → Extent → Initialiser → Bool
is_bad_value local x NoValue = false
is_bad_value local x (OneValue t) = not (is_one x)
is_bad_value local x (ValueList ts) = is_bad_list local x (length ts)

abbrev pub is_bad_shape : Bool → Length → Initialiser → Bool
is_bad_shape local l value = is_bad_length l value || is_bad_value local (extent_of l value) value

abbrev pub is_bad_array : Bool → Env → Declarator → Bool
is_bad_array local env d = is_bad_shape local (length_in env d.size) d.value

abbrev pub size_faults : Env → Size → Faults → Faults
size_faults env (Sized t) vs = constant_faults env t vs
size_faults env _ vs = vs

-- ---- initialisers

abbrev pub initial : (Term → Expression) → Initialiser → Option (List Expression)
initial k NoValue = None
initial k (OneValue t) = Some (k t ∷ [])
initial k (ValueList ts) = Some (map k ts)

abbrev pub initial_faults : (Term → Faults → Faults) → Initialiser → Faults → Faults
initial_faults k NoValue vs = vs
initial_faults k (OneValue t) vs = k t vs
initial_faults k (ValueList ts) vs = each_faults k ts vs

-- ---- variables of a block

-- what all names of a declaration have
abbrev pub kinded : (ℕ → List ℕ) → Declaration → Kinded
kinded word d = record { kind = kind_of word d.words; constant = d.constant }

abbrev pub shape_of : Kinded → Declarator → Shape
shape_of k d = record { kind = k.kind; array = is_array d.size; constant = k.constant }

abbrev pub slot : List ℕ → Shape → Option ℕ → Slot
slot name shape cells = record { name = name; kind = shape.kind; cells = cells; constant = shape.constant }

abbrev pub slot_of : Env → Kinded → Declarator → Slot
slot_of env k d = slot (env.word d.name) (shape_of k d) (cells_of (extent env d.size d.value))

abbrev pub walk : List Scope → List Slot → Walk
walk scopes slots = record { scopes = scopes; slots = slots }

-- behind its declarator, before its initialiser
abbrev pub declared : (ℕ → List ℕ) → Kinded → Declarator → Walk → Walk
declared word k d w =
    record { scopes = bind (word d.name) (Local (length w.slots) (shape_of k d)) w.scopes; slots = w.slots ++ slot_of (env_in word w) k d ∷ [] }

abbrev pub all_declared : (ℕ → List ℕ) → Kinded → List Declarator → Walk → Walk
all_declared word k [] w = w
all_declared word k (d ∷ ds) w = all_declared word k ds (declared word k d w)

abbrev pub local : (ℕ → List ℕ) → Kinded → Declarator → Walk → Item
local word k d w = item.Local (length w.slots) (initial (value_at (env_in word (declared word k d w))) d.value)

-- one Local for each name, in order
abbrev pub locals : (ℕ → List ℕ) → Kinded → List Declarator → Walk → List Item
locals word k [] w = []
locals word k (d ∷ ds) w = local word k d w ∷ locals word k ds (declared word k d w)

-- those of the name and the length
abbrev pub shape_faults : Env → Declarator → Faults → Faults
shape_faults env d vs = bind_fault d.name (env.word d.name) env.scopes (fault_if (is_bad_array true env d) d.name 35 (size_faults env d.size vs))

abbrev pub local_faults : (ℕ → List ℕ) → Kinded → Declarator → Walk → Faults → Faults
local_faults word k d w vs = initial_faults (value_faults (env_in word (declared word k d w))) d.value (shape_faults (env_in word w) d vs)

abbrev pub locals_faults : (ℕ → List ℕ) → Kinded → List Declarator → Walk → Faults → Faults
locals_faults word k [] w vs = vs
locals_faults word k (d ∷ ds) w vs = locals_faults word k ds (declared word k d w) (local_faults word k d w vs)
