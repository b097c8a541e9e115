-- What expressions are, by what their operands are (ISO/IEC 9899:2011, 6.5). An expression with a wrong operand is wrong.
use Rattle.std.specs.Prelude.{ℕ, pos, Bool, cond, Option, Some, None}
use Rattle.c_types.specs.declared.kinds.IntKind.{IntKind}
use Rattle.c_types.specs.declared.kinds.IntKind.TheVariants.{Int}
use Rattle.c_types.specs.declared.kinds.ArithOp.{ArithOp}
use Rattle.c_types.specs.Numbers.{usual_kind}
use Rattle.c_tree.specs.declared.tree.UnaryOp.{UnaryOp}
use Rattle.c_tree.specs.declared.tree.BinaryOp.{BinaryOp}
use Rattle.c_tree.specs.declared.tree.Expression.{Expression, roll-Expression}
use Rattle.c_tree.specs.declared.tree.Place as place
use Rattle.c_tree.specs.declared.tree.Place.{Place}
use Rattle.c_tree.specs.declared.tree.Node as node
use Rattle.c_tree.specs.declared.tree.Node.{Node}
use Rattle.c_lexer.specs.declared.number.Integer.{Integer}
use Rattle.c_kinds.specs.declared.binding.Shape.{Shape}
use Rattle.c_kinds.specs.declared.typed.Typed.{Typed}
use Rattle.c_kinds.specs.declared.typed.Typed.TheVariants.{Value, Void, Text, Array, Wrong}
use Rattle.c_kinds.specs.declared.typed.Valued.{Valued}
use Rattle.c_kinds.specs.declared.typed.Variable.{Variable}
use Rattle.c_kinds.specs.declared.typed.Target.{Target}
use Rattle.c_kinds.specs.Marks.{unary_kind, binary_kind}
use Rattle.c_kinds.specs.Scopes.{Faults, fault}

-- ---- expressions

abbrev pub expression_of : Option IntKind → Node → Expression
expression_of kind n = roll-Expression (record { kind = kind; node = n })

abbrev pub expression : Valued → Expression
expression v = expression_of (Some v.kind) v.node

abbrev pub of_kind : IntKind → Node → Typed
of_kind kind n = Value (record { kind = kind; node = n })

-- an expression of a kind, or one without a value
abbrev pub of_result : Option IntKind → Node → Typed
of_result (Some kind) n = of_kind kind n
of_result None n = Void n

-- the operand where a value is used
abbrev pub value_of : Typed → Option Valued
value_of (Value v) = Some v
value_of _ = None

-- the operand where its value, if it has one, is dropped
abbrev pub dropped : Typed → Option Expression
dropped (Value v) = Some (expression v)
dropped (Void n) = Some (expression_of None n)
dropped _ = None

-- ---- violations of an operand's use: an array's name and a text are no values, and a void expression has none

abbrev pub use_fault : ℕ → Typed → Faults → Faults
use_fault first (Value v) vs = vs
use_fault first (Void n) vs = fault first 24 vs
use_fault first (Text bytes) vs = fault first 40 vs
use_fault first (Array a) vs = fault a.token 22 vs
use_fault first Wrong vs = vs

abbrev pub drop_fault : ℕ → Typed → Faults → Faults
drop_fault first (Text bytes) vs = fault first 40 vs
drop_fault first (Array a) vs = fault a.token 22 vs
drop_fault first _ vs = vs

-- a text is allowed nowhere but in front of the arguments of `printf`
abbrev pub text_fault : ℕ → Typed → Faults → Faults
text_fault first (Text bytes) vs = fault first 40 vs
text_fault first _ vs = vs

-- ---- constants (6.4.4)

-- the lexer lets no other number through
abbrev pub number : Option Integer → Typed
number (Some n) = of_kind n.kind (node.Number (pos n.value))
number None = of_kind Int (node.Number (pos 0))

-- a character constant is an `int`
abbrev pub character_constant : ℕ → Typed
character_constant byte = of_kind Int (node.Character byte)

-- ---- variables (6.5.1 and 6.5.2.1)

abbrev pub target : Place → Shape → Target
target place shape = record { place = place; kind = shape.kind; constant = shape.constant }

-- a variable that is a number
abbrev pub number_target : Option Variable → Option Target
number_target (Some x) = cond x.shape.array None (Some (target (place.Var x.home) x.shape))
number_target None = None

-- a cell of a variable that is an array
abbrev pub cell_target : Option Variable → Option Valued → Option Target
cell_target (Some x) (Some i) = cond x.shape.array (Some (target (place.Cell x.home (expression i)) x.shape)) None
cell_target _ _ = None

-- a target that can be written to
abbrev pub writable : Option Target → Option Target
writable (Some t) = cond t.constant None (Some t)
writable None = None

abbrev pub reading : Option Target → Typed
reading (Some t) = of_kind t.kind (node.Read t.place)
reading None = Wrong

-- a variable by its name: an array stands for itself
abbrev pub variable : ℕ → Variable → Typed
variable at x =
    cond x.shape.array (Array (record { token = at; home = x.home; kind = x.shape.kind; constant = x.shape.constant }))
    (of_kind x.shape.kind (node.Read (place.Var x.home)))

-- ---- marks

-- `+ - ! ~` (6.5.3.3)
abbrev pub unary : UnaryOp → Option Valued → Typed
unary op (Some a) = of_kind (unary_kind op a.kind) (node.Unary op (expression a))
unary op None = Wrong

-- `++` and `--`, with whether it counts up and whether it stands behind (6.5.2.4 and 6.5.3.1)
abbrev pub counting : Bool → Bool → Option Target → Typed
counting up after (Some t) = of_kind t.kind (node.Count t.place up after)
counting up after None = Wrong

-- 6.5.4
abbrev pub cast : IntKind → Option Valued → Typed
cast kind (Some a) = of_kind kind (node.Cast (expression a))
cast kind None = Wrong

abbrev pub cast_void : Option Expression → Typed
cast_void (Some a) = Void (node.Cast a)
cast_void None = Wrong

-- 6.5.5 to 6.5.14
abbrev pub binary : BinaryOp → Option Valued → Option Valued → Typed
binary op (Some a) (Some b) = of_kind (binary_kind op a.kind b.kind) (node.Binary op (expression a) (expression b))
binary op _ _ = Wrong

-- 6.5.15
abbrev pub choice : Option Valued → Option Valued → Option Valued → Typed
choice (Some a) (Some b) (Some c) = of_kind (usual_kind b.kind c.kind) (node.Conditional (expression a) (expression b) (expression c))
choice _ _ _ = Wrong

-- `=`, or an arithmetic mark and `=` (6.5.16)
abbrev pub stored : Option ArithOp → Target → Expression → Node
stored None t a = node.Assign t.place a
stored (Some op) t a = node.Update op t.place a

abbrev pub assignment : Option ArithOp → Option Target → Option Valued → Typed
assignment op (Some t) (Some a) = of_kind t.kind (stored op t (expression a))
assignment op _ _ = Wrong

-- `a, b` has what b has (6.5.17)
abbrev pub with_left : Expression → Typed → Typed
with_left a (Value b) = of_kind b.kind (node.Comma a (expression b))
with_left a (Void n) = Void (node.Comma a (expression_of None n))
with_left a _ = Wrong

abbrev pub comma : Option Expression → Typed → Typed
comma (Some a) b = with_left a b
comma None b = Wrong
