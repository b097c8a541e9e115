-- The derivation that the printed text of an expression has (ISO/IEC 9899:2011, 6.5): where the grammar needs a higher level it stands in brackets.
use Rattle.std.specs.Prelude.{ℕ, ◌+◌, Bool, true, false, cond, nat_lt, List, [], ◌∷◌, Option, Some, None}
use Rattle.c_types.specs.declared.kinds.IntKind.{IntKind}
use Rattle.c_types.specs.declared.kinds.IntKind.TheVariants as K
use Rattle.c_types.specs.declared.kinds.ArithOp.{ArithOp}
use Rattle.c_types.specs.declared.kinds.ArithOp.TheVariants.{Add, Sub, Mul, Div, Rem, Shl, Shr, And, Or, Xor}
use Rattle.c_tree.specs.declared.tree.UnaryOp.{UnaryOp}
use Rattle.c_tree.specs.declared.tree.UnaryOp.TheVariants.{Plus, Minus, Not, Flip}
use Rattle.c_tree.specs.declared.tree.BinaryOp.{BinaryOp}
use Rattle.c_tree.specs.declared.tree.BinaryOp.TheVariants.{Arith, Less, Greater, AtMost, AtLeast, Equal, Unequal, AndThen, OrElse}
use Rattle.c_tree.specs.ExpressionTrees.{ExpressionTree, PlaceTree, NodeTree, Typed, Arguments, NoArgument, Argument}
use Rattle.c_tree.specs.ExpressionTrees as t
use Rattle.c_tree.specs.TextExpressions.{binary_level}
use Rattle.c_grammar.specs.declared.class.Class.{Class}
use Rattle.c_grammar.specs.declared.class.Class.TheVariants as c
use Rattle.c_grammar.specs.Expressions.{CharBase, IntBase, LongBase, NumberType, OfBase, Unsigned, UnsignedOf, Expression, One, More, Assignment, To, Value, Conditional, Choose, Only, Binary, Single, Both, Unary, Prefixed, StepTo, CastTo, CastVoid, Place, StepAfter, CallNone, CallWith, Number, Character, Within, Target, Variable, Cell, Last, Then, Given, Written, OneText, root}
use Rattle.c_grammar.specs.Expressions as g

-- the words of a kind (6.7.2)
abbrev pub type_of : IntKind → NumberType
type_of K.Char = OfBase CharBase
type_of K.UChar = UnsignedOf CharBase
type_of K.Int = OfBase IntBase
type_of K.UInt = Unsigned
type_of K.Long = OfBase LongBase
type_of K.ULong = UnsignedOf LongBase

-- ---- marks

abbrev pub unary_class : UnaryOp → Class
unary_class Plus = c.Sign
unary_class Minus = c.Sign
unary_class Not = c.Flip
unary_class Flip = c.Flip

abbrev pub arith_class : ArithOp → Class
arith_class Add = c.Sign
arith_class Sub = c.Sign
arith_class Mul = c.Product
arith_class Div = c.Product
arith_class Rem = c.Product
arith_class Shl = c.Shift
arith_class Shr = c.Shift
arith_class And = c.BitAnd
arith_class Or = c.BitOr
arith_class Xor = c.BitXor

abbrev pub binary_class : BinaryOp → Class
binary_class (Arith op) = arith_class op
binary_class Less = c.Order
binary_class Greater = c.Order
binary_class AtMost = c.Order
binary_class AtLeast = c.Order
binary_class Equal = c.Equality
binary_class Unequal = c.Equality
binary_class AndThen = c.AndThen
binary_class OrElse = c.OrElse

-- ---- an expression where a higher level may be needed: brackets round it, if its own is lower

abbrev pub as_assignment : Expression → Assignment
as_assignment (One a) = a
as_assignment e = Value (Only (Single (Within e)))

abbrev pub as_conditional : Expression → Conditional
as_conditional (One (Value d)) = d
as_conditional e = Only (Single (Within e))

-- at a level of binary marks, 4 to 14
abbrev pub as_binary : ℕ → Expression → Binary
as_binary need (One (Value (Only b))) = cond (nat_lt (root b) need) (Single (Within (One (Value (Only b))))) b
as_binary need e = Single (Within e)

abbrev pub as_unary : Expression → Unary
as_unary (One (Value (Only (Single u)))) = u
as_unary e = Within e

-- ---- an expression by itself

abbrev pub of_unary : Unary → Expression
of_unary u = One (Value (Only (Single u)))

-- an expression, a comma and an assignment
abbrev pub followed_by : Expression → Assignment → Expression
followed_by (One a) b = More a (One b)
followed_by (More a e) b = More a (followed_by e b)

abbrev pub cast_of : Option IntKind → Unary → Unary
cast_of (Some kind) u = CastTo (type_of kind) u
cast_of None u = CastVoid u

abbrev pub count_of : Bool → Target → Unary
count_of false place = StepTo place
count_of true place = StepAfter place

abbrev pub listed : g.Argument → List g.Argument → g.Arguments
listed x [] = Last x
listed x (y ∷ ys) = Then x (listed y ys)

abbrev pub call_of : List g.Argument → Unary
call_of [] = CallNone
call_of (x ∷ xs) = CallWith (listed x xs)

-- an argument: the format of `printf`, or an expression
abbrev pub argument_of : ExpressionTree → Expression → g.Argument
argument_of (Typed kind (t.Text bytes)) e = Written OneText
argument_of x e = Given (as_assignment e)

abbrev mutual
  -- what the printed expression derives
  pub derivation_of : ExpressionTree → Expression
  derivation_of (Typed kind n) = node_derivation kind n

  pub node_derivation : Option IntKind → NodeTree → Expression
  node_derivation kind (t.Number n) = of_unary Number
  node_derivation kind (t.Character b) = of_unary Character
  node_derivation kind (t.EnumName name n) = of_unary (Place Variable)
  node_derivation kind (t.Text bytes) = of_unary Number
  node_derivation kind (t.Array home) = of_unary (Place Variable)
  node_derivation kind (t.Read p) = of_unary (Place (target_of p))
  node_derivation kind (t.Unary op a) = of_unary (Prefixed (unary_class op) (as_unary (derivation_of a)))
  node_derivation kind (t.Cast a) = of_unary (cast_of kind (as_unary (derivation_of a)))
  node_derivation kind (t.Binary op a b) =
      One (Value (Only (Both (as_binary (binary_level op) (derivation_of a)) (binary_class op) (as_binary (binary_level op + 1) (derivation_of b)))))
  node_derivation kind (t.Conditional a b c) = One (Value (Choose (as_binary 4 (derivation_of a)) (derivation_of b) (as_conditional (derivation_of c))))
  node_derivation kind (t.Assign p a) = One (To (target_of p) c.Equals (as_assignment (derivation_of a)))
  node_derivation kind (t.Update op p a) = One (To (target_of p) c.Update (as_assignment (derivation_of a)))
  node_derivation kind (t.Count p up after) = of_unary (count_of after (target_of p))
  node_derivation kind (t.Comma a b) = followed_by (derivation_of a) (as_assignment (derivation_of b))
  node_derivation kind (t.Call name xs) = of_unary (call_of (arguments_of xs))

  pub target_of : PlaceTree → Target
  target_of (t.Var home) = Variable
  target_of (t.Cell home a) = Cell (derivation_of a)

  pub arguments_of : Arguments → List g.Argument
  arguments_of NoArgument = []
  arguments_of (Argument x xs) = argument_of x (derivation_of x) ∷ arguments_of xs
