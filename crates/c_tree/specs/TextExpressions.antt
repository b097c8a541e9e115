-- The printed text of expressions: brackets stand exactly where the grammar needs a higher level (ISO/IEC 9899:2011, 6.5).
use Rattle.std.specs.Prelude.{ℕ, ◌+◌, Bool, true, false, nat_lt, List, [], map, codes, Option, Some, None, slice_get}
use Rattle.std.specs.Option.{option_map_or}
use Rattle.c_types.specs.declared.kinds.IntKind.{IntKind}
use Rattle.c_types.specs.declared.kinds.IntKind.TheVariants as K
use Rattle.c_types.specs.declared.kinds.ArithOp.{ArithOp}
use Rattle.c_types.specs.declared.kinds.ArithOp.TheVariants.{Add, Sub, Mul, Div, Rem, Shl, Shr, And, Or, Xor}
use Rattle.c_tree.specs.declared.tree.UnaryOp.{UnaryOp}
use Rattle.c_tree.specs.declared.tree.UnaryOp.TheVariants.{Plus, Minus, Not, Flip}
use Rattle.c_tree.specs.declared.tree.BinaryOp.{BinaryOp}
use Rattle.c_tree.specs.declared.tree.BinaryOp.TheVariants.{Arith, Less, Greater, AtMost, AtLeast, Equal, Unequal, AndThen, OrElse}
use Rattle.c_tree.specs.declared.tree.Slot.{Slot}
use Rattle.c_tree.specs.declared.tree.Home.{Home}
use Rattle.c_tree.specs.declared.tree.Home.TheVariants as H
use Rattle.c_tree.specs.declared.tree.Expression.{Expression, Expression-F, fold-Expression}
use Rattle.c_tree.specs.declared.tree.Place.{Place, fold-Place}
use Rattle.c_tree.specs.declared.tree.Node.{Node, fold-Node}
use Rattle.c_tree.specs.declared.tree.Node.TheOpen as N
use Rattle.c_tree.specs.TextPieces.{Text, ◌⨾◌, nothing, space, word, punctuator, number, character, literal, only_if, spaced, comma, listed, begins_with}

-- the words of a kind (6.7.2)
abbrev pub kind_text : IntKind → Text
kind_text K.Char = word (codes "char")
kind_text K.UChar = word (codes "unsigned") ⨾ space ⨾ word (codes "char")
kind_text K.Int = word (codes "int")
kind_text K.UInt = word (codes "unsigned")
kind_text K.Long = word (codes "long")
kind_text K.ULong = word (codes "unsigned") ⨾ space ⨾ word (codes "long")

-- the words of a kind, or `void`
abbrev pub result_text : Option IntKind → Text
result_text (Some kind) = kind_text kind
result_text None = word (codes "void")

abbrev pub unary_spelling : UnaryOp → List ℕ
unary_spelling Plus = codes "+"
unary_spelling Minus = codes "-"
unary_spelling Not = codes "!"
unary_spelling Flip = codes "~"

abbrev pub arith_spelling : ArithOp → List ℕ
arith_spelling Add = codes "+"
arith_spelling Sub = codes "-"
arith_spelling Mul = codes "*"
arith_spelling Div = codes "/"
arith_spelling Rem = codes "%"
arith_spelling Shl = codes "<<"
arith_spelling Shr = codes ">>"
arith_spelling And = codes "&"
arith_spelling Or = codes "|"
arith_spelling Xor = codes "^"

abbrev pub binary_spelling : BinaryOp → List ℕ
binary_spelling (Arith op) = arith_spelling op
binary_spelling Less = codes "<"
binary_spelling Greater = codes ">"
binary_spelling AtMost = codes "<="
binary_spelling AtLeast = codes ">="
binary_spelling Equal = codes "=="
binary_spelling Unequal = codes "!="
binary_spelling AndThen = codes "&&"
binary_spelling OrElse = codes "||"

-- an assignment by an arithmetic mark, as `+=` (6.5.16)
abbrev pub update_spelling : ArithOp → List ℕ
update_spelling Add = codes "+="
update_spelling Sub = codes "-="
update_spelling Mul = codes "*="
update_spelling Div = codes "/="
update_spelling Rem = codes "%="
update_spelling Shl = codes "<<="
update_spelling Shr = codes ">>="
update_spelling And = codes "&="
update_spelling Or = codes "|="
update_spelling Xor = codes "^="

abbrev pub count_spelling : Bool → List ℕ
count_spelling true = codes "++"
count_spelling false = codes "--"

-- ---- levels: 1 is the comma's, the loosest, 14 that of unary marks, 15 that of postfix expressions

abbrev pub arith_level : ArithOp → ℕ
arith_level Add = 12
arith_level Sub = 12
arith_level Mul = 13
arith_level Div = 13
arith_level Rem = 13
arith_level Shl = 11
arith_level Shr = 11
arith_level And = 8
arith_level Or = 6
arith_level Xor = 7

abbrev pub binary_level : BinaryOp → ℕ
binary_level (Arith op) = arith_level op
binary_level Less = 10
binary_level Greater = 10
binary_level AtMost = 10
binary_level AtLeast = 10
binary_level Equal = 9
binary_level Unequal = 9
binary_level AndThen = 5
binary_level OrElse = 4

-- an opening bracket, where an operand of this level stands and a higher one is needed
abbrev pub opening : ℕ → ℕ → Text
opening level need = only_if (nat_lt level need) (punctuator (codes "("))

abbrev pub closing : ℕ → ℕ → Text
closing level need = only_if (nat_lt level need) (punctuator (codes ")"))

abbrev pub bracketed : ℕ → ℕ → Text → Text
bracketed level need t = opening level need ⨾ t ⨾ closing level need

-- the space between a unary mark and an operand that begins with the same byte
abbrev pub gap : UnaryOp → Text → Text
gap Plus operand = only_if (begins_with 43 operand) space
gap Minus operand = only_if (begins_with 45 operand) space
gap _ operand = nothing

-- ---- names

-- the name of a slot, empty where there is no such slot
abbrev pub slot_name : List Slot → ℕ → List ℕ
slot_name slots k = option_map_or (λ (s : Slot). s.name) (slice_get slots k) []

abbrev pub home_name : List Slot → Home → List ℕ
home_name slots (H.Global name) = name
home_name slots (H.Slot k) = slot_name slots k

-- ---- expressions, over the slots that their names stand in

-- the text of an expression where the grammar needs at least a level
abbrev pub Leveled : Type 0
Leveled = ℕ → Text

-- the text of a node, given the kind of its expression
abbrev pub Kinded : Type 0
Kinded = Option IntKind → Leveled

-- the arguments of a call, or initialisers
abbrev pub operands : List Leveled → List Text
operands es = map (λ (e : Leveled). e 2) es

abbrev pub prefix_or_postfix : Bool → List ℕ → Text → ℕ → Text
prefix_or_postfix false mark place need = bracketed 14 need (punctuator mark ⨾ place)
prefix_or_postfix true mark place need = place ⨾ punctuator mark

abbrev pub node_step : List Slot → N.Node-F Kinded Text Leveled → Kinded
node_step slots (N.Number n) kind need = number kind n
node_step slots (N.Character b) kind need = character b
node_step slots (N.EnumName name n) kind need = word name
node_step slots (N.Text bytes) kind need = literal bytes
node_step slots (N.Array home) kind need = word (home_name slots home)
node_step slots (N.Read place) kind need = place
node_step slots (N.Unary op a) kind need = bracketed 14 need (punctuator (unary_spelling op) ⨾ gap op (a 14) ⨾ a 14)
node_step slots (N.Cast a) kind need =
    bracketed 14 need (punctuator (codes "(") ⨾ result_text kind ⨾ punctuator (codes ")") ⨾ a 14)
node_step slots (N.Binary op a b) kind need =
    bracketed (binary_level op) need (a (binary_level op) ⨾ spaced (binary_spelling op) ⨾ b (binary_level op + 1))
node_step slots (N.Conditional a b c) kind need =
    bracketed 3 need (a 4 ⨾ spaced (codes "?") ⨾ b 1 ⨾ spaced (codes ":") ⨾ c 3)
node_step slots (N.Assign place a) kind need = bracketed 2 need (place ⨾ spaced (codes "=") ⨾ a 2)
node_step slots (N.Update op place a) kind need = bracketed 2 need (place ⨾ spaced (update_spelling op) ⨾ a 2)
node_step slots (N.Count place up after) kind need = prefix_or_postfix after (count_spelling up) place need
node_step slots (N.Comma a b) kind need = bracketed 1 need (a 1 ⨾ comma ⨾ b 2)
node_step slots (N.Call name arguments) kind need =
    word name ⨾ punctuator (codes "(") ⨾ listed (operands arguments) ⨾ punctuator (codes ")")

abbrev pub place_step : List Slot → N.Place-F Kinded Text Leveled → Text
place_step slots (N.Var home) = word (home_name slots home)
place_step slots (N.Cell home a) = word (home_name slots home) ⨾ punctuator (codes "[") ⨾ a 1 ⨾ punctuator (codes "]")

abbrev pub expression_step : Expression-F Kinded Text Leveled → Leveled
expression_step e = e.node e.kind

abbrev pub expression_text : List Slot → Expression → Leveled
expression_text slots e = fold-Expression Kinded Text Leveled (node_step slots) (place_step slots) expression_step e

abbrev pub node_text : List Slot → Node → Kinded
node_text slots n = fold-Node Kinded Text Leveled (node_step slots) (place_step slots) expression_step n

abbrev pub place_text : List Slot → Place → Text
place_text slots p = fold-Place Kinded Text Leveled (node_step slots) (place_step slots) expression_step p

-- expressions with commas between them, as arguments and initialisers stand
abbrev pub expressions_text : List Slot → List Expression → Text
expressions_text slots es = listed (operands (map (expression_text slots) es))
