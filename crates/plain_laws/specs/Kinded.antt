-- Kinds that agree: each expression gives a number of the kind that it carries, and each name that it has
-- stands for a variable. So a condition `c` and `c != 0` hold alike: no conversion of `c` loses bits.
use Rattle.std.specs.Prelude.{ℕ, ◌≡◌, ◌<◌, ℤ, pos, Bool, cond, ◌||◌, List, [], ◌∷◌, length, codes, Option, Some, None, IfSome}
use Rattle.std.specs.Str.{bytes_eq}
use Rattle.c_types.specs.declared.kinds.ArithOp.{ArithOp}
use Rattle.c_types.specs.declared.kinds.IntKind.{IntKind}
use Rattle.c_types.specs.declared.kinds.IntKind.TheVariants.{Char, Int}
use Rattle.c_types.specs.Numbers.{promoted, converted, IsInRange}
use Rattle.c_tree.specs.declared.tree.Slot.{Slot}
use Rattle.c_tree.specs.declared.tree.Home.{Home}
use Rattle.c_tree.specs.declared.tree.Home.TheVariants as H
use Rattle.c_tree.specs.declared.tree.UnaryOp.{UnaryOp}
use Rattle.c_tree.specs.declared.tree.UnaryOp.TheVariants.{Not}
use Rattle.c_tree.specs.declared.tree.BinaryOp.{BinaryOp}
use Rattle.c_tree.specs.declared.tree.BinaryOp.TheVariants.{Arith}
use Rattle.c_tree.specs.Operators.{arith_kind}
use Rattle.c_tree.specs.ExpressionTrees.{ExpressionTree, PlaceTree, Arguments, Typed, Var, Cell, Number, Character, EnumName, Text, Array, Read, Unary, Cast, Binary, Conditional, Assign, Update, Count, Comma, Call, NoArgument, Argument}
use Rattle.c_tree.specs.TestTrees.{TestTree, Source, AndOff, OrOn, SelectorTree, Selects, Pick}
use Rattle.c_tree.specs.Trees.{Tree, Forest, Evaluate, Return, If, While, Do, For, Switch, Local, Arm}
use Rattle.c_tree.specs.Constants.{kind_of, HasKind}
use Rattle.jump_meaning.specs.Code.{Code, entry_or}
use Rattle.jump_meaning.specs.World.{kind_held, no_slot}
use Rattle.jump_meaning.specs.Operations.{operand_kind}

-- ---- kinds

-- the kind of the cells of the variable that a name stands for in a function with these slots
abbrev pub home_kind : Code → List Slot → Home → IntKind
home_kind p ss (H.Slot x) = (entry_or no_slot ss x).kind
home_kind p ss (H.Global m) = kind_held (p.globals m)

-- the name stands for a variable
abbrev pub IsHome : List Slot → Home → Type 0
IsHome ss (H.Slot x) = x < length ss
IsHome ss (H.Global m) = Unit {0}

-- the kind of the cell that a place designates
abbrev pub place_kind : Code → List Slot → PlaceTree → IntKind
place_kind p ss (Var h) = home_kind p ss h
place_kind p ss (Cell h a) = home_kind p ss h

-- the kind of what a mark gives at an operand of the kind
abbrev pub unary_kind : UnaryOp → IntKind → IntKind
unary_kind Not k = Int
unary_kind op k = promoted k

-- at operands of these kinds
abbrev pub binary_kind : BinaryOp → IntKind → IntKind → IntKind
binary_kind (Arith op) j k = arith_kind op j k
binary_kind op j k = Int

-- whether it is a function of the library that gives an int
abbrev pub gives_int : List ℕ → Bool
gives_int m = bytes_eq m (codes "getchar") || (bytes_eq m (codes "putchar") || bytes_eq m (codes "printf"))

-- the kind of what a call gives
abbrev pub kind_called : List ℕ → Option Forest → Option IntKind → Option IntKind
kind_called m (Some a) result = result
kind_called m None result = cond (gives_int m) (Some Int) result

-- the kind of what a call of the name gives
abbrev pub call_kind : Code → List ℕ → Option IntKind
call_kind p m = kind_called m (p.functions m).body (p.functions m).result

-- a number of the kind, if there is one
abbrev pub IsNumberOf : Option IntKind → ℤ → Type 0
IsNumberOf None n = Unit {0}
IsNumberOf (Some k) n = IsInRange k n

-- the slot of the next parameter
abbrev pub first_slot : List Slot → Slot
first_slot [] = no_slot
first_slot (s ∷ ss) = s

-- the slots of the parameters after the next
abbrev pub later_slots : List Slot → List Slot
later_slots [] = []
later_slots (s ∷ ss) = ss

-- ---- expressions of a function with these slots

mutual
  -- an expression whose parts have kinds that agree: a number fits its kind, a place, a mark, an assignment and a call give the kind that the whole carries
  pub data Kinded (p : Code) (ss : List Slot) : ExpressionTree → Type 0 where
    k_number : (kind : Option IntKind) (n : ℤ) → IsNumberOf kind n → Kinded p ss (Typed kind (Number n))
    k_character : (kind : Option IntKind) (b : ℕ) → IsNumberOf kind (converted Char (pos b)) → Kinded p ss (Typed kind (Character b))
    k_enum : (kind : Option IntKind) (m : List ℕ) (n : ℤ) → IsNumberOf kind n → Kinded p ss (Typed kind (EnumName m n))
    k_text : (kind : Option IntKind) (bs : List ℕ) → Kinded p ss (Typed kind (Text bs))
    k_read : (at : PlaceTree) → KindedPlace p ss at → Kinded p ss (Typed (Some (place_kind p ss at)) (Read at))
    k_unary : (op : UnaryOp) (a : ExpressionTree) → Kinded p ss a → Kinded p ss (Typed (Some (unary_kind op (operand_kind (kind_of a)))) (Unary op a))
    k_cast : (kind : Option IntKind) (a : ExpressionTree) → Kinded p ss a → Kinded p ss (Typed kind (Cast a))
    k_binary : (op : BinaryOp) (a b : ExpressionTree) → Kinded p ss a → Kinded p ss b →
        Kinded p ss (Typed (Some (binary_kind op (operand_kind (kind_of a)) (operand_kind (kind_of b)))) (Binary op a b))
    k_conditional : (kind : Option IntKind) (a b c : ExpressionTree) → Kinded p ss a → Kinded p ss b → Kinded p ss c →
        Kinded p ss (Typed kind (Conditional a b c))
    k_assign : (at : PlaceTree) (a : ExpressionTree) → KindedPlace p ss at → Kinded p ss a → Kinded p ss (Typed (Some (place_kind p ss at)) (Assign at a))
    k_update : (op : ArithOp) (at : PlaceTree) (a : ExpressionTree) → KindedPlace p ss at → Kinded p ss a →
        Kinded p ss (Typed (Some (place_kind p ss at)) (Update op at a))
    k_count : (at : PlaceTree) (up after : Bool) → KindedPlace p ss at → Kinded p ss (Typed (Some (place_kind p ss at)) (Count at up after))
    k_comma : (a b : ExpressionTree) → Kinded p ss a → Kinded p ss b → Kinded p ss (Typed (kind_of b) (Comma a b))
    k_call : (m : List ℕ) (xs : Arguments) → KindedArguments p ss (p.functions m).slots xs → Kinded p ss (Typed (call_kind p m) (Call m xs))

  -- a place whose name stands for a variable
  pub data KindedPlace (p : Code) (ss : List Slot) : PlaceTree → Type 0 where
    k_var : (h : Home) → IsHome ss h → KindedPlace p ss (Var h)
    k_cell : (h : Home) (a : ExpressionTree) → IsHome ss h → Kinded p ss a → KindedPlace p ss (Cell h a)

  -- arguments for these parameters: an array is handed to one of its kind
  pub data KindedArguments (p : Code) (ss : List Slot) : List Slot → Arguments → Type 0 where
    k_none : (ts : List Slot) → KindedArguments p ss ts NoArgument
    k_argument : (ts : List Slot) (x : ExpressionTree) (xs : Arguments) → Kinded p ss x → KindedArguments p ss (later_slots ts) xs →
        KindedArguments p ss ts (Argument x xs)
    k_array : (ts : List Slot) (kind : Option IntKind) (h : Home) (xs : Arguments) → IsHome ss h → 0 < length ts → home_kind p ss h ≡ (first_slot ts).kind
        → KindedArguments p ss (later_slots ts) xs → KindedArguments p ss ts (Argument (Typed kind (Array h)) xs)

-- ---- items

-- a condition has a value
abbrev pub KindedCondition : Code → List Slot → ExpressionTree → Type 0
KindedCondition p ss e = Kinded p ss e × HasKind (kind_of e)

-- the source expression of a test is a condition
abbrev pub KindedTest : Code → List Slot → TestTree → Type 0
KindedTest p ss (Source e) = KindedCondition p ss e
KindedTest p ss (AndOff l t) = KindedTest p ss t
KindedTest p ss (OrOn l t) = KindedTest p ss t
KindedTest p ss _ = Unit {0}

-- of a selector
abbrev pub KindedSelector : Code → List Slot → SelectorTree → Type 0
KindedSelector p ss (Selects e) = Kinded p ss e
KindedSelector p ss (Pick l n s) = KindedSelector p ss s

-- each expression of a list
abbrev pub AreKinded : Code → List Slot → List ExpressionTree → Type 0
AreKinded p ss [] = Unit {0}
AreKinded p ss (e ∷ es) = Kinded p ss e × AreKinded p ss es

-- the expressions of an item that are evaluated, apart from the items that stand in it
abbrev pub KindedItem : Code → List Slot → Tree → Type 0
KindedItem p ss (Evaluate e) = Kinded p ss e
KindedItem p ss (Return e) = IfSome e (Kinded p ss)
KindedItem p ss (If t a b) = KindedTest p ss t
KindedItem p ss (While t a) = KindedTest p ss t
KindedItem p ss (Do a t) = KindedTest p ss t
KindedItem p ss (For first t u a) = IfSome t (Kinded p ss) × IfSome u (Kinded p ss)
KindedItem p ss (Switch s c) = KindedSelector p ss s
KindedItem p ss (Local x es) = (x < length ss) × IfSome es (AreKinded p ss)
KindedItem p ss (Arm l e) = IfSome e (KindedCondition p ss)
KindedItem p ss _ = Unit {0}

-- ---- other programs of which the same is known

-- these slots, with others behind them
abbrev pub Grown : List Slot → List Slot → Type 0
Grown [] us = Unit {0}
Grown (t ∷ ts) [] = ⊥
Grown (t ∷ ts) (u ∷ us) = (u.kind ≡ t.kind) × Grown ts us

-- functions and variables of the same kinds; functions may have more slots
pub record SameKinds (p q : Code) : Type 0 where
  pub slots : (m : List ℕ) → Grown (p.functions m).slots (q.functions m).slots
  pub calls : (m : List ℕ) → call_kind q m ≡ call_kind p m
  pub globals : (m : List ℕ) → kind_held (q.globals m) ≡ kind_held (p.globals m)
