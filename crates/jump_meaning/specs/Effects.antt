-- The tasks of expressions, and what each of them does: it looks at the values pending and at the world, and
-- at nothing else of a state. Evaluation is from left to right with immediate effect (this profile).
use Rattle.std.specs.Prelude.{ℕ, suc, ℤ, pos, Bool, true, false, cond, List, [], ◌∷◌, Option, Some, None}
use Rattle.c_types.specs.declared.kinds.IntKind.{IntKind}
use Rattle.c_types.specs.declared.kinds.IntKind.TheVariants.{Char}
use Rattle.c_types.specs.declared.trap.Trap.{Trap}
use Rattle.c_types.specs.Numbers.{converted}
use Rattle.c_tree.specs.declared.tree.UnaryOp.{UnaryOp}
use Rattle.c_tree.specs.declared.tree.BinaryOp.{BinaryOp}
use Rattle.c_tree.specs.declared.tree.BinaryOp.TheVariants.{Arith, AndThen, OrElse}
use Rattle.c_tree.specs.declared.tree.Home.{Home}
use Rattle.c_tree.specs.declared.tree.Home.TheVariants as H
use Rattle.c_tree.specs.ExpressionTrees.{ExpressionTree, PlaceTree, NodeTree, Arguments, Typed, Var, Cell, Number, Character, EnumName, Text, Array, Read, Unary, Cast, Binary, Conditional, Assign, Update, Count, Comma, Call, NoArgument, Argument}
use Rattle.c_tree.specs.Constants.{kind_of}
use Rattle.jump_meaning.specs.Values.{Value, Integer, Lends, Format, Missing, integer}
use Rattle.jump_meaning.specs.World.{World, Outcome, Gives, Traps, Exits, owner, place, cell, store, clear}
use Rattle.jump_meaning.specs.Operations.{holds, truth_value, converted_value, unary, binary, loaded, assign, count}
use Rattle.jump_meaning.specs.Calls.{arguments_taken, without_last, slot_cell, is_array_slot}

-- a task of an expression: what it takes of the values pending, the last first, and what it leaves
pub data Op : Type 0 where
  -- leaves the value of an expression
  Computes : ExpressionTree → Op
  -- leaves what a place designates
  Finds : PlaceTree → Op
  -- takes the last value
  Drops : Op
  -- takes an index, leaves that cell of the array
  Indexes : Home → Op
  -- takes a place, leaves its value; leaves it above the place
  Loads : Op
  Fetches : Op
  -- takes the operand, or both, of the kinds that are named, leaves the result
  AppliesUnary : UnaryOp → Option IntKind → Op
  AppliesBinary : BinaryOp → Option IntKind → Option IntKind → Op
  Converts : IntKind → Op
  LeavesNothing : Op
  -- take the first operand of `&&` and of `||`
  Ands : ExpressionTree → Op
  Ors : ExpressionTree → Op
  -- takes a value, leaves whether it isn't 0
  Judges : Op
  -- takes the condition of `a ? b : c`, whose kind is named
  Decides : ExpressionTree → ExpressionTree → Option IntKind → Op
  -- takes a value and a place, leaves what is stored
  Stores : Op
  Counts : Bool → Bool → Op
  -- takes so many arguments, and calls the function of the name
  Calls : List ℕ → ℕ → Op
  -- the end of a call, with a value or without
  Ends : Bool → Op
  -- the initialisers of a slot, all of them; the same where the value of that of cell i is there, and the later ones are to come
  Begins : ℕ → List ExpressionTree → Op
  Sets : ℕ → ℕ → List ExpressionTree → Op
  -- the cells of a slot from n on become 0
  Clears : ℕ → ℕ → Op

-- what such a task comes to
pub data Effect : Type 0 where
  -- the tasks that come first, the values pending, the world
  Does : List Op → List Value → World → Effect
  Fails : Trap → World → Effect
  -- the end of the run by `exit`
  Stops : ℤ → World → Effect
  -- a call of the function of the name, its arguments, and the values that stay pending
  Invokes : List ℕ → List Value → List Value → World → Effect
  -- the end of the call, with its value, if it gives one
  Leaves : Option Value → World → Effect

-- the last of the values pending, and those below it
abbrev pub top : List Value → Value
top [] = Missing
top (x ∷ v) = x

abbrev pub rest : List Value → List Value
rest [] = []
rest (x ∷ v) = v

-- the value is left, or the run stops
abbrev pub left : Outcome → List Value → Effect
left (Gives x w) v = Does [] (x ∷ v) w
left (Traps t w) v = Fails t w
left (Exits n w) v = Stops n w

-- the conversion to a kind, where there is one
abbrev pub conversion : Option IntKind → List Op
conversion None = []
conversion (Some k) = Converts k ∷ []

-- the first operand, then what takes it (6.5.13, 6.5.14), or both operands and the mark
abbrev pub binary_tasks : BinaryOp → ExpressionTree → ExpressionTree → List Op
binary_tasks AndThen a b = Computes a ∷ Ands b ∷ []
binary_tasks OrElse a b = Computes a ∷ Ors b ∷ []
binary_tasks op a b = Computes a ∷ Computes b ∷ AppliesBinary op (kind_of a) (kind_of b) ∷ []

-- a cast to a kind, or to void, which drops the value (6.5.4, 6.3.2.2)
abbrev pub cast_tasks : Option IntKind → List Op
cast_tasks None = Drops ∷ LeavesNothing ∷ []
cast_tasks (Some k) = Converts k ∷ []

-- how many arguments a call has
abbrev pub argument_count : Arguments → ℕ
argument_count NoArgument = 0
argument_count (Argument x xs) = suc (argument_count xs)

-- the arguments in order, before other tasks
abbrev pub argument_tasks : Arguments → List Op → List Op
argument_tasks NoArgument os = os
argument_tasks (Argument x xs) os = Computes x ∷ argument_tasks xs os

-- an expression of this kind (6.5)
abbrev pub node_effect : Option IntKind → NodeTree → List Value → World → Effect
node_effect kind (Number n) v w = Does [] (Integer n ∷ v) w
node_effect kind (Character b) v w = Does [] (Integer (converted Char (pos b)) ∷ v) w
node_effect kind (EnumName m n) v w = Does [] (Integer n ∷ v) w
node_effect kind (Text bs) v w = Does [] (Format bs ∷ v) w
node_effect kind (Array h) v w = Does [] (Lends (owner h w) ∷ v) w
node_effect kind (Read p) v w = Does (Finds p ∷ Loads ∷ []) v w
node_effect kind (Unary op a) v w = Does (Computes a ∷ AppliesUnary op (kind_of a) ∷ []) v w
node_effect kind (Cast a) v w = Does (Computes a ∷ cast_tasks kind) v w
node_effect kind (Binary op a b) v w = Does (binary_tasks op a b) v w
node_effect kind (Conditional a b c) v w = Does (Computes a ∷ Decides b c kind ∷ []) v w
node_effect kind (Assign p a) v w = Does (Finds p ∷ Computes a ∷ Stores ∷ []) v w
node_effect kind (Update op p a) v w = Does (Finds p ∷ Fetches ∷ Computes a ∷ AppliesBinary (Arith op) kind (kind_of a) ∷ Stores ∷ []) v w
node_effect kind (Count p up after) v w = Does (Finds p ∷ Counts up after ∷ []) v w
node_effect kind (Comma a b) v w = Does (Computes a ∷ Drops ∷ Computes b ∷ []) v w
node_effect kind (Call m xs) v w = Does (argument_tasks xs (Calls m (argument_count xs) ∷ [])) v w

-- the initialisers of a slot from cell i on (6.7.9): the place stands pending below the value, as in an assignment;
-- after the last one the cells left out of an array become 0
abbrev pub initialise : ℕ → ℕ → List ExpressionTree → List Value → World → Effect
initialise x i [] v w = Does (cond (is_array_slot x w) (Clears x i ∷ []) []) v w
initialise x i (e ∷ es) v w = Does (Computes e ∷ Sets x i es ∷ []) (slot_cell x i w ∷ v) w

-- what a task of an expression does (6.5)
abbrev pub effect : Op → List Value → World → Effect
effect (Computes (Typed kind node)) v w = node_effect kind node v w
effect (Finds (Var h)) v w = Does [] (place h w ∷ v) w
effect (Finds (Cell h a)) v w = Does (Computes a ∷ Indexes h ∷ []) v w
effect Drops v w = Does [] (rest v) w
effect (Indexes h) v w = left (cell h (integer (top v)) w) (rest v)
effect Loads v w = Does [] (loaded (top v) w ∷ rest v) w
effect Fetches v w = Does [] (loaded (top v) w ∷ v) w
effect (AppliesUnary op k) v w = left (unary op k (top v) w) (rest v)
effect (AppliesBinary op j k) v w = left (binary op j k (top (rest v)) (top v) w) (rest (rest v))
effect (Converts k) v w = Does [] (converted_value k (top v) ∷ rest v) w
effect LeavesNothing v w = Does [] (Missing ∷ v) w
effect (Ands b) v w = cond (holds (top v)) (Does (Computes b ∷ Judges ∷ []) (rest v) w) (Does [] (Integer (pos 0) ∷ rest v) w)
effect (Ors b) v w = cond (holds (top v)) (Does [] (Integer (pos 1) ∷ rest v) w) (Does (Computes b ∷ Judges ∷ []) (rest v) w)
effect Judges v w = Does [] (truth_value (top v) ∷ rest v) w
effect (Decides b c kind) v w = Does (cond (holds (top v)) (Computes b ∷ conversion kind) (Computes c ∷ conversion kind)) (rest v) w
effect Stores v w = left (assign (top (rest v)) (top v) w) (rest (rest v))
effect (Counts up after) v w = left (count up after (top v) w) (rest v)
effect (Calls m n) v w = Invokes m (arguments_taken n v) (without_last n v) w
effect (Ends true) v w = Leaves (Some (top v)) w
effect (Ends false) v w = Leaves None w
effect (Begins x es) v w = initialise x 0 es v w
effect (Sets x i es) v w = initialise x (suc i) es (rest (rest v)) (store (top (rest v)) (integer (top v)) w)
effect (Clears x n) v w = Does [] v (clear (H.Slot x) n w)
