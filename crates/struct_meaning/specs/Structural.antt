-- The structural meaning: what each part of a program without jumps comes to in a World, by recursion on the tree. It has
-- no tasks and no search. Fuel bounds the turns of loops and the calls in one another.
use Rattle.std.specs.Prelude.{ℕ, zero, suc, ℤ, pos, Bool, true, false, cond, List, [], ◌∷◌, Option, Some, None, Result, Ok, Err}
use Rattle.std.specs.List.{list_any}
use Rattle.c_types.specs.declared.kinds.IntKind.{IntKind}
use Rattle.c_types.specs.declared.kinds.IntKind.TheVariants.{Char}
use Rattle.c_types.specs.declared.trap.Trap.{Trap}
use Rattle.c_types.specs.Numbers.{promoted, converted}
use Rattle.c_tree.specs.declared.tree.BinaryOp.TheVariants.{Arith, AndThen, OrElse}
use Rattle.c_tree.specs.declared.tree.Home.TheVariants as H
use Rattle.c_tree.specs.ExpressionTrees.{ExpressionTree, PlaceTree, NodeTree, Arguments, Typed, Var, Cell, Number, Character, EnumName, Text, Array, Read, Unary, Cast, Binary, Conditional, Assign, Update, Count, Comma, Call, NoArgument, Argument}
use Rattle.c_tree.specs.TestTrees.{TestTree, Source, On, Off, AndOff, OrOn, SelectorTree, Selects, Pick}
use Rattle.c_tree.specs.Trees.{Tree, Forest, Nil, Then, Sections, NoSection, Section, Evaluate, Return, If, While, Do, For, Switch, Block, Local, Break, Continue, Note}
use Rattle.c_tree.specs.Constants.{kind_of}
use Rattle.jump_meaning.specs.Values.{Value, Integer, Lends, Format, Missing, integer}
use Rattle.jump_meaning.specs.Code.{FunctionTree, Code}
use Rattle.jump_meaning.specs.World.{World, Outcome, Gives, Traps, Exits, owner, place, cell, store, clear, push}
use Rattle.jump_meaning.specs.Operations.{operand_kind, holds, truth_value, converted_value, unary, binary, loaded, assign, count}
use Rattle.jump_meaning.specs.Known.{call_without_body}
use Rattle.jump_meaning.specs.Calls.{slot_cell, is_array_slot, returned, fallen, leave_call}
use Rattle.jump_meaning.specs.Search.{is_case}
use Rattle.jump_meaning.specs.Step.{switch_kind}

-- what a part of a program comes to, and the World then: it yields something, meets a trap, ends the run by `exit`, or its fuel is spent (this profile)
pub data Evaluation (A : Type 0) : Type 0 where
  Yields : A → World → Evaluation A
  Faults : Trap → World → Evaluation A
  Quits : ℤ → World → Evaluation A
  Spent : World → Evaluation A

-- how a statement completes: normally, by `break`, by `continue`, or by `return`, with a value or without (6.8, 6.8.6)
pub data Completion : Type 0 where
  Normal : Completion
  Broken : Completion
  Continued : Completion
  Returned : Option Value → Completion

-- what a statement does (6.8)
abbrev pub Meaning : Type 0
Meaning = World → Evaluation Completion

-- what is left to one less of fuel (this profile)
pub record LessFuel : Type 0 where
  -- a further turn of a `while` or a `do`, from its beginning
  pub again : Tree → Meaning
  -- a further turn of a `for` with this test, third part and body, from the test on
  pub again_for : Option ExpressionTree → Option ExpressionTree → Forest → Meaning
  -- a call of the function of the name with its arguments, and whether its value is dropped
  pub calls : Bool → List ℕ → List Value → World → Evaluation Value

-- one after the other: what the first yields goes into the second (this profile)
abbrev pub and_then : {A B : Type 0} → Evaluation A → (A → World → Evaluation B) → Evaluation B
and_then (Yields a w) next = next a w
and_then (Faults t w) next = Faults t w
and_then (Quits n w) next = Quits n w
and_then (Spent w) next = Spent w

-- an operation on values (this profile)
abbrev pub given : Outcome → Evaluation Value
given (Gives v w) = Yields v w
given (Traps t w) = Faults t w
given (Exits n w) = Quits n w

-- the first of two if a condition holds, else the second (6.5.15, 6.8.4.1)
abbrev pub chosen : {A : Type 0} → Bool → (World → A) → (World → A) → World → A
chosen true a b w = a w
chosen false a b w = b w

-- ---- expressions (6.5)

-- `a && b`, by whether a isn't 0: only then b is evaluated (6.5.13)
abbrev pub and_second : Bool → (World → Evaluation Value) → World → Evaluation Value
and_second true b w = and_then (b w) (λ v w. Yields (truth_value v) w)
and_second false b w = Yields (Integer (pos 0)) w

-- `a || b`, by whether a isn't 0: only if it is 0, b is evaluated (6.5.14)
abbrev pub or_second : Bool → (World → Evaluation Value) → World → Evaluation Value
or_second true b w = Yields (Integer (pos 1)) w
or_second false b w = and_then (b w) (λ v w. Yields (truth_value v) w)

abbrev mutual
  -- an expression, and whether its value is dropped (6.5)
  pub eval : LessFuel → Bool → ExpressionTree → World → Evaluation Value
  eval L d (Typed kind node) w = eval_node L d kind node w

  -- the cell that an lvalue designates (6.3.2.1, 6.5.2.1)
  pub eval_place : LessFuel → PlaceTree → World → Evaluation Value
  eval_place L (Var h) w = Yields (place h w) w
  eval_place L (Cell h a) w = and_then (eval L false a w) (λ i w. given (cell h (integer i) w))

  -- an expression of this kind: operands from left to right, then the mark (6.5.1 to 6.5.17; the order is this profile's)
  pub eval_node : LessFuel → Bool → Option IntKind → NodeTree → World → Evaluation Value
  eval_node L d kind (Number n) w = Yields (Integer n) w
  eval_node L d kind (Character b) w = Yields (Integer (converted Char (pos b))) w
  eval_node L d kind (EnumName m n) w = Yields (Integer n) w
  eval_node L d kind (Text bs) w = Yields (Format bs) w
  eval_node L d kind (Array h) w = Yields (Lends (owner h w)) w
  eval_node L d kind (Read p) w = and_then (eval_place L p w) (λ p w. Yields (loaded p w) w)
  eval_node L d kind (Unary op a) w = and_then (eval L false a w) (λ v w. given (unary op (kind_of a) v w))
  -- a cast to void drops the value (6.5.4, 6.3.2.2)
  eval_node L d None (Cast a) w = and_then (eval L true a w) (λ v w. Yields Missing w)
  eval_node L d (Some k) (Cast a) w = and_then (eval L false a w) (λ v w. Yields (converted_value k v) w)
  eval_node L d kind (Binary AndThen a b) w = and_then (eval L false a w) (λ v w. and_second (holds v) (eval L false b) w)
  eval_node L d kind (Binary OrElse a b) w = and_then (eval L false a w) (λ v w. or_second (holds v) (eval L false b) w)
  eval_node L d kind (Binary op a b) w =
      and_then (eval L false a w) (λ u w. and_then (eval L false b w) (λ v w. given (binary op (kind_of a) (kind_of b) u v w)))
  -- a whole without a kind converts nothing, so its operand is dropped where it is
  eval_node L d None (Conditional a b c) w = and_then (eval L false a w) (λ v w. chosen (holds v) (eval L d b) (eval L d c) w)
  eval_node L d (Some k) (Conditional a b c) w =
      and_then (eval L false a w) (λ v w. and_then (chosen (holds v) (eval L false b) (eval L false c) w) (λ v w. Yields (converted_value k v) w))
  eval_node L d kind (Assign p a) w = and_then (eval_place L p w) (λ p w. and_then (eval L false a w) (λ v w. given (assign p v w)))
  -- the place is found and read before the operand is evaluated
  eval_node L d kind (Update op p a) w =
      and_then (eval_place L p w) (λ p w. let u = loaded p w in
      and_then (eval L false a w) (λ v w. and_then (given (binary (Arith op) kind (kind_of a) u v w)) (λ v w. given (assign p v w))))
  eval_node L d kind (Count p up after) w = and_then (eval_place L p w) (λ p w. given (count up after p w))
  -- the left operand of a comma is dropped (6.5.17)
  eval_node L d kind (Comma a b) w = and_then (eval L true a w) (λ v w. eval L d b w)
  eval_node L d kind (Call m xs) w = and_then (eval_arguments L xs w) (λ vs w. L.calls d m vs w)

  -- the arguments of a call, in order (6.5.2.2; the order is this profile's)
  pub eval_arguments : LessFuel → Arguments → World → Evaluation (List Value)
  eval_arguments L NoArgument w = Yields [] w
  eval_arguments L (Argument x xs) w = and_then (eval L false x w) (λ v w. and_then (eval_arguments L xs w) (λ vs w. Yields (v ∷ vs) w))

-- ---- tests and selectors

-- a test: an expression, or one of guards, of which none is set where nothing sets one (6.8.4.1, 6.8.5; guards are this project's)
abbrev pub eval_test : LessFuel → TestTree → World → Evaluation Value
eval_test L (Source e) w = eval L false e w
eval_test L (On l) w = Yields (Integer (pos 0)) w
eval_test L (Off l) w = Yields (Integer (pos 1)) w
eval_test L (AndOff l t) w = eval_test L t w
eval_test L (OrOn l t) w = eval_test L t w

-- a selector: an expression, converted to its promoted kind; no guard is set (6.8.4.2; guards are this project's)
abbrev pub eval_selector : LessFuel → SelectorTree → World → Evaluation Value
eval_selector L (Selects e) w = and_then (eval L false e w) (λ v w. Yields (converted_value (promoted (operand_kind (kind_of e))) v) w)
eval_selector L (Pick l n s) w = eval_selector L s w

-- ---- statements (6.8)

-- nothing is done (6.8.3)
abbrev pub nothing : Meaning
nothing w = Yields Normal w

-- a statement that completed, then the rest of its list (6.8.2)
abbrev pub followed : Meaning → Completion → Meaning
followed next Normal w = next w
followed next c w = Yields c w

-- a statement, then the rest of its list (6.8.2)
abbrev pub seq : Evaluation Completion → Meaning → Evaluation Completion
seq x next = and_then x (followed next)

-- the body of a loop that completed, then what comes after it in the turn (6.8.5, 6.8.6.2, 6.8.6.3)
abbrev pub turned : Meaning → Completion → Meaning
turned next Normal w = next w
turned next Continued w = next w
turned next Broken w = Yields Normal w
turned next (Returned v) w = Yields (Returned v) w

-- the body of a loop, then what comes after it in the turn (6.8.5)
abbrev pub body_then : Evaluation Completion → Meaning → Evaluation Completion
body_then x next = and_then x (turned next)

-- the body of a switch that completed: a `break` was bound to it (6.8.6.3)
abbrev pub switched : Completion → Meaning
switched Broken w = Yields Normal w
switched c w = Yields c w

-- the cells of a slot from n on become 0 if it is an array (6.7.9)
abbrev pub clear_rest : ℕ → ℕ → Meaning
clear_rest x n w = Yields Normal (cond (is_array_slot x w) (clear (H.Slot x) n w) w)

-- the initialisers of a slot from cell i on: each is stored as it is computed, then 0 in the cells left out (6.7.9)
abbrev pub initialise : LessFuel → ℕ → ℕ → List ExpressionTree → Meaning
initialise L x i [] w = clear_rest x i w
initialise L x i (e ∷ es) w = and_then (eval L false e w) (λ v u. initialise L x (suc i) es (store (slot_cell x i w) (integer v) u))

-- a declaration: without initialisers it does nothing (6.7.9)
abbrev pub declare : LessFuel → ℕ → Option (List ExpressionTree) → Meaning
declare L x None w = Yields Normal w
declare L x (Some es) w = initialise L x 0 es w

-- a `return` with its value, or without (6.8.6.4)
abbrev pub exec_return : LessFuel → Option ExpressionTree → Meaning
exec_return L None w = Yields (Returned None) w
exec_return L (Some e) w = and_then (eval L false e w) (λ v w. Yields (Returned (Some v)) w)

-- after the body of a `for` its third part, whose value is dropped, then a further turn (6.8.5.3)
abbrev pub third_part : LessFuel → Option ExpressionTree → Option ExpressionTree → Forest → Meaning
third_part L t None a w = L.again_for t None a w
third_part L t (Some u) a w = and_then (eval L true u w) (λ v w. L.again_for t (Some u) a w)

-- a turn of a `for` from its test on, where `body` is what its body does; without a test as if it held (6.8.5.3)
abbrev pub for_turn : LessFuel → Option ExpressionTree → Option ExpressionTree → Forest → Meaning → Meaning
for_turn L None u a body w = body_then (body w) (third_part L None u a)
for_turn L (Some t) u a body w = and_then (eval L false t w) (λ v w. chosen (holds v) (λ w. body_then (body w) (third_part L (Some t) u a)) nothing w)

-- behind a section: its `break` if it ends with one, else the later sections (6.8.4.2)
abbrev pub unless_end : Bool → Meaning → Meaning
unless_end true later w = Yields Broken w
unless_end false later w = later w

-- the list of a section, then what is behind it (6.8.4.2)
abbrev pub fall : Meaning → Bool → Meaning → Meaning
fall list ends later w = seq (list w) (unless_end ends later)

-- the first if its label is wanted, else the other (6.8.4.2)
abbrev pub here_or : {A : Type 0} → Bool → A → Option A → Option A
here_or true a other = Some a
here_or false a other = other

-- the body of a switch: from its case on if there is one, else from the default on, else nothing (6.8.4.2)
abbrev pub entered : Option Meaning → Option Meaning → Meaning
entered (Some a) b w = a w
entered None (Some b) w = b w
entered None None w = Yields Normal w

abbrev mutual
  -- a statement or a declaration; a jump or a label means nothing here (6.8)
  pub exec : LessFuel → Tree → Meaning
  -- the value of an expression statement is dropped (6.8.3)
  exec L (Evaluate e) w = and_then (eval L true e w) (λ v w. Yields Normal w)
  exec L (Return e) w = exec_return L e w
  exec L (If t a b) w = and_then (eval_test L t w) (λ v w. chosen (holds v) (execs L a) (execs L b) w)
  exec L (While t a) w = and_then (eval_test L t w) (λ v w. chosen (holds v) (λ w. body_then (execs L a w) (L.again (While t a))) nothing w)
  exec L (Do a t) w = body_then (execs L a w) (λ w. and_then (eval_test L t w) (λ v w. chosen (holds v) (L.again (Do a t)) nothing w))
  exec L (For first t u a) w = seq (execs L first w) (for_turn L t u a (execs L a))
  exec L (Switch s c) w =
      and_then (eval_selector L s w) (λ v w. and_then (entered (from_case L (switch_kind s) (integer v) c) (from_default L c) w) switched)
  exec L (Block a) w = execs L a w
  exec L (Local x es) w = declare L x es w
  exec L Break w = Yields Broken w
  exec L Continue w = Yields Continued w
  exec L (Note bs) w = Yields Normal w
  exec L _ w = Spent w

  -- the items of a list, in order (6.8.2)
  pub execs : LessFuel → Forest → Meaning
  execs L Nil w = Yields Normal w
  execs L (Then x xs) w = seq (exec L x w) (execs L xs)

  -- the sections of a switch, from the first of these on (6.8.4.2)
  pub from_section : LessFuel → Sections → Meaning
  from_section L NoSection w = Yields Normal w
  from_section L (Section cases default a ends c) w = fall (execs L a) ends (from_section L c) w

  -- from the section on that has the case of this number, if one has (6.8.4.2)
  pub from_case : LessFuel → IntKind → ℤ → Sections → Option Meaning
  from_case L k n NoSection = None
  from_case L k n (Section cases default a ends c) =
      here_or (list_any (is_case k n) cases) (fall (execs L a) ends (from_section L c)) (from_case L k n c)

  -- from the section on that has the default, if one has (6.8.4.2)
  pub from_default : LessFuel → Sections → Option Meaning
  from_default L NoSection = None
  from_default L (Section cases default a ends c) = here_or default (fall (execs L a) ends (from_section L c)) (from_default L c)

-- ---- calls (6.5.2.2)

-- the value that function m gives, by how its body completed (6.8.6.4, 6.9.1)
abbrev pub value_left : List ℕ → FunctionTree → Completion → Value
value_left m f (Returned (Some v)) = returned f v
value_left m f _ = fallen m

-- the body in the World of its call, then what its end leaves; or the trap of a call or of cells too many (6.5.2.2; the trap is this profile's)
abbrev pub call_body : Meaning → (Completion → World → Outcome) → World → Result World Trap → Evaluation Value
call_body body leave w (Ok inside) = and_then (body inside) (λ c w. given (leave c w))
call_body body leave w (Err t) = Faults t w

-- a call of function m, by whether it has a body (6.5.2.2)
abbrev pub called : LessFuel → Bool → List ℕ → FunctionTree → Option Forest → List Value → World → Evaluation Value
called L d m f None vs w = given (call_without_body m f vs w)
called L d m f (Some a) vs w = call_body (execs L a) (λ c w. leave_call d f (value_left m f c) w) w (push f vs w)

-- a call of the function of the name (6.5.2.2)
abbrev pub call : Code → LessFuel → Bool → List ℕ → List Value → World → Evaluation Value
call p L d m vs w = called L d m (p.functions m) (p.functions m).body vs w

-- ---- fuel (this profile)

-- further turns and calls with this much fuel: each has one less, and without any it is spent
abbrev pub with_fuel : Code → ℕ → LessFuel
with_fuel p zero = record {
  again = λ x w. Spent w;
  again_for = λ t u a w. Spent w;
  calls = λ d m vs w. Spent w;
}
with_fuel p (suc n) = record {
  again = λ x w. exec (with_fuel p n) x w;
  again_for = λ t u a w. for_turn (with_fuel p n) t u a (execs (with_fuel p n) a) w;
  calls = λ d m vs w. call p (with_fuel p n) d m vs w;
}
