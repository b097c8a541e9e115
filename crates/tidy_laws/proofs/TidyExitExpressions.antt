-- Expressions evaluate alike where calls do.
use Rattle.std.proofs.Common.{ℕ, ℤ, pos, negsuc, Bool, true, false, nat_lt, List, Option, Some, None, Result, Ok, Err}
use Rattle.c_types.specs.declared.kinds.IntKind.{IntKind}
use Rattle.c_types.specs.declared.trap.Trap.{Trap}
use Rattle.c_types.specs.Numbers.{promoted, arith_result}
use Rattle.c_tree.specs.Constants.{kind_of}
use Rattle.c_tree.specs.Operators.{unary_result, binary_result}
use Rattle.c_tree.specs.declared.tree.BinaryOp.{BinaryOp}
use Rattle.c_tree.specs.declared.tree.BinaryOp.TheVariants.{Arith, AndThen, OrElse}
use Rattle.c_tree.specs.ExpressionTrees.{ExpressionTree, PlaceTree, NodeTree, Arguments, Typed, Var, Cell, Number, Character, EnumName, Text, Array, Read, Unary, Cast, Binary, Conditional, Assign, Update, Count, Comma, Call, NoArgument, Argument}
use Rattle.c_tree.specs.TestTrees.{TestTree, Source, On, Off, AndOff, OrOn, SelectorTree, Selects, Pick}
use Rattle.jump_meaning.specs.Values.{Owner, Value, Designates, integer}
use Rattle.jump_meaning.specs.World.{World, Gives, Traps, cells_held, cell_of, cell, kind_at, load, owner}
use Rattle.jump_meaning.specs.Operations.{operand_kind, holds, outcome, unary, binary, assign, counted, count_mark, count, loaded}
use Rattle.jump_meaning.proofs.Growth.{grows_refl, OutcomeGrows, either}
use Rattle.struct_meaning.specs.Structural.{Evaluation, LessFuel, given, chosen, and_second, or_second, eval, eval_place, eval_node, eval_arguments, eval_test, eval_selector}
use Rattle.tidy_laws.proofs.Nearness.{Near, bind, near_yields, near_given, store_grows}

outcome_grows : (r : Result ℤ Trap) (w : World) → OutcomeGrows w.events (outcome r w)
outcome_grows (Ok n) w = grows_refl w.events
outcome_grows (Err t) w = grows_refl w.events

cell_grows : (o : Owner) (i : ℤ) (w : World) → OutcomeGrows w.events (cell_of o i w)
cell_grows o (pos i) w = either (OutcomeGrows w.events) (nat_lt i (cells_held (w.variables o))) (Gives (Designates o i) w) (Traps Trap.Index w)
    (grows_refl w.events) (grows_refl w.events)
cell_grows o (negsuc i) w = grows_refl w.events

counted_grows : (after : Bool) (p : Value) (r : Result ℤ Trap) (w : World) → OutcomeGrows w.events (counted after p r w)
counted_grows after p (Ok n) w = store_grows p n w
counted_grows after p (Err t) w = grows_refl w.events

module _ (s : Bool) (L M : LessFuel) where
  abbrev pub CallsNear : Type 0
  CallsNear = (d : Bool) (m : List ℕ) (vs : List Value) (w : World) → Near s w (L.calls d m vs w) (M.calls d m vs w)

  abbrev pub Nearly : {A : Type 0} → (World → Evaluation A) → (World → Evaluation A) → Type 0
  Nearly f g = (w : World) → Near s w (f w) (g w)

  pub near_chosen : {A : Type 0} (y : Bool) (a b c d : World → Evaluation A) → Nearly a c → Nearly b d → Nearly (chosen y a b) (chosen y c d)
  near_chosen true a b c d h k w = h w
  near_chosen false a b c d h k w = k w

  near_and : (y : Bool) (a b : World → Evaluation Value) → Nearly a b → Nearly (and_second y a) (and_second y b)
  near_and true a b h w = bind s w _ _ _ _ (h w) (λ v u. near_yields s u _)
  near_and false a b h w = near_yields s w _

  near_or : (y : Bool) (a b : World → Evaluation Value) → Nearly a b → Nearly (or_second y a) (or_second y b)
  near_or true a b h w = near_yields s w _
  near_or false a b h w = bind s w _ _ _ _ (h w) (λ v u. near_yields s u _)

  near_binary : (op : BinaryOp) (j k : Option IntKind) (a b : Value) (w : World) → Near s w (given (binary op j k a b w)) (given (binary op j k a b w))
  near_binary op j k a b w = near_given s w (binary op j k a b w) (outcome_grows (binary_result op (operand_kind j) (operand_kind k) (integer a) (integer b)) w)

  near_assign : (p v : Value) (w : World) → Near s w (given (assign p v w)) (given (assign p v w))
  near_assign p v w = near_given s w (assign p v w) (store_grows p (integer v) w)

  module _ (calls : CallsNear) where
    mutual
      pub eval_near : (e : ExpressionTree) (d : Bool) → Nearly (eval L d e) (eval M d e)
      eval_near (Typed kind node) d w = node_near node kind d w

      place_near : (p : PlaceTree) → Nearly (eval_place L p) (eval_place M p)
      place_near (Var h) w = near_yields s w _
      place_near (Cell h a) w = bind s w _ _ _ _ (eval_near a false w) (λ i u. near_given s u (cell h (integer i) u) (cell_grows (owner h u) (integer i) u))

      node_near : (n : NodeTree) (kind : Option IntKind) (d : Bool) → Nearly (eval_node L d kind n) (eval_node M d kind n)
      node_near (Number n) kind d w = near_yields s w _
      node_near (Character b) kind d w = near_yields s w _
      node_near (EnumName m n) kind d w = near_yields s w _
      node_near (Text bs) kind d w = near_yields s w _
      node_near (Array h) kind d w = near_yields s w _
      node_near (Read p) kind d w = bind s w _ _ _ _ (place_near p w) (λ p u. near_yields s u _)
      node_near (Unary op a) kind d w = bind s w _ _ _ _ (eval_near a false w)
          (λ v u. near_given s u (unary op (kind_of a) v u) (outcome_grows (unary_result op (operand_kind (kind_of a)) (integer v)) u))
      node_near (Cast a) None d w = bind s w _ _ _ _ (eval_near a true w) (λ v u. near_yields s u _)
      node_near (Cast a) (Some k) d w = bind s w _ _ _ _ (eval_near a false w) (λ v u. near_yields s u _)
      node_near (Binary AndThen a b) kind d w = bind s w _ _ _ _ (eval_near a false w)
          (λ v u. near_and (holds v) (eval L false b) (eval M false b) (eval_near b false) u)
      node_near (Binary OrElse a b) kind d w = bind s w _ _ _ _ (eval_near a false w)
          (λ v u. near_or (holds v) (eval L false b) (eval M false b) (eval_near b false) u)
      node_near (Binary op a b) kind d w = bind s w _ _ _ _ (eval_near a false w)
          (λ v u. bind s u _ _ _ _ (eval_near b false u) (λ x t. near_binary op (kind_of a) (kind_of b) v x t))
      node_near (Conditional a b c) None d w = bind s w _ _ _ _ (eval_near a false w)
          (λ v u. near_chosen (holds v) (eval L d b) (eval L d c) (eval M d b) (eval M d c) (eval_near b d) (eval_near c d) u)
      node_near (Conditional a b c) (Some k) d w = bind s w _ _ _ _ (eval_near a false w)
          (λ v u. bind s u _ _ _ _ (near_chosen (holds v) (eval L false b) (eval L false c) (eval M false b) (eval M false c) (eval_near b false)
          (eval_near c false) u) (λ x t. near_yields s t _))
      node_near (Assign p a) kind d w = bind s w _ _ _ _ (place_near p w) (λ p u. bind s u _ _ _ _ (eval_near a false u) (λ v t. near_assign p v t))
      node_near (Update op p a) kind d w = bind s w _ _ _ _ (place_near p w)
          (λ p u. bind s u _ _ _ _ (eval_near a false u) (λ v t. bind s t _ _ _ _ (near_binary (Arith op) kind (kind_of a) (loaded p u) v t)
          (λ v t. near_assign p v t)))
      node_near (Count p up after) kind d w = bind s w _ _ _ _ (place_near p w)
          (λ p u. near_given s u (count up after p u) (counted_grows after p (arith_result (count_mark up) (promoted (kind_at p u)) (load p u) (pos 1)) u))
      node_near (Comma a b) kind d w = bind s w _ _ _ _ (eval_near a true w) (λ v u. eval_near b d u)
      node_near (Call m xs) kind d w = bind s w _ _ _ _ (arguments_near xs w) (λ vs u. calls d m vs u)

      arguments_near : (xs : Arguments) → Nearly (eval_arguments L xs) (eval_arguments M xs)
      arguments_near NoArgument w = near_yields s w _
      arguments_near (Argument x xs) w = bind s w _ _ _ _ (eval_near x false w) (λ v u. bind s u _ _ _ _ (arguments_near xs u) (λ vs t. near_yields s t _))

    pub test_near : (t : TestTree) → Nearly (eval_test L t) (eval_test M t)
    test_near (Source e) w = eval_near e false w
    test_near (On l) w = near_yields s w _
    test_near (Off l) w = near_yields s w _
    test_near (AndOff l t) w = test_near t w
    test_near (OrOn l t) w = test_near t w

    pub selector_near : (t : SelectorTree) → Nearly (eval_selector L t) (eval_selector M t)
    selector_near (Selects e) w = bind s w _ _ _ _ (eval_near e false w) (λ v u. near_yields s u _)
    selector_near (Pick l n t) w = selector_near t w
