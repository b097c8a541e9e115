-- The tasks of an expression get to what it evaluates to.
use Rattle.std.proofs.Common.{ℕ, suc, ◌+◌, pos, Bool, true, false, cond, List, [], ◌∷◌, ◌++◌, length, Option, Some, None, ◌≡◌, refl, ap, arith}
use Rattle.c_types.specs.declared.kinds.IntKind.{IntKind}
use Rattle.c_tree.specs.declared.tree.BinaryOp.{BinaryOp}
use Rattle.c_tree.specs.declared.tree.BinaryOp.TheVariants.{Arith, AndThen, OrElse}
use Rattle.c_tree.specs.ExpressionTrees.{ExpressionTree, PlaceTree, NodeTree, Arguments, Typed, Var, Cell, Number, Character, EnumName, Text, Array, Read, Unary, Cast, Binary, Conditional, Assign, Update, Count, Comma, Call, NoArgument, Argument}
use Rattle.c_tree.specs.Constants.{kind_of}
use Rattle.jump_meaning.specs.Values.{Value, Integer, integer}
use Rattle.jump_meaning.specs.World.{World, cell}
use Rattle.jump_meaning.specs.Code.{Code}
use Rattle.jump_meaning.specs.Operations.{holds, unary, binary, converted_value, loaded, assign, count}
use Rattle.jump_meaning.specs.Calls.{last_values, without_last}
use Rattle.jump_meaning.specs.Effects.{Computes, Finds, Drops, Indexes, Loads, Fetches, AppliesUnary, AppliesBinary, Converts, LeavesNothing, Ands, Ors, Judges, Decides, Stores, Counts, Calls, Does, conversion, argument_count, argument_tasks}
use Rattle.jump_meaning.specs.Tasks.{Task, Works, works}
use Rattle.jump_meaning.specs.Step.{no_guards, Frame, State, At, is_dropped, perform}
use Rattle.struct_meaning.specs.Structural.{Evaluation, Yields, Faults, Quits, Spent, LessFuel, and_then, given, chosen, and_second, or_second, eval, eval_place, eval_node, eval_arguments}
use Rattle.struct_meaning.proofs.Ran.{Ran, target, valued, sooner, next, there, once, weaker, bind, left_ran}

-- values that are left one after another
abbrev pub pushed : List Value → List Value → List Value
pushed [] v = v
pushed (x ∷ xs) v = pushed xs (x ∷ v)

pub last_pushed : (vs v acc : List Value) (m n : ℕ) → n ≡ length vs + m → last_values n acc (pushed vs v) ≡ last_values m (vs ++ acc) v
last_pushed [] v acc m n e = let p : n ≡ m = omega (arith, e) in ap (λ i. last_values i acc v) p
last_pushed (x ∷ vs) v acc m n e = let p : n ≡ length vs + suc m = omega (arith, e) in last_pushed vs (x ∷ v) acc (suc m) n p

pub below_pushed : (vs v : List Value) (m n : ℕ) → n ≡ length vs + m → without_last n (pushed vs v) ≡ without_last m v
below_pushed [] v m n e = let p : n ≡ m = omega (arith, e) in ap (λ i. without_last i v) p
below_pushed (x ∷ vs) v m n e = let p : n ≡ length vs + suc m = omega (arith, e) in below_pushed vs (x ∷ v) (suc m) n p

-- what is known of all that an evaluation yields
abbrev pub AllYield : {A : Type 0} → (A → Type 0) → Evaluation A → Type 0
AllYield Q (Yields a w) = Q a
AllYield Q _ = Unit {0}

pub yields_bind : {A B : Type 0} (Q : B → Type 0) (x : Evaluation A) (m : A → World → Evaluation B) → ((a : A) (w : World) → AllYield Q (m a w)) →
    AllYield Q (and_then x m)
yields_bind Q (Yields a w) m h = h a w
yields_bind Q _ m h = tt

map_bind : {A B : Type 0} (R : A → Type 0) (Q : B → Type 0) (x : Evaluation A) (m : A → World → Evaluation B) → AllYield R x →
    ((a : A) (w : World) → R a → AllYield Q (m a w)) → AllYield Q (and_then x m)
map_bind R Q (Yields a w) m r h = h a w r
map_bind R Q _ m r h = tt

-- the arguments of a call are as many as the tree has
arguments_counted : (L : LessFuel) (xs : Arguments) (w : World) → AllYield (λ vs. argument_count xs ≡ length vs + 0) (eval_arguments L xs w)
arguments_counted L NoArgument w = refl
arguments_counted L (Argument x xs) w =
    yields_bind _ (eval L false x w) _ (λ v w. map_bind (λ vs. argument_count xs ≡ length vs + 0) _ (eval_arguments L xs w)
    _ (arguments_counted L xs w) (λ vs w e. omega (arith, e)))

module _ (P : Code) (L : LessFuel) (b : ℕ) where
  -- the calls that are left are met with one less of fuel
  abbrev pub CallsRun : Type 0
  CallsRun = (d : Bool) (m : List ℕ) (n : ℕ) (vs : List Value) (f : List ℕ) (k : List Task) (v : List Value) (cs : List Frame) (w : World) →
      n ≡ length vs + 0 → is_dropped k ≡ d
      → Ran P b (target (valued f k v cs) (L.calls d m vs w)) (At f no_guards (Works (Calls m n) ∷ k) (pushed vs v) cs w)

  bind_with : {A B : Type 0} {c : State} {go : A → World → State} (Q : A → Type 0) (to : B → World → State) (x : Evaluation A) (m : A → World → Evaluation B)
      → AllYield Q x → Ran P b (target go x) c → ((a : A) (w : World) → Q a → Ran P b (target to (m a w)) (go a w)) → Ran P b (target to (and_then x m)) c
  bind_with {c = c} Q to (Yields a w) m q r h = sooner P r.steps c r.fits (h a w q)
  bind_with Q to (Faults t w) m q r h = r
  bind_with Q to (Quits n w) m q r h = r
  bind_with Q to (Spent w) m q r h = r

  -- an expression, from the tasks j
  abbrev pub Computed : (World → Evaluation Value) → List Task → List ℕ → List Task → List Value → List Frame → Type 0
  Computed e j f k v cs = (w : World) → Ran P (suc b) (target (valued f k v cs) (e w)) (At f no_guards j v cs w)

  and_ran : (y : Bool) (x : ExpressionTree) (f : List ℕ) (k : List Task) (v : List Value) (cs : List Frame) →
      Computed (eval L false x) (Works (Computes x) ∷ Works Judges ∷ k) f (Works Judges ∷ k) v cs
      → (w : World) → Ran P (suc b) (target (valued f k v cs) (and_second y (eval L false x) w))
      (perform P (cond y (Does (Computes x ∷ Judges ∷ []) v w) (Does [] (Integer (pos 0) ∷ v) w)) f no_guards k cs)
  and_ran true x f k v cs h w = bind P (valued f k v cs) _ _ (h w) (λ u w. there P 1 _ refl)
  and_ran false x f k v cs h w = there P 0 _ refl

  or_ran : (y : Bool) (x : ExpressionTree) (f : List ℕ) (k : List Task) (v : List Value) (cs : List Frame) →
      Computed (eval L false x) (Works (Computes x) ∷ Works Judges ∷ k) f (Works Judges ∷ k) v cs
      → (w : World) → Ran P (suc b) (target (valued f k v cs) (or_second y (eval L false x) w))
      (perform P (cond y (Does [] (Integer (pos 1) ∷ v) w) (Does (Computes x ∷ Judges ∷ []) v w)) f no_guards k cs)
  or_ran true x f k v cs h w = there P 0 _ refl
  or_ran false x f k v cs h w = bind P (valued f k v cs) _ _ (h w) (λ u w. there P 1 _ refl)

  decides_ran : (y : Bool) (i : IntKind) (x z : ExpressionTree) (f : List ℕ) (k : List Task) (v : List Value) (cs : List Frame)
      → Computed (eval L false x) (Works (Computes x) ∷ Works (Converts i) ∷ k) f (Works (Converts i) ∷ k) v cs
      → Computed (eval L false z) (Works (Computes z) ∷ Works (Converts i) ∷ k) f (Works (Converts i) ∷ k) v cs
      → (w : World) → Ran P (suc b) (target (valued f k v cs) (and_then (chosen y (eval L false x) (eval L false z) w) (λ v w. Yields (converted_value i v) w)))
      (perform P (Does (cond y (Computes x ∷ conversion (Some i)) (Computes z ∷ conversion (Some i))) v w) f no_guards k cs)
  decides_ran true i x z f k v cs h g w = bind P (valued f k v cs) _ _ (h w) (λ u w. there P 1 _ refl)
  decides_ran false i x z f k v cs h g w = bind P (valued f k v cs) _ _ (g w) (λ u w. there P 1 _ refl)

  either_ran : (y d : Bool) (x z : ExpressionTree) (f : List ℕ) (k : List Task) (v : List Value) (cs : List Frame)
      → Computed (eval L d x) (Works (Computes x) ∷ k) f k v cs → Computed (eval L d z) (Works (Computes z) ∷ k) f k v cs
      → (w : World) → Ran P (suc b) (target (valued f k v cs) (chosen y (eval L d x) (eval L d z) w))
      (perform P (Does (cond y (Computes x ∷ conversion None) (Computes z ∷ conversion None)) v w) f no_guards k cs)
  either_ran true d x z f k v cs h g w = h w
  either_ran false d x z f k v cs h g w = g w

  -- a binary mark that evaluates both operands
  binary_ran : (op : BinaryOp) (x z : ExpressionTree) (f : List ℕ) (k : List Task) (v : List Value) (cs : List Frame)
      → Computed (eval L false x) (Works (Computes x) ∷ Works (Computes z) ∷ Works (AppliesBinary op (kind_of x) (kind_of z)) ∷ k) f
      (Works (Computes z) ∷ Works (AppliesBinary op (kind_of x) (kind_of z)) ∷ k) v cs
      → ((u : Value) → Computed (eval L false z) (Works (Computes z) ∷ Works (AppliesBinary op (kind_of x) (kind_of z)) ∷ k) f
      (Works (AppliesBinary op (kind_of x) (kind_of z)) ∷ k) (u ∷ v) cs)
      → Computed (λ w. and_then (eval L false x w) (λ u w. and_then (eval L false z w) (λ y w. given (binary op (kind_of x) (kind_of z) u y w))))
      (Works (Computes x) ∷ Works (Computes z) ∷ Works (AppliesBinary op (kind_of x) (kind_of z)) ∷ k) f k v cs
  binary_ran op x z f k v cs h g w =
      bind P (valued f k v cs) _ _ (h w)
      (λ u w. bind P (valued f k v cs) _ _ (g u w) (λ y w. next P _ (left_ran P (binary op (kind_of x) (kind_of z) u y w) f k v cs)))

  undropped : (xs : Arguments) (m : List ℕ) (n : ℕ) (k : List Task) → is_dropped (works (argument_tasks xs (Calls m n ∷ [])) k) ≡ false
  undropped NoArgument m n k = refl
  undropped (Argument x xs) m n k = refl

  module _ (calls : CallsRun) where
    mutual
      pub eval_ran : (e : ExpressionTree) (d : Bool) (f : List ℕ) (k : List Task) (v : List Value) (cs : List Frame) (w : World) → is_dropped k ≡ d
          → Ran P (suc b) (target (valued f k v cs) (eval L d e w)) (At f no_guards (Works (Computes e) ∷ k) v cs w)
      eval_ran (Typed kind node) d f k v cs w q = node_ran node kind d f k v cs w q

      place_ran : (p : PlaceTree) (f : List ℕ) (k : List Task) (v : List Value) (cs : List Frame) (w : World)
          → Ran P (suc b) (target (valued f k v cs) (eval_place L p w)) (At f no_guards (Works (Finds p) ∷ k) v cs w)
      place_ran (Var h) f k v cs w = there P 1 _ refl
      place_ran (Cell h x) f k v cs w =
          next P _ (bind P (valued f k v cs) _ _ (eval_ran x false f (Works (Indexes h) ∷ k) v cs w refl)
          (λ i w. next P _ (left_ran P (cell h (integer i) w) f k v cs)))

      node_ran : (node : NodeTree) (kind : Option IntKind) (d : Bool) (f : List ℕ) (k : List Task) (v : List Value) (cs : List Frame) (w : World) →
          is_dropped k ≡ d
          → Ran P (suc b) (target (valued f k v cs) (eval_node L d kind node w)) (At f no_guards (Works (Computes (Typed kind node)) ∷ k) v cs w)
      node_ran (Number n) kind d f k v cs w q = there P 1 _ refl
      node_ran (Character n) kind d f k v cs w q = there P 1 _ refl
      node_ran (EnumName m n) kind d f k v cs w q = there P 1 _ refl
      node_ran (Text bs) kind d f k v cs w q = there P 1 _ refl
      node_ran (Array h) kind d f k v cs w q = there P 1 _ refl
      node_ran (Read p) kind d f k v cs w q = next P _ (bind P (valued f k v cs) _ _ (place_ran p f (Works Loads ∷ k) v cs w) (λ x w. there P 1 _ refl))
      node_ran (Unary op x) kind d f k v cs w q =
          next P _ (bind P (valued f k v cs) _ _ (eval_ran x false f (Works (AppliesUnary op (kind_of x)) ∷ k) v cs w refl)
          (λ u w. next P _ (left_ran P (unary op (kind_of x) u w) f k v cs)))
      node_ran (Cast x) None d f k v cs w q = next P
          _ (bind P (valued f k v cs) _ _ (eval_ran x true f (Works Drops ∷ Works LeavesNothing ∷ k) v cs w refl) (λ u w. there P 2 _ refl))
      node_ran (Cast x) (Some i) d f k v cs w q = next P _ (bind P (valued f k v cs) _ _ (eval_ran x false f (Works (Converts i) ∷ k) v cs w refl)
          (λ u w. there P 1 _ refl))
      node_ran (Binary AndThen x z) kind d f k v cs w q =
          next P _ (bind P (valued f k v cs) _ _ (eval_ran x false f (Works (Ands z) ∷ k) v cs w refl)
          (λ u w. next P _ (and_ran (holds u) z f k v cs (λ w. eval_ran z false f (Works Judges ∷ k) v cs w refl) w)))
      node_ran (Binary OrElse x z) kind d f k v cs w q =
          next P _ (bind P (valued f k v cs) _ _ (eval_ran x false f (Works (Ors z) ∷ k) v cs w refl)
          (λ u w. next P _ (or_ran (holds u) z f k v cs (λ w. eval_ran z false f (Works Judges ∷ k) v cs w refl) w)))
      node_ran (Binary op x z) kind d f k v cs w q =
          next P _ (binary_ran op x z f k v cs (λ w. eval_ran x false f (Works (Computes z) ∷ Works (AppliesBinary op (kind_of x) (kind_of z)) ∷ k) v cs w refl)
          (λ u w. eval_ran z false f (Works (AppliesBinary op (kind_of x) (kind_of z)) ∷ k) (u ∷ v) cs w refl) w)
      node_ran (Conditional x y z) None d f k v cs w q =
          next P _ (bind P (valued f k v cs) _ _ (eval_ran x false f (Works (Decides y z None) ∷ k) v cs w refl)
          (λ u w. next P _ (either_ran (holds u) d y z f k v cs (λ w. eval_ran y d f k v cs w q) (λ w. eval_ran z d f k v cs w q) w)))
      node_ran (Conditional x y z) (Some i) d f k v cs w q =
          next P _ (bind P (valued f k v cs) _ _ (eval_ran x false f (Works (Decides y z (Some i)) ∷ k) v cs w refl)
          (λ u w. next P _ (decides_ran (holds u) i y z f k v cs (λ w. eval_ran y false f (Works (Converts i) ∷ k) v cs w refl)
          (λ w. eval_ran z false f (Works (Converts i) ∷ k) v cs w refl) w)))
      node_ran (Assign p x) kind d f k v cs w q =
          next P _ (bind P (valued f k v cs) _ _ (place_ran p f (Works (Computes x) ∷ Works Stores ∷ k) v cs w)
          (λ u w. bind P (valued f k v cs) _ _ (eval_ran x false f (Works Stores ∷ k) (u ∷ v) cs w refl)
          (λ y w. next P _ (left_ran P (assign u y w) f k v cs))))
      node_ran (Update op p x) kind d f k v cs w q =
          next P _ (bind P (valued f k v cs)
          _ _ (place_ran p f (Works Fetches ∷ Works (Computes x) ∷ Works (AppliesBinary (Arith op) kind (kind_of x)) ∷ Works Stores ∷ k) v cs w)
          (λ u w. next P _ (bind P (valued f k v cs) _ _ (eval_ran x false f (Works (AppliesBinary (Arith op) kind (kind_of x)) ∷ Works Stores ∷ k)
          (loaded u w ∷ u ∷ v) cs w refl)
          (λ y w'. next P _ (bind P (valued f k v cs) _ _ (left_ran P (binary (Arith op) kind (kind_of x) (loaded u w) y w') f (Works Stores ∷ k)
          (u ∷ v) cs) (λ y w. next P _ (left_ran P (assign u y w) f k v cs)))))))
      node_ran (Count p up after) kind d f k v cs w q =
          next P _ (bind P (valued f k v cs) _ _ (place_ran p f (Works (Counts up after) ∷ k) v cs w)
          (λ u w. next P _ (left_ran P (count up after u w) f k v cs)))
      node_ran (Comma x y) kind d f k v cs w q =
          next P _ (bind P (valued f k v cs) _ _ (eval_ran x true f (Works Drops ∷ Works (Computes y) ∷ k) v cs w refl)
          (λ u w. next P _ (eval_ran y d f k v cs w q)))
      node_ran (Call m xs) kind d f k v cs w q =
          once P _ (bind_with (λ vs. argument_count xs ≡ length vs + 0) (valued f k v cs) _ _ (arguments_counted L xs w)
          (weaker P (arguments_ran xs m (argument_count xs) f k v cs w)) (λ vs w e. calls d m (argument_count xs) vs f k v cs w e q))

      arguments_ran : (xs : Arguments) (m : List ℕ) (n : ℕ) (f : List ℕ) (k : List Task) (v : List Value) (cs : List Frame) (w : World)
          → Ran P (suc b) (target (λ vs w. At f no_guards (Works (Calls m n) ∷ k) (pushed vs v) cs w) (eval_arguments L xs w))
          (At f no_guards (works (argument_tasks xs (Calls m n ∷ [])) k) v cs w)
      arguments_ran NoArgument m n f k v cs w = there P 0 _ refl
      arguments_ran (Argument x xs) m n f k v cs w =
          bind P _ _ _ (eval_ran x false f (works (argument_tasks xs (Calls m n ∷ [])) k) v cs w (undropped xs m n k))
          (λ u w. bind P _ _ _ (arguments_ran xs m n f k (u ∷ v) cs w) (λ vs w. there P 0 _ refl))
