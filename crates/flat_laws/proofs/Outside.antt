-- Calls of functions without a body, and all slots of functions that are the same.
use Rattle.std.proofs.Common.{ℕ, ℤ, pos, negsuc, Bool, true, false, cond, List, [], ◌∷◌, map, length, codes, Option, Some, None, refl, bytes_eq}
use Rattle.c_types.specs.declared.kinds.IntKind.{IntKind}
use Rattle.c_types.specs.declared.kinds.IntKind.TheVariants.{UChar, Int}
use Rattle.c_types.specs.declared.trap.Trap.{Trap}
use Rattle.c_types.specs.Numbers.{converted, residue}
use Rattle.c_tree.specs.declared.tree.Home.{Home}
use Rattle.c_tree.specs.declared.tree.Home.TheVariants as H
use Rattle.c_tree.specs.ExpressionTrees.{ExpressionTree, PlaceTree, NodeTree, Arguments, Typed, Var, Cell, Array, Read, Unary, Cast, Binary, Conditional, Assign, Update, Count, Comma, Call, NoArgument, Argument}
use Rattle.c_tree.specs.Slots.{HomeSlots, ExpressionSlots, PlaceSlots, NodeSlots, ArgumentSlots}
use Rattle.jump_meaning.specs.Values.{Owner, Variable, Value, Integer, Missing, Event, Byte, Called}
use Rattle.jump_meaning.specs.Code.{FunctionTree}
use Rattle.jump_meaning.specs.World.{World, Outcome, with_number, with_zeros, emit}
use Rattle.jump_meaning.specs.Known.{next, printed_bytes, read_byte, converted_arguments, answered, call_without_body}
use Rattle.jump_meaning.specs.Effects.{Op, Computes, Finds, Indexes, Ands, Ors, Decides, Begins, Sets, Clears}
use Rattle.flat_laws.proofs.Worlds.{over, Alike}
use Rattle.flat_laws.proofs.Effects.{OpSlots, EachSlots, OutcomeAlike, oa_gives, oa_traps, oa_exits}

-- ---- all slots

module _ (P : ℕ → Type 0) (all : (x : ℕ) → P x) where
  home_all : (h : Home) → HomeSlots P h
  home_all (H.Global m) = tt
  home_all (H.Slot x) = all x

  mutual
    expression_all : (e : ExpressionTree) → ExpressionSlots P e
    expression_all (Typed k n) = node_all n

    place_all : (p : PlaceTree) → PlaceSlots P p
    place_all (Var h) = home_all h
    place_all (Cell h e) = (home_all h, expression_all e)

    node_all : (n : NodeTree) → NodeSlots P n
    node_all (Array h) = home_all h
    node_all (Read p) = place_all p
    node_all (Unary op a) = expression_all a
    node_all (Cast a) = expression_all a
    node_all (Binary op a b) = (expression_all a, expression_all b)
    node_all (Conditional a b c) = (expression_all a, expression_all b, expression_all c)
    node_all (Assign p a) = (place_all p, expression_all a)
    node_all (Update op p a) = (place_all p, expression_all a)
    node_all (Count p up after) = place_all p
    node_all (Comma a b) = (expression_all a, expression_all b)
    node_all (Call f xs) = arguments_all xs
    node_all _ = tt

    arguments_all : (xs : Arguments) → ArgumentSlots P xs
    arguments_all NoArgument = tt
    arguments_all (Argument x xs) = (expression_all x, arguments_all xs)

  each_all : (es : List ExpressionTree) → EachSlots P es
  each_all [] = tt
  each_all (e ∷ es) = (expression_all e, each_all es)

  pub op_all : (o : Op) → OpSlots P o
  op_all (Computes e) = expression_all e
  op_all (Finds p) = place_all p
  op_all (Indexes h) = home_all h
  op_all (Ands b) = expression_all b
  op_all (Ors b) = expression_all b
  op_all (Decides b c k) = (expression_all b, expression_all c)
  op_all (Begins x es) = (all x, each_all es)
  op_all (Sets x i es) = (all x, each_all es)
  op_all (Clears x n) = all x
  op_all _ = tt

-- ---- functions without a body

module _ (opens : ℕ → ℕ → Bool) (Shaped : ℕ → ℕ → Variable → Type 0)
    (number_shaped : (c x i : ℕ) (z : ℤ) (v : Variable) → Shaped c x v → Shaped c x (with_number i z v))
    (zeros_shaped : (c x i : ℕ) (v : Variable) → Shaped c x v → Shaped c x (with_zeros i v)) where
  abbrev O : ℕ → Outcome → Outcome → Type 0
  O d o o' = OutcomeAlike opens Shaped number_shaped zeros_shaped d o o'

  module _ (w : World) (s : Owner → Variable) (a : Alike opens Shaped w s) where
    with_input : (bs : List ℕ) → Alike opens Shaped (record w { input = bs }) s
    with_input bs = record { agree = a.agree; closed = a.closed; shaped = a.shaped }

    with_answers : (ns : List ℤ) → Alike opens Shaped (record w { answers = ns }) s
    with_answers ns = record { agree = a.agree; closed = a.closed; shaped = a.shaped }

    with_events : (es : List Event) → Alike opens Shaped (emit es w) s
    with_events es = record { agree = a.agree; closed = a.closed; shaped = a.shaped }

    read_alike : (bs : List ℕ) → O w.calls (read_byte bs w) (read_byte bs (over s w))
    read_alike [] = oa_gives (Integer (negsuc 0)) w s tt refl a
    read_alike (b ∷ bs) = oa_gives (Integer (pos (residue UChar (pos b)))) (record w { input = bs }) s tt refl (with_input bs)

    answered_alike : (k : Option IntKind) (ns : List ℤ) → O w.calls (answered k ns w) (answered k ns (over s w))
    answered_alike None ns = oa_gives Missing w s tt refl a
    answered_alike (Some k) [] = oa_traps Trap.NoAnswer w s
    answered_alike (Some k) (n ∷ ns) = oa_gives (Integer (converted k n)) (record w { answers = ns }) s tt refl (with_answers ns)

  either_alike : (d : ℕ) (b : Bool) (x y x' y' : Outcome) → O d x x' → O d y y' → O d (cond b x y) (cond b x' y')
  either_alike d true x y x' y' p q = p
  either_alike d false x y x' y' p q = q

  pub outside_alike : (m : List ℕ) (h : FunctionTree) (vs : List Value) (w : World) (s : Owner → Variable) → Alike opens Shaped w s →
      O w.calls (call_without_body m h vs w) (call_without_body m h vs (over s w))
  outside_alike m h vs w s a =
      let d = w.calls in
      let called = Called m (converted_arguments h.slots vs) ∷ [] in
      either_alike d (bytes_eq m (codes "getchar")) _ _ _ _ (read_alike w s a w.input)
      (either_alike d (bytes_eq m (codes "putchar")) _ _ _ _ (oa_gives (Integer (pos (residue UChar (next vs))))
      (emit (Byte (residue UChar (next vs)) ∷ []) w) s tt refl (with_events w s a (Byte (residue UChar (next vs)) ∷ [])))
      (either_alike d (bytes_eq m (codes "printf")) _ _ _ _ (oa_gives (Integer (converted Int (pos (length (printed_bytes vs)))))
      (emit (map Byte (printed_bytes vs)) w) s tt refl (with_events w s a (map Byte (printed_bytes vs))))
      (either_alike d (bytes_eq m (codes "exit")) _ _ _ _ (oa_exits (converted Int (next vs)) w s)
      (either_alike d (bytes_eq m (codes "abort")) _ _ _ _ (oa_traps Trap.Abort w s)
      (answered_alike (emit called w) s (with_events w s a called) h.result w.answers)))))
