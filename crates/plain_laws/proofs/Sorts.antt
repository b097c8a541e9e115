-- What is known of each value that an expression leaves pending.
use Rattle.std.proofs.Common.{ℕ, ℤ, Bool, true, false, List, [], ◌∷◌, Option, Some, None, Result, Ok, Err, ◌≡◌, refl, sym, subst, arith}
use Rattle.std.proofs.lemmas.Int.{ints}
use Rattle.c_types.specs.declared.kinds.IntKind.{IntKind}
use Rattle.c_types.specs.declared.kinds.IntKind.TheVariants.{Char, UChar, Int, UInt, Long, ULong}
use Rattle.c_types.specs.declared.trap.Trap.{Trap}
use Rattle.c_types.specs.Numbers.{promoted, converted, IsInRange}
use Rattle.c_types.proofs.Residues.{converted-in_range}
use Rattle.c_tree.specs.declared.tree.UnaryOp.{UnaryOp}
use Rattle.c_tree.specs.declared.tree.UnaryOp.TheVariants.{Plus, Minus, Not, Flip}
use Rattle.c_tree.specs.declared.tree.BinaryOp.{BinaryOp}
use Rattle.c_tree.specs.declared.tree.BinaryOp.TheVariants.{Arith}
use Rattle.c_tree.specs.Operators.{truth, is_zero, unary_result, binary_result, arith_kind, right_operand}
use Rattle.c_tree.specs.ExpressionTrees.{ExpressionTree, NodeTree, Typed, Unary, Binary}
use Rattle.jump_meaning.specs.Values.{Value, Integer, Designates, Lends, integer}
use Rattle.jump_meaning.specs.Code.{Code}
use Rattle.plain_laws.specs.Kinded.{unary_kind, binary_kind}
use Rattle.plain_laws.proofs.Memories.{Shapes, Target, owner_kind, zero_in_range}
use Rattle.plain_laws.proofs.Numbers.{ResultIn, number_or-in, arith_in}

pub data Sort : Type 0 where
  -- 0 or 1
  Bit : Sort
  -- a number of the kind, if there is one
  Num : Option IntKind → Sort
  -- a cell of the kind
  Spot : IntKind → Sort
  -- an argument for a parameter of the kind: where it is an array, one of that kind
  ForSlot : IntKind → Sort

-- a value is no array
abbrev pub IsNumber : Value → Type 0
IsNumber (Lends o) = ⊥
IsNumber _ = Unit {0}

abbrev pub InKind : Option IntKind → Value → Type 0
InKind None v = Unit {0}
InKind (Some k) v = IsInRange k (integer v)

-- 0 or 1 is a number of each kind
pub bit_in_range : (k : IntKind) (b : Bool) → IsInRange k (truth b)
bit_in_range Char true = record { from_least = grind (arith, ints); to_greatest = grind (arith, ints) }
bit_in_range UChar true = record { from_least = grind (arith, ints); to_greatest = grind (arith, ints) }
bit_in_range Int true = record { from_least = grind (arith, ints); to_greatest = grind (arith, ints) }
bit_in_range UInt true = record { from_least = grind (arith, ints); to_greatest = grind (arith, ints) }
bit_in_range Long true = record { from_least = grind (arith, ints); to_greatest = grind (arith, ints) }
bit_in_range ULong true = record { from_least = grind (arith, ints); to_greatest = grind (arith, ints) }
bit_in_range k false = zero_in_range k

bit_in_kind : (kind : Option IntKind) (b : Bool) → InKind kind (Integer (truth b))
bit_in_kind None b = tt
bit_in_kind (Some k) b = bit_in_range k b

-- ---- the sort of what an expression gives

abbrev pub unary_sort : UnaryOp → Option IntKind → Sort
unary_sort Not kind = Bit
unary_sort op kind = Num kind

abbrev pub mark_sort : BinaryOp → Option IntKind → Sort
mark_sort (Arith op) kind = Num kind
mark_sort op kind = Bit

abbrev pub node_sort : Option IntKind → NodeTree → Sort
node_sort kind (Unary op a) = unary_sort op kind
node_sort kind (Binary op a b) = mark_sort op kind
node_sort kind _ = Num kind

abbrev pub sort_of : ExpressionTree → Sort
sort_of (Typed kind node) = node_sort kind node

-- a value of the first sort is one of the second
abbrev pub Under : Sort → Sort → Type 0
Under Bit Bit = Unit {0}
Under Bit (Num kind) = Unit {0}
Under Bit (ForSlot k) = Unit {0}
Under (Num j) (Num None) = Unit {0}
Under (Num j) (Num (Some k)) = j ≡ Some k
Under (Num j) (ForSlot k) = Unit {0}
Under (Spot j) (Spot k) = j ≡ k
Under (ForSlot j) (ForSlot k) = j ≡ k
Under _ _ = ⊥

pub under_self : (s : Sort) → Under s s
under_self Bit = tt
under_self (Num None) = tt
under_self _ = refl

-- the value of an expression is one for its kind, and for a parameter
pub under_kind : (e : ExpressionTree) (kind : Option IntKind) (node : NodeTree) → e ≡ Typed kind node → Under (node_sort kind node) (Num kind)
under_kind e None (Unary Not a) q = tt
under_kind e (Some k) (Unary Not a) q = tt
under_kind e None (Unary Plus a) q = tt
under_kind e (Some k) (Unary Plus a) q = refl
under_kind e None (Unary Minus a) q = tt
under_kind e (Some k) (Unary Minus a) q = refl
under_kind e None (Unary Flip a) q = tt
under_kind e (Some k) (Unary Flip a) q = refl
under_kind e None (Binary (Arith op) a b) q = tt
under_kind e (Some k) (Binary (Arith op) a b) q = refl
under_kind e None (Binary op a b) q = tt
under_kind e (Some k) (Binary op a b) q = tt
under_kind e None node q = under_self (Num None)
under_kind e (Some k) node q = under_self (Num (Some k))

module _ (p : Code) (sh : Shapes) (c : ℕ) where
  abbrev pub HasSort : Sort → Value → Type 0
  HasSort Bit v = (b : Bool) × (v ≡ Integer (truth b))
  HasSort (Num kind) v = IsNumber v × InKind kind v
  HasSort (Spot k) (Designates o i) = Target p sh c o × (owner_kind p sh o ≡ k)
  HasSort (Spot k) _ = ⊥
  HasSort (ForSlot k) (Lends o) = Target p sh c o × (owner_kind p sh o ≡ k)
  HasSort (ForSlot k) _ = Unit {0}

  -- the values pending above some, of these sorts
  abbrev pub HaveSorts : List Sort → List Value → Type 0
  HaveSorts [] [] = Unit {0}
  HaveSorts [] (v ∷ u) = ⊥
  HaveSorts (s ∷ ss) [] = ⊥
  HaveSorts (s ∷ ss) (v ∷ u) = HasSort s v × HaveSorts ss u

  number_for_slot : (k : IntKind) (v : Value) → IsNumber v → HasSort (ForSlot k) v
  number_for_slot k (Integer n) h = tt
  number_for_slot k (Designates o i) h = tt
  number_for_slot k (Lends o) h = absurd h
  number_for_slot k _ h = tt

  spot_under : (j k : IntKind) (v : Value) → j ≡ k → HasSort (Spot j) v → HasSort (Spot k) v
  spot_under j k v e h = subst (λ i. HasSort (Spot i) v) e h

  slot_under : (j k : IntKind) (v : Value) → j ≡ k → HasSort (ForSlot j) v → HasSort (ForSlot k) v
  slot_under j k v e h = subst (λ i. HasSort (ForSlot i) v) e h

  pub under : (r t : Sort) (v : Value) → Under r t → HasSort r v → HasSort t v
  under Bit Bit v u h = h
  under Bit (Num kind) v u h = subst (λ x. IsNumber x × InKind kind x) (sym h.1) (tt, bit_in_kind kind h.0)
  under Bit (ForSlot k) v u h = subst (HasSort (ForSlot k)) (sym h.1) tt
  under Bit (Spot k) v u h = absurd u
  under (Num j) Bit v u h = absurd u
  under (Num j) (Num None) v u h = (h.0, tt)
  under (Num j) (Num (Some k)) v u h = (h.0, subst (λ i. InKind i v) u h.1)
  under (Num j) (ForSlot k) v u h = number_for_slot k v h.0
  under (Num j) (Spot k) v u h = absurd u
  under (Spot j) (Spot k) v u h = spot_under j k v u h
  under (Spot j) _ v u h = absurd u
  under (ForSlot j) (ForSlot k) v u h = slot_under j k v u h
  under (ForSlot j) _ v u h = absurd u

  -- ---- results of marks

  abbrev pub ResultHas : Sort → Result ℤ Trap → Type 0
  ResultHas s (Ok n) = HasSort s (Integer n)
  ResultHas s (Err t) = Unit {0}

  in_sort : (k : IntKind) (r : Result ℤ Trap) → ResultIn k r → ResultHas (Num (Some k)) r
  in_sort k (Ok n) h = (tt, h)
  in_sort k (Err t) h = tt

  pub unary_has : (op : UnaryOp) (j : IntKind) (a : ℤ) → ResultHas (unary_sort op (Some (unary_kind op j))) (unary_result op j a)
  unary_has Not j a = (is_zero a, refl)
  unary_has Plus j a = (tt, converted-in_range (promoted j) a)
  unary_has Minus j a = in_sort (promoted j) _ (number_or-in _ (promoted j) _)
  unary_has Flip j a = (tt, converted-in_range (promoted j) _)

  pub binary_has : (op : BinaryOp) (i j : IntKind) (a b : ℤ) → ResultHas (mark_sort op (Some (binary_kind op i j))) (binary_result op i j a b)
  binary_has (Arith op) i j a b = in_sort (arith_kind op i j)
      _ (arith_in op (arith_kind op i j) (converted (arith_kind op i j) a) (right_operand op i j b) (converted-in_range (arith_kind op i j) a))
  binary_has _ i j a b = (_, refl)
