-- A number as an expression of its promoted kind comes to that number.
use Rattle.std.proofs.Common.{ℕ, suc, ◌≤◌, ℤ, pos, negsuc, neg_ℤ, Bool, true, false, not, cond, ◌&&◌, nat_le, List, ◌∷◌, Some, Result, Ok, Err, ◌≡◌, refl, sym, ap, ◌∙◌, arith}
use Rattle.std.proofs.lemmas.Int.{ints}
use Rattle.std.proofs.lemmas.Bool.Decides.{nat_tests}
use Rattle.std.proofs.lemmas.Bool.{cond-false, cond-true}
use Rattle.c_types.specs.declared.kinds.ArithOp.TheVariants.{Sub}
use Rattle.c_types.specs.declared.kinds.IntKind.{IntKind}
use Rattle.c_types.specs.declared.kinds.IntKind.TheVariants.{Char, UChar, Int, UInt, Long, ULong}
use Rattle.c_types.specs.declared.trap.Trap.{Trap}
use Rattle.c_types.specs.declared.trap.Trap.TheVariants.{Overflow}
use Rattle.c_types.specs.Numbers.{promoted, converted, IsInRange, number_or, arith_result}
use Rattle.c_types.proofs.Residues.{converted-in_kind}
use Rattle.c_tree.specs.declared.tree.UnaryOp.TheVariants.{Minus}
use Rattle.c_tree.specs.declared.tree.BinaryOp.TheVariants.{Arith}
use Rattle.c_tree.specs.Operators.{unary_result, binary_result}
use Rattle.c_tree.specs.ExpressionTrees.{ExpressionTree, Typed, Unary}
use Rattle.jump_meaning.specs.Values.{Value, Integer}
use Rattle.jump_meaning.specs.Code.{Code}
use Rattle.jump_meaning.specs.Operations.{outcome}
use Rattle.jump_meaning.specs.Effects.{Computes, AppliesBinary, left}
use Rattle.jump_meaning.specs.Tasks.{Task, Works}
use Rattle.jump_meaning.specs.World.{World}
use Rattle.jump_meaning.specs.Step.{Guards, Frame, State, At, perform}
use Rattle.jump_meaning.specs.Runs.{run}
use Rattle.c_tree.proofs.NumeralLaws.{constant_pos}
use Rattle.c_tree.specs.Numerals.{number, constant, least_constant}

-- the least and other negative numbers of the signed kinds
least_int : binary_result (Arith Sub) Int Int (negsuc 2147483646) (pos 1) ≡ Ok (negsuc 2147483647)
unfolding converted arith_result
least_int = refl

least_long : binary_result (Arith Sub) Long Long (negsuc 9223372036854775806) (pos 1) ≡ Ok (negsuc 9223372036854775807)
unfolding converted arith_result
least_long = refl

minus_greatest_int : unary_result Minus Int (pos 2147483647) ≡ Ok (negsuc 2147483646)
unfolding converted
minus_greatest_int = refl

minus_greatest_long : unary_result Minus Long (pos 9223372036854775807) ≡ Ok (negsuc 9223372036854775806)
unfolding converted
minus_greatest_long = refl

chosen_ok : (b : Bool) (z y : ℤ) → b ≡ false → y ≡ z → cond b (Err Overflow) (Ok y) ≡ Ok z
chosen_ok true z y e h = cc
chosen_ok false z y e h = ap Ok h

minus_int : (n : ℕ) → suc n ≤ 2147483647 → unary_result Minus Int (pos (suc n)) ≡ Ok (negsuc n)
minus_int n h =
    let r : IsInRange Int (pos (suc n)) = record { from_least = grind (arith, ints); to_greatest = grind (arith, ints) } in
    let i : IsInRange Int (negsuc n) = record { from_least = grind (arith, ints); to_greatest = grind (arith, ints) } in
    let t : nat_le n 2147483647 ≡ true = grind (arith, nat_tests) in
    ap (λ z. number_or Overflow Int (neg_ℤ z)) (converted-in_kind Int (pos (suc n)) r)
    ∙ chosen_ok (not (nat_le n 2147483647 && true)) (negsuc n) (converted Int (negsuc n)) (ap (λ b. not (b && true)) t) (converted-in_kind Int (negsuc n) i)

minus_long : (n : ℕ) → suc n ≤ 9223372036854775807 → unary_result Minus Long (pos (suc n)) ≡ Ok (negsuc n)
minus_long n h =
    let r : IsInRange Long (pos (suc n)) = record { from_least = grind (arith, ints); to_greatest = grind (arith, ints) } in
    let i : IsInRange Long (negsuc n) = record { from_least = grind (arith, ints); to_greatest = grind (arith, ints) } in
    let t : nat_le n 9223372036854775807 ≡ true = grind (arith, nat_tests) in
    ap (λ z. number_or Overflow Long (neg_ℤ z)) (converted-in_kind Long (pos (suc n)) r)
    ∙ chosen_ok (not (nat_le n 9223372036854775807 && true)) (negsuc n) (converted Long (negsuc n)) (ap (λ b. not (b && true)) t)
    (converted-in_kind Long (negsuc n) i)

-- a promoted kind
pub data IsPromoted : IntKind → Type 0 where
  int : IsPromoted Int
  uint : IsPromoted UInt
  long : IsPromoted Long
  ulong : IsPromoted ULong

pub promoted_is : (k : IntKind) → IsPromoted (promoted k)
promoted_is Char = int
promoted_is UChar = int
promoted_is Int = int
promoted_is UInt = uint
promoted_is Long = long
promoted_is ULong = ulong

unsigned_in : (n : ℕ) → IsInRange UInt (negsuc n) → ⊥
unsigned_in n h = let p = h.from_least in grind (arith, ints)

unsigned_long_in : (n : ℕ) → IsInRange ULong (negsuc n) → ⊥
unsigned_long_in n h = let p = h.from_least in grind (arith, ints)

abbrev minus : IntKind → ℕ → ExpressionTree
minus k n = Typed (Some k) (Unary Minus (number k (pos (suc n))))

module _ (q : Code) (f : List ℕ) (g : Guards) (cs : List Frame) (w : World) (ks : List Task) (u : List Value) where
  abbrev from : ExpressionTree → State
  from e = At f g (Works (Computes e) ∷ ks) u cs w

  abbrev to : ℤ → State
  to z = At f g ks (Integer z ∷ u) cs w

  pub record Come (k : IntKind) (z : ℤ) : Type 0 where
    pub steps : ℕ
    pub is : run q (suc steps) (from (constant k z)) ≡ to z

  abbrev after : Result ℤ Trap → State
  after r = perform q (left (outcome r w) u) f g ks cs

  abbrev middle : IntKind → Result ℤ Trap → State
  middle k r = run q 2 (perform q (left (outcome r w) u) f g
      (Works (Computes (number k (pos 1))) ∷ Works (AppliesBinary (Arith Sub) (Some k) (Some k)) ∷ ks) cs)

  -- `-max - 1`
  least_int_comes : run q 6 (from (least_constant Int)) ≡ to (negsuc 2147483647)
  least_int_comes = ap (middle Int) minus_greatest_int ∙ ap after least_int

  least_long_comes : run q 6 (from (least_constant Long)) ≡ to (negsuc 9223372036854775807)
  least_long_comes = ap (middle Long) minus_greatest_long ∙ ap after least_long

  int_comes : (n : ℕ) → IsInRange Int (negsuc n) → (b : Bool) → nat_le 2147483647 n ≡ b → Come Int (negsuc n)
  int_comes n h true e =
      let p = h.from_least in
      let n_is : n ≡ 2147483647 = grind (arith, ints, nat_tests) in
      record {
        steps = 5;
        is = ap (λ x. run q 6 (from x)) (cond-true (nat_le 2147483647 n) (least_constant Int) (minus Int n) e) ∙ least_int_comes ∙
            ap (λ m. to (negsuc m)) (sym n_is);
      }
  int_comes n h false e =
      let small : suc n ≤ 2147483647 = grind (arith, nat_tests) in
      record {
        steps = 2;
        is = ap (λ x. run q 3 (from x)) (cond-false (nat_le 2147483647 n) (least_constant Int) (minus Int n) e) ∙
            ap after (minus_int n small);
      }

  long_comes : (n : ℕ) → IsInRange Long (negsuc n) → (b : Bool) → nat_le 9223372036854775807 n ≡ b → Come Long (negsuc n)
  long_comes n h true e =
      let p = h.from_least in
      let n_is : n ≡ 9223372036854775807 = grind (arith, ints, nat_tests) in
      record {
        steps = 5;
        is = ap (λ x. run q 6 (from x)) (cond-true (nat_le 9223372036854775807 n) (least_constant Long) (minus Long n) e) ∙
            least_long_comes ∙ ap (λ m. to (negsuc m)) (sym n_is);
      }
  long_comes n h false e =
      let small : suc n ≤ 9223372036854775807 = grind (arith, nat_tests) in
      record {
        steps = 2;
        is = ap (λ x. run q 3 (from x)) (cond-false (nat_le 9223372036854775807 n) (least_constant Long) (minus Long n) e) ∙
            ap after (minus_long n small);
      }

  pub constant_comes : (k : IntKind) (z : ℤ) → IsPromoted k → IsInRange k z → Come k z
  constant_comes k (pos n) i h = record { steps = 0; is = ap (λ x. run q 1 (from x)) (constant_pos k n) }
  constant_comes Int (negsuc n) int h = int_comes n h _ refl
  constant_comes UInt (negsuc n) uint h = absurd (unsigned_in n h)
  constant_comes Long (negsuc n) long h = long_comes n h _ refl
  constant_comes ULong (negsuc n) ulong h = absurd (unsigned_long_in n h)
  constant_comes _ (negsuc n) i h = elim i [ ]
