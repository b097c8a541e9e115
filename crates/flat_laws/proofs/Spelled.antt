-- Each number of a promoted kind is spelled by a constant of it.
use Rattle.std.proofs.Common.{ℕ, suc, ◌≤◌, ℤ, pos, negsuc, ◌-ℤ◌, Bool, true, false, not, cond, Some, Ok, Err, ◌≡◌, refl, sym, subst, ◌∙◌, ap, arith}
use Rattle.std.specs.Prelude.{int_le, neg_ℤ}
use Rattle.std.proofs.lemmas.Int.{ints}
use Rattle.c_types.specs.declared.kinds.IntKind.{IntKind}
use Rattle.c_types.specs.declared.kinds.IntKind.TheVariants.{Char, UChar, Int, UInt, Long, ULong}
use Rattle.c_types.specs.declared.kinds.ArithOp.TheVariants.{Sub}
use Rattle.c_types.specs.declared.trap.Trap.{Trap}
use Rattle.c_types.specs.Numbers.{converted, greatest, least, IsInRange, is_in_range, number_or, arith_result}
use Rattle.c_types.proofs.Residues.{converted-in_range, converted-in_kind}
use Rattle.c_tree.specs.declared.tree.UnaryOp.TheVariants.{Minus}
use Rattle.c_tree.specs.Operators.{unary_result, binary_result}
use mathlib.Core.Path.{ap₂}
use Rattle.c_tree.specs.declared.tree.BinaryOp.TheVariants.{Arith}
use Rattle.c_tree.specs.ExpressionTrees.{Typed, Unary}
use Rattle.flat_laws.specs.Pieces.{sp_number, sp_unary, sp_binary, IsNumber}
use Rattle.c_tree.specs.Numerals.{number, least_constant, constant}
use Rattle.c_tree.proofs.NumeralLaws.{constant_pos}

-- `-n` of a signed promoted kind, where n is a number of it
minus_int : (n : ℕ) → n ≤ 2147483647 → unary_result Minus Int (pos n) ≡ Ok (neg_ℤ (pos n))
minus_int n h =
    let r : IsInRange Int (pos n) = record { from_least = grind (arith, ints); to_greatest = grind (arith, ints) } in
    let q : IsInRange Int (neg_ℤ (pos n)) = record { from_least = grind (arith, ints); to_greatest = grind (arith, ints) } in
    let e : is_in_range Int (neg_ℤ (pos n)) ≡ true = grind (arith, ints) in
    ap (λ z. number_or Trap.Overflow Int (neg_ℤ z)) (converted-in_kind Int (pos n) r)
    ∙ ap (λ b. cond (not b) (Err Trap.Overflow) (Ok (converted Int (neg_ℤ (pos n))))) e
    ∙ ap Ok (converted-in_kind Int (neg_ℤ (pos n)) q)

minus_long : (n : ℕ) → n ≤ 9223372036854775807 → unary_result Minus Long (pos n) ≡ Ok (neg_ℤ (pos n))
minus_long n h =
    let r : IsInRange Long (pos n) = record { from_least = grind (arith, ints); to_greatest = grind (arith, ints) } in
    let q : IsInRange Long (neg_ℤ (pos n)) = record { from_least = grind (arith, ints); to_greatest = grind (arith, ints) } in
    let e : is_in_range Long (neg_ℤ (pos n)) ≡ true = grind (arith, ints) in
    ap (λ z. number_or Trap.Overflow Long (neg_ℤ z)) (converted-in_kind Long (pos n) r)
    ∙ ap (λ b. cond (not b) (Err Trap.Overflow) (Ok (converted Long (neg_ℤ (pos n))))) e
    ∙ ap Ok (converted-in_kind Long (neg_ℤ (pos n)) q)

-- `-n - 1`
less_int : (n : ℕ) → n ≤ 2147483647 → binary_result (Arith Sub) Int Int (neg_ℤ (pos n)) (pos 1) ≡ Ok (negsuc n)
unfolding arith_result converted
less_int n h =
    let q : IsInRange Int (neg_ℤ (pos n)) = record { from_least = grind (arith, ints); to_greatest = grind (arith, ints) } in
    let o : IsInRange Int (pos 1) = record { from_least = grind (arith, ints); to_greatest = grind (arith, ints) } in
    let r : IsInRange Int (negsuc n) = record { from_least = grind (arith, ints); to_greatest = grind (arith, ints) } in
    let e : is_in_range Int (negsuc n) ≡ true = grind (arith, ints) in
    let d : neg_ℤ (pos n) -ℤ pos 1 ≡ negsuc n = grind (arith, ints) in
    ap₂ (λ a b. number_or Trap.Overflow Int (a -ℤ b)) (converted-in_kind Int (neg_ℤ (pos n)) q) (converted-in_kind Int (pos 1) o)
    ∙ ap (λ z. number_or Trap.Overflow Int z) d
    ∙ ap (λ b. cond (not b) (Err Trap.Overflow) (Ok (converted Int (negsuc n)))) e
    ∙ ap Ok (converted-in_kind Int (negsuc n) r)

less_long : (n : ℕ) → n ≤ 9223372036854775807 → binary_result (Arith Sub) Long Long (neg_ℤ (pos n)) (pos 1) ≡ Ok (negsuc n)
unfolding arith_result converted
less_long n h =
    let q : IsInRange Long (neg_ℤ (pos n)) = record { from_least = grind (arith, ints); to_greatest = grind (arith, ints) } in
    let o : IsInRange Long (pos 1) = record { from_least = grind (arith, ints); to_greatest = grind (arith, ints) } in
    let r : IsInRange Long (negsuc n) = record { from_least = grind (arith, ints); to_greatest = grind (arith, ints) } in
    let e : is_in_range Long (negsuc n) ≡ true = grind (arith, ints) in
    let d : neg_ℤ (pos n) -ℤ pos 1 ≡ negsuc n = grind (arith, ints) in
    ap₂ (λ a b. number_or Trap.Overflow Long (a -ℤ b)) (converted-in_kind Long (neg_ℤ (pos n)) q) (converted-in_kind Long (pos 1) o)
    ∙ ap (λ z. number_or Trap.Overflow Long z) d
    ∙ ap (λ b. cond (not b) (Err Trap.Overflow) (Ok (converted Long (negsuc n)))) e
    ∙ ap Ok (converted-in_kind Long (negsuc n) r)

-- a negative number of a signed kind, which is the least one or not
module _ (k : IntKind) (n : ℕ) (minus : int_le (negsuc n) (least k) ≡ false → unary_result Minus k (pos (suc n)) ≡ Ok (negsuc n))
    (less : int_le (negsuc n) (least k) ≡ true → (unary_result Minus k (greatest k) ≡ Ok (neg_ℤ (greatest k))) ×
    (binary_result (Arith Sub) k k (neg_ℤ (greatest k)) (pos 1) ≡ Ok (negsuc n))) where
  negative : (b : Bool) → int_le (negsuc n) (least k) ≡ b → IsNumber
      (cond b (least_constant k) (Typed (Some k) (Unary Minus (number k (pos (suc n)))))) k (negsuc n)
  negative true e = let h = less e in record {
    kind = refl;
    spelled = sp_binary Sub (Some k)
        (sp_unary Minus (Some k) (sp_number (Some k) (greatest k)) h.0) (sp_number (Some k) (pos 1)) h.1;
  }
  negative false e = record { kind = refl; spelled = sp_unary Minus (Some k) (sp_number (Some k) (pos (suc n))) (minus e) }

  pub as_negative : IsNumber (constant k (negsuc n)) k (negsuc n)
  as_negative = negative (int_le (negsuc n) (least k)) refl

no_negative : (k : IntKind) (n : ℕ) → greatest k ≡ greatest k → IsInRange k (negsuc n) → least k ≡ pos 0 → ⊥
no_negative k n e r l = let h = r.from_least in grind (arith, ints, h, l)

is_spelled : (k : IntKind) (z : ℤ) → IsInRange k z → IsNumber (constant k z) k z
is_spelled k (pos n) r = subst (λ e. IsNumber e k (pos n)) (sym (constant_pos k n)) (record { kind = refl; spelled = sp_number (Some k) (pos n) })
is_spelled Char (negsuc n) r =
    let l = r.from_least in
    as_negative Char n (λ e. minus_int (suc n) (grind (arith, ints, e, l)))
    (λ e. let i : n ≡ 127 = grind (arith, ints, e, l) in (minus_int 127 (omega arith), less_int 127 (omega arith) ∙ ap (λ m. Ok (negsuc m)) (sym i)))
is_spelled Int (negsuc n) r =
    let l = r.from_least in
    as_negative Int n (λ e. minus_int (suc n) (grind (arith, ints, e, l)))
    (λ e. let i : n ≡ 2147483647 = grind (arith, ints, e, l) in
    (minus_int 2147483647 (omega arith), less_int 2147483647 (omega arith) ∙ ap (λ m. Ok (negsuc m)) (sym i)))
is_spelled Long (negsuc n) r =
    let l = r.from_least in
    as_negative Long n (λ e. minus_long (suc n) (grind (arith, ints, e, l)))
    (λ e. let i : n ≡ 9223372036854775807 = grind (arith, ints, e, l) in
    (minus_long 9223372036854775807 (omega arith), less_long 9223372036854775807 (omega arith) ∙ ap (λ m. Ok (negsuc m)) (sym i)))
is_spelled UChar (negsuc n) r = absurd (no_negative UChar n refl r refl)
is_spelled UInt (negsuc n) r = absurd (no_negative UInt n refl r refl)
is_spelled ULong (negsuc n) r = absurd (no_negative ULong n refl r refl)

-- what a setting wants of the constants that it writes
pub spelled_numbers : (k : IntKind) (z : ℤ) → IsNumber (constant k (converted k z)) k (converted k z)
spelled_numbers k z = is_spelled k (converted k z) (converted-in_range k z)
