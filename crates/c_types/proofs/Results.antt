-- What the operations on 128 bits give at numbers of the kinds.
use Rattle.std.proofs.Common.{◌≡◌, refl, sym, ap, ◌∙◌, subst, ℕ, zero, suc, ◌*◌, ◌/◌, ◌%◌, ◌^◌, ◌<◌, ◌≤◌, Bool, true, false, ℤ, pos, negsuc, neg_ℤ, ◌+ℤ◌, ◌-ℤ◌, ◌*ℤ◌, arith}
use Rattle.std.specs.Prelude.{int_div, int_rem, unsigned_abs, bit_and, bit_or, bit_xor, FitsSigned, int_lt, ◌==◌, ◌&&◌, Result, Ok, Err, Some}
use Rattle.std.specs.Int.{w128, cast_signed, cast_unsigned, is_negative}
use Rattle.std.proofs.lemmas.Int.{ints, to_z-of_z, to_z_pos, quot_is, rem_is, fits_signed_from_abs, fits_signed_mul}
use Rattle.std.specs.Option.{option_map_or}
use Rattle.std.proofs.lemmas.Bool.{cond-true, cond-false, ne_eqb, and_left, and_right}
use Rattle.std.proofs.lemmas.Bool.Decides.{nat_tests}
use Rattle.std.proofs.lemmas.Nat.{mod_below, pow_pos, and_mod, or_mod, xor_mod, or_lt, xor_lt, and_le_l, shl_whole}
use Rattle.std.proofs.Math.Nat.{div-le_self, mod-le, lt_of_lt_of_le, lt_of_le_of_lt}
use Rattle.c_types.specs.declared.kinds.IntKind.{IntKind}
use Rattle.c_types.specs.declared.kinds.IntKind.TheVariants.{Char, UChar, Int, UInt, Long, ULong}
use Rattle.c_types.specs.declared.trap.Trap.{Trap}
use Rattle.c_types.specs.declared.trap.Trap.TheVariants.{Overflow, Shift}
use Rattle.c_types.specs.declared.kinds.ArithOp.TheVariants.{Mul, Shl}
use Rattle.c_types.specs.Numbers.{width, is_signed, IsInRange, is_in_range, residue, number_of, converted, number_or, quotient, remainder, shift_count, shifted_left, arith_result}
use Rattle.c_types.proofs.Residues.{residue-cast_signed, cast_unsigned-mod}

-- ---- how large the numbers of the kinds are

pub abs_below : (k : IntKind) (z : ℤ) → IsInRange k z → unsigned_abs z < 2 ^ 64
abs_below Char (pos n) h = grind (arith, ints)
abs_below Char (negsuc n) h = grind (arith, ints)
abs_below UChar (pos n) h = grind (arith, ints)
abs_below UChar (negsuc n) h = grind (arith, ints)
abs_below Int (pos n) h = grind (arith, ints)
abs_below Int (negsuc n) h = grind (arith, ints)
abs_below UInt (pos n) h = grind (arith, ints)
abs_below UInt (negsuc n) h = grind (arith, ints)
abs_below Long (pos n) h = grind (arith, ints)
abs_below Long (negsuc n) h = grind (arith, ints)
abs_below ULong (pos n) h = grind (arith, ints)
abs_below ULong (negsuc n) h = grind (arith, ints)

pub abs_of_signed : (k : IntKind) (z : ℤ) → is_signed k ≡ true → IsInRange k z → unsigned_abs z ≤ 2 ^ 63
abs_of_signed Char (pos n) s h = grind (arith, ints)
abs_of_signed Char (negsuc n) s h = grind (arith, ints)
abs_of_signed UChar (pos n) s h = cc
abs_of_signed UChar (negsuc n) s h = cc
abs_of_signed Int (pos n) s h = grind (arith, ints)
abs_of_signed Int (negsuc n) s h = grind (arith, ints)
abs_of_signed UInt (pos n) s h = cc
abs_of_signed UInt (negsuc n) s h = cc
abs_of_signed Long (pos n) s h = grind (arith, ints)
abs_of_signed Long (negsuc n) s h = grind (arith, ints)
abs_of_signed ULong (pos n) s h = cc
abs_of_signed ULong (negsuc n) s h = cc

pub data IsUnsigned : ℤ → Type 0 where
  unsigned : (n : ℕ) → n < 2 ^ 64 → IsUnsigned (pos n)

pub is_unsigned : (k : IntKind) (z : ℤ) → is_signed k ≡ false → IsInRange k z → IsUnsigned z
is_unsigned Char (pos n) s h = cc
is_unsigned Char (negsuc n) s h = cc
is_unsigned UChar (pos n) s h = unsigned n (grind (arith, ints))
is_unsigned UChar (negsuc n) s h = absurd (grind (arith, ints))
is_unsigned Int (pos n) s h = cc
is_unsigned Int (negsuc n) s h = cc
is_unsigned UInt (pos n) s h = unsigned n (grind (arith, ints))
is_unsigned UInt (negsuc n) s h = absurd (grind (arith, ints))
is_unsigned Long (pos n) s h = cc
is_unsigned Long (negsuc n) s h = cc
is_unsigned ULong (pos n) s h = unsigned n (grind (arith, ints))
is_unsigned ULong (negsuc n) s h = absurd (grind (arith, ints))

abs_neg : (z : ℤ) → unsigned_abs (neg_ℤ z) ≡ unsigned_abs z
abs_neg (pos zero) = refl
abs_neg (pos (suc n)) = refl
abs_neg (negsuc n) = refl

abs-div_le : (a b : ℤ) → unsigned_abs (int_div a b) ≤ unsigned_abs a
abs-div_le (pos a) (pos b) = div-le_self a b
abs-div_le (pos a) (negsuc b) = rw (abs_neg (pos (a / suc b))) (div-le_self a (suc b))
abs-div_le (negsuc a) (pos b) = rw (abs_neg (pos (suc a / b))) (div-le_self (suc a) b)
abs-div_le (negsuc a) (negsuc b) = div-le_self (suc a) (suc b)

div_fits : (k : IntKind) (a b : ℤ) → IsInRange k a → FitsSigned w128 (int_div a b)
div_fits k a b h = fits_signed_from_abs w128 (int_div a b) (omega (arith, abs-div_le a b, abs_below k a h))

mul_fits : (k : IntKind) (a b : ℤ) → is_signed k ≡ true → IsInRange k a → IsInRange k b → FitsSigned w128 (a *ℤ b)
mul_fits k a b s p q =
    fits_signed_mul w128 a b (2 ^ 63) (2 ^ 63) (abs_of_signed k a s p) (abs_of_signed k b s q) (omega arith)

-- ---- division

not_zero : (b : ℤ) → (cast_unsigned w128 b ≡ 0 → ⊥) → (unsigned_abs b == 0) ≡ false
not_zero (pos n) h = ne_eqb n 0 h
not_zero (negsuc n) h = ne_eqb (suc n) 0 (λ e. omega (arith, e))

-- a number of the kind, brought nearer to zero, is one
pub nearer_pos : (k : IntKind) (a n : ℕ) → n ≤ a → IsInRange k (pos a) → IsInRange k (pos n)
nearer_pos Char a n l h = record { from_least = grind (arith, ints); to_greatest = grind (arith, ints) }
nearer_pos UChar a n l h = record { from_least = grind (arith, ints); to_greatest = grind (arith, ints) }
nearer_pos Int a n l h = record { from_least = grind (arith, ints); to_greatest = grind (arith, ints) }
nearer_pos UInt a n l h = record { from_least = grind (arith, ints); to_greatest = grind (arith, ints) }
nearer_pos Long a n l h = record { from_least = grind (arith, ints); to_greatest = grind (arith, ints) }
nearer_pos ULong a n l h = record { from_least = grind (arith, ints); to_greatest = grind (arith, ints) }

nearer_neg : (k : IntKind) (a n : ℕ) → n ≤ suc a → IsInRange k (negsuc a) → IsInRange k (neg_ℤ (pos n))
nearer_neg Char a zero l h = record { from_least = grind (arith, ints); to_greatest = grind (arith, ints) }
nearer_neg Char a (suc n) l h = record { from_least = grind (arith, ints); to_greatest = grind (arith, ints) }
nearer_neg UChar a _ l h = record { from_least = grind (arith, ints); to_greatest = grind (arith, ints) }
nearer_neg Int a _ l h = record { from_least = grind (arith, ints); to_greatest = grind (arith, ints) }
nearer_neg UInt a _ l h = record { from_least = grind (arith, ints); to_greatest = grind (arith, ints) }
nearer_neg Long a _ l h = record { from_least = grind (arith, ints); to_greatest = grind (arith, ints) }
nearer_neg ULong a _ l h = record { from_least = grind (arith, ints); to_greatest = grind (arith, ints) }

pub rem_in_range : (k : IntKind) (a b : ℤ) → IsInRange k a → IsInRange k (int_rem a b)
rem_in_range k (pos a) b h = nearer_pos k a (a % unsigned_abs b) (mod-le a (unsigned_abs b)) h
rem_in_range k (negsuc a) b h = nearer_neg k a (suc a % unsigned_abs b) (mod-le (suc a) (unsigned_abs b)) h

module _ (k : IntKind) (a b : ℤ) (fa : FitsSigned w128 a) (fb : FitsSigned w128 b) (h : IsInRange k a) where
  quot : cast_signed w128 (cast_unsigned w128 (int_div (cast_signed w128 (cast_unsigned w128 a)) (cast_signed w128 (cast_unsigned w128 b)))) ≡ int_div a b
  quot = quot_is w128 a b fa fb (div_fits k a b h)

  rest : cast_signed w128 (cast_unsigned w128 (int_rem (cast_signed w128 (cast_unsigned w128 a)) (cast_signed w128 (cast_unsigned w128 b)))) ≡ int_rem a b
  rest = rem_is w128 a b fa fb

  pub quotient_value : (cast_unsigned w128 b ≡ 0 → ⊥) → number_or Overflow k
      (cast_signed w128 (cast_unsigned w128 (int_div (cast_signed w128 (cast_unsigned w128 a)) (cast_signed w128 (cast_unsigned w128 b))))) ≡ quotient k a b
  quotient_value nz = ap (number_or Overflow k) quot ∙ sym (cond-false (unsigned_abs b == 0) _ _ (not_zero b nz))

  module _ (nz : cast_unsigned w128 b ≡ 0 → ⊥) (held : Bool)
      (e : held ≡ is_in_range k (cast_signed w128
      (cast_unsigned w128 (int_div (cast_signed w128 (cast_unsigned w128 a)) (cast_signed w128 (cast_unsigned w128 b)))))) where
    held_is : held ≡ is_in_range k (int_div a b)
    held_is = e ∙ ap (is_in_range k) quot

    pub remainder_overflow : held ≡ false → ◌≡◌ {A = Result ℤ Trap} (Err Overflow) (remainder k a b)
    remainder_overflow f =
        sym (cond-false (is_in_range k (int_div a b)) (Ok (int_rem a b)) (Err Overflow) (sym held_is ∙ f))
        ∙ sym (cond-false (unsigned_abs b == 0) _ _ (not_zero b nz))

    pub remainder_value : held ≡ true → ◌≡◌ {A = Result ℤ Trap}
        (Ok (cast_signed w128 (cast_unsigned w128 (int_rem (cast_signed w128 (cast_unsigned w128 a)) (cast_signed w128 (cast_unsigned w128 b))))))
        (remainder k a b)
    remainder_value t =
        ap Ok rest
        ∙ sym (cond-true (is_in_range k (int_div a b)) (Ok (int_rem a b)) (Err Overflow) (sym held_is ∙ t))
        ∙ sym (cond-false (unsigned_abs b == 0) _ _ (not_zero b nz))

  pub remainder_in_range : IsInRange k (cast_signed w128
      (cast_unsigned w128 (int_rem (cast_signed w128 (cast_unsigned w128 a)) (cast_signed w128 (cast_unsigned w128 b)))))
  remainder_in_range = subst (IsInRange k) (sym rest) (rem_in_range k a b h)

-- ---- products

module _ (k : IntKind) (a b : ℤ) (fa : FitsSigned w128 a) (fb : FitsSigned w128 b) (p : IsInRange k a) (q : IsInRange k b) where
  pub product_value : is_signed k ≡ true → number_or Overflow k
      (cast_signed w128 (cast_unsigned w128 (cast_signed w128 (cast_unsigned w128 a) *ℤ cast_signed w128 (cast_unsigned w128 b)))) ≡ arith_result Mul k a b
  unfolding arith_result
  product_value s = ap (number_or Overflow k) (rw (to_z-of_z w128 a fa, to_z-of_z w128 b fb) (to_z-of_z w128 (a *ℤ b) (mul_fits k a b s p q)))

mod_of_128 : (k : IntKind) (n : ℕ) → n % 2 ^ 128 % 2 ^ width k ≡ n % 2 ^ width k
mod_of_128 Char n = grind arith
mod_of_128 UChar n = grind arith
mod_of_128 Int n = grind arith
mod_of_128 UInt n = grind arith
mod_of_128 Long n = grind arith
mod_of_128 ULong n = grind arith

-- the 128 bits that are left of a number keep its residue
pub converted-wrapped : (k : IntKind) (n : ℕ) → converted k (cast_signed w128 (n % 2 ^ 128)) ≡ converted k (pos n)
unfolding converted
converted-wrapped k n =
    ap (number_of k) (residue-cast_signed k (n % 2 ^ 128) (mod_below n (2 ^ 128) (pow_pos 128)) ∙ mod_of_128 k n)

unsigned_result : (trap : Trap) (k : IntKind) (z : ℤ) → is_signed k ≡ false → number_or trap k z ≡ Ok (converted k z)
unsigned_result trap k z s = grind (arith, s)

pub wrapped_product : (k : IntKind) (a b : ℤ) → is_signed k ≡ false → IsUnsigned a → IsUnsigned b →
    ◌≡◌ {A = Result ℤ Trap} (Ok (converted k (cast_signed w128 ((cast_unsigned w128 a * cast_unsigned w128 b) % 2 ^ 128)))) (arith_result Mul k a b)
unfolding arith_result
wrapped_product k _ _ s (unsigned x p) (unsigned y q) =
    ap Ok (converted-wrapped k (x * y)) ∙ sym (unsigned_result Overflow k (pos (x * y)) s)

-- ---- shifts to the left

-- a count is below the width of each kind
count_below : (k : IntKind) (b : ℤ) (n : ℕ) → Some n ≡ shift_count k b → n < width k
count_below k (pos m) n e = grind (arith, nat_tests)
count_below k (negsuc m) n e = cc

width_at_most : (k : IntKind) → width k ≤ 64
width_at_most Char = omega arith
width_at_most UChar = omega arith
width_at_most Int = omega arith
width_at_most UInt = omega arith
width_at_most Long = omega arith
width_at_most ULong = omega arith

wrapped : (k : IntKind) (a : ℤ) (n : ℕ) → is_signed k ≡ false → IsUnsigned a →
    ◌≡◌ {A = Result ℤ Trap} (Ok (converted k (cast_signed w128 ((cast_unsigned w128 a * 2 ^ n) % 2 ^ 128)))) (number_or Shift k (a *ℤ pos (2 ^ n)))
wrapped k _ n s (unsigned x p) = ap Ok (converted-wrapped k (x * 2 ^ n)) ∙ sym (unsigned_result Shift k (pos (x * 2 ^ n)) s)

whole : (k : IntKind) (a : ℤ) (n : ℕ) → IsInRange k a → is_negative a ≡ false → n < 64 →
    number_or Shift k (cast_signed w128 ((cast_unsigned w128 a * 2 ^ n) % 2 ^ 128)) ≡ number_or Shift k (a *ℤ pos (2 ^ n))
whole k (pos x) n h t l =
    let small : x < 2 ^ 64 = abs_below k (pos x) h in
    let fits : x * 2 ^ n < 2 ^ 127 = rw (← shl_whole x 64 n 127 small (omega arith)) (mod_below (x * 2 ^ n) (2 ^ 127) (pow_pos 127)) in
    ap (λ m. number_or Shift k (cast_signed w128 m)) (shl_whole x 64 n 128 small (omega arith))
    ∙ ap (number_or Shift k) (to_z_pos w128 (x * 2 ^ n) fits)
whole k (negsuc x) n h t l = cc

module _ (k : IntKind) (a b : ℤ) (n : ℕ) (fb : FitsSigned w128 b) (e : Some n ≡ shift_count k (cast_signed w128 (cast_unsigned w128 b))) where
  the_count : Some n ≡ shift_count k b
  the_count = e ∙ ap (shift_count k) (to_z-of_z w128 b fb)

  by_count : shifted_left k a n ≡ arith_result Shl k a b
  unfolding arith_result
  by_count = ap (λ o. option_map_or (shifted_left k a) o (Err Shift)) the_count

  -- an unsigned kind keeps what is left of the bits
  pub wrapped_shift : is_signed k ≡ false → IsUnsigned a → ◌≡◌ {A = Result ℤ Trap}
      (Ok (converted k (cast_signed w128 ((cast_unsigned w128 a * 2 ^ n) % 2 ^ 128)))) (arith_result Shl k a b)
  wrapped_shift s u =
      wrapped k a n s u
      ∙ sym (cond-false (is_signed k && is_negative a) _ _ (and_left (is_signed k) (is_negative a) s))
      ∙ by_count

  -- a number that is not negative is shifted whole
  pub shift_value : IsInRange k a → int_lt (cast_signed w128 (cast_unsigned w128 a)) (pos 0) ≡ false → FitsSigned w128 a →
      number_or Shift k (cast_signed w128 ((cast_unsigned w128 a * 2 ^ n) % 2 ^ 128)) ≡ arith_result Shl k a b
  shift_value h t fa =
      whole k a n h negative (lt_of_lt_of_le (count_below k b n the_count) (width_at_most k))
      ∙ sym (cond-false (is_signed k && is_negative a) _ _ (and_right (is_signed k) (is_negative a) negative))
      ∙ by_count
    where
      negative : is_negative a ≡ false
      negative = sym (ap (λ z. int_lt z (pos 0)) (to_z-of_z w128 a fa)) ∙ t

-- ---- sums and differences

sum_fits : (a b : ℤ) → unsigned_abs a < 2 ^ 64 → unsigned_abs b < 2 ^ 64 → FitsSigned w128 (a +ℤ b)
sum_fits (pos a) (pos b) p q = record { sfits = grind (arith, ints) }
sum_fits (pos a) (negsuc b) p q = record { sfits = grind (arith, ints) }
sum_fits (negsuc a) (pos b) p q = record { sfits = grind (arith, ints) }
sum_fits (negsuc a) (negsuc b) p q = record { sfits = grind (arith, ints) }

module _ (k : IntKind) (a b : ℤ) (fa : FitsSigned w128 a) (fb : FitsSigned w128 b) (p : IsInRange k a) (q : IsInRange k b) where
  pub sum_value : cast_signed w128 (cast_unsigned w128 (cast_signed w128 (cast_unsigned w128 a) +ℤ cast_signed w128 (cast_unsigned w128 b))) ≡ a +ℤ b
  sum_value = rw (to_z-of_z w128 a fa, to_z-of_z w128 b fb) (to_z-of_z w128 (a +ℤ b) (sum_fits a b (abs_below k a p) (abs_below k b q)))

  abs_of_neg : unsigned_abs (neg_ℤ b) < 2 ^ 64
  abs_of_neg = rw (abs_neg b) (abs_below k b q)

  pub difference_value : cast_signed w128 (cast_unsigned w128 (cast_signed w128 (cast_unsigned w128 a) -ℤ cast_signed w128 (cast_unsigned w128 b))) ≡ a -ℤ b
  difference_value = rw (to_z-of_z w128 a fa, to_z-of_z w128 b fb) (to_z-of_z w128 (a -ℤ b) (sum_fits a (neg_ℤ b) (abs_below k a p) abs_of_neg))

-- ---- bits

bits_below : (z : ℤ) → FitsSigned w128 z → cast_unsigned w128 z < 2 ^ 128
bits_below (pos n) h = omega (arith, h.sfits)
bits_below (negsuc n) h = omega arith

and_below : (k x y : ℕ) → x < 2 ^ k → y < 2 ^ k → bit_and x y < 2 ^ k
and_below k x y p q = lt_of_le_of_lt (and_le_l x y) p

module _ (k : IntKind) (a b : ℤ) (fa : FitsSigned w128 a) (fb : FitsSigned w128 b) where
  of_op : (op : ℕ → ℕ → ℕ) → ((j x y : ℕ) → x < 2 ^ j → y < 2 ^ j → op x y < 2 ^ j) → ((x y j : ℕ) → op x y % 2 ^ j ≡ op (x % 2 ^ j) (y % 2 ^ j)) →
      converted k (cast_signed w128 (op (cast_unsigned w128 a) (cast_unsigned w128 b))) ≡ number_of k (op (residue k a) (residue k b))
  unfolding converted
  of_op op below apart =
      ap (number_of k) (
      residue-cast_signed k (op (cast_unsigned w128 a) (cast_unsigned w128 b)) (below 128 _ _ (bits_below a fa) (bits_below b fb))
      ∙ apart (cast_unsigned w128 a) (cast_unsigned w128 b) (width k)
      ∙ ap (λ x. op x (cast_unsigned w128 b % 2 ^ width k)) (cast_unsigned-mod k a fa)
      ∙ ap (op (residue k a)) (cast_unsigned-mod k b fb))

  pub and_value : converted k (cast_signed w128 (bit_and (cast_unsigned w128 a) (cast_unsigned w128 b))) ≡ number_of k (bit_and (residue k a) (residue k b))
  and_value = of_op bit_and and_below and_mod

  pub or_value : converted k (cast_signed w128 (bit_or (cast_unsigned w128 a) (cast_unsigned w128 b))) ≡ number_of k (bit_or (residue k a) (residue k b))
  or_value = of_op bit_or or_lt or_mod

  pub xor_value : converted k (cast_signed w128 (bit_xor (cast_unsigned w128 a) (cast_unsigned w128 b))) ≡ number_of k (bit_xor (residue k a) (residue k b))
  xor_value = of_op bit_xor xor_lt xor_mod
