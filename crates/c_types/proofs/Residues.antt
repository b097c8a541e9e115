-- The laws of conversion: the result is in the range of the kind and congruent to the value, and no
-- other number is both. And what wrapped and bitwise results of 128 bits leave of a residue.
use Rattle.std.proofs.Common.{◌≡◌, refl, sym, ap, ◌∙◌, subst, ℕ, ◌%◌, ◌^◌, ◌<◌, ◌/◌, ℤ, pos, negsuc, ◌+ℤ◌, ◌*ℤ◌, ◌-ℤ◌, inl, inr, arith}
use Rattle.std.specs.Prelude.{FitsSigned, int_le, ◌⊎◌}
use Rattle.std.specs.Int.{w128, cast_signed, cast_unsigned}
use Rattle.std.proofs.lemmas.Int.{ints}
use Rattle.std.proofs.lemmas.Nat.{mod_below, pow_pos}
use Rattle.std.proofs.Math.IntN.{suc_ℤ, suc_ℤ-*ℤ}
use Rattle.std.proofs.lemmas.Bool.{cases_Bool, cond-true, cond-false}
use Rattle.c_types.specs.declared.kinds.IntKind.{IntKind}
use Rattle.c_types.specs.declared.kinds.IntKind.TheVariants.{Char, UChar, Int, UInt, Long, ULong}
use Rattle.c_types.specs.Numbers.{width, greatest, IsInRange, residue, number_of, converted}

pub residue_below : (k : IntKind) (z : ℤ) → residue k z < 2 ^ width k
residue_below k (pos n) = mod_below n (2 ^ width k) (pow_pos (width k))
residue_below k (negsuc n) = omega (arith, pow_pos (width k))

pub number_of-in_range : (k : IntKind) (n : ℕ) → n < 2 ^ width k → IsInRange k (number_of k n)
number_of-in_range Char n h = record { from_least = grind (arith, ints); to_greatest = grind (arith, ints) }
number_of-in_range UChar n h = record { from_least = grind (arith, ints); to_greatest = grind (arith, ints) }
number_of-in_range Int n h = record { from_least = grind (arith, ints); to_greatest = grind (arith, ints) }
number_of-in_range UInt n h = record { from_least = grind (arith, ints); to_greatest = grind (arith, ints) }
number_of-in_range Long n h = record { from_least = grind (arith, ints); to_greatest = grind (arith, ints) }
number_of-in_range ULong n h = record { from_least = grind (arith, ints); to_greatest = grind (arith, ints) }

-- the number of the kind has the residue that it is made from
pub residue-number_of : (k : IntKind) (n : ℕ) → n < 2 ^ width k → residue k (number_of k n) ≡ n
residue-number_of Char n h = grind (arith, ints)
residue-number_of UChar n h = grind (arith, ints)
residue-number_of Int n h = grind (arith, ints)
residue-number_of UInt n h = grind (arith, ints)
residue-number_of Long n h = grind (arith, ints)
residue-number_of ULong n h = grind (arith, ints)

-- a number of the kind is the one with its residue
pub number_of-residue : (k : IntKind) (z : ℤ) → IsInRange k z → number_of k (residue k z) ≡ z
number_of-residue Char (pos n) h = grind (arith, ints)
number_of-residue Char (negsuc n) h = grind (arith, ints)
number_of-residue UChar (pos n) h = grind (arith, ints)
number_of-residue UChar (negsuc n) h = grind (arith, ints)
number_of-residue Int (pos n) h = grind (arith, ints)
number_of-residue Int (negsuc n) h = grind (arith, ints)
number_of-residue UInt (pos n) h = grind (arith, ints)
number_of-residue UInt (negsuc n) h = grind (arith, ints)
number_of-residue Long (pos n) h = grind (arith, ints)
number_of-residue Long (negsuc n) h = grind (arith, ints)
number_of-residue ULong (pos n) h = grind (arith, ints)
number_of-residue ULong (negsuc n) h = grind (arith, ints)

pub residue-cast_signed : (k : IntKind) (m : ℕ) → m < 2 ^ 128 → residue k (cast_signed w128 m) ≡ m % 2 ^ width k
residue-cast_signed Char m h = grind (arith, ints)
residue-cast_signed UChar m h = grind (arith, ints)
residue-cast_signed Int m h = grind (arith, ints)
residue-cast_signed UInt m h = grind (arith, ints)
residue-cast_signed Long m h = grind (arith, ints)
residue-cast_signed ULong m h = grind (arith, ints)

pub cast_unsigned-mod : (k : IntKind) (z : ℤ) → FitsSigned w128 z → cast_unsigned w128 z % 2 ^ width k ≡ residue k z
cast_unsigned-mod k (pos n) h = refl
cast_unsigned-mod Char (negsuc n) h = grind arith
cast_unsigned-mod UChar (negsuc n) h = grind arith
cast_unsigned-mod Int (negsuc n) h = grind arith
cast_unsigned-mod UInt (negsuc n) h = grind arith
cast_unsigned-mod Long (negsuc n) h = grind arith
cast_unsigned-mod ULong (negsuc n) h = grind arith

pub converted-in_range : (k : IntKind) (z : ℤ) → IsInRange k (converted k z)
unfolding converted
converted-in_range k z = number_of-in_range k (residue k z) (residue_below k z)

-- the number is congruent to what it is converted from
pub residue-converted : (k : IntKind) (z : ℤ) → residue k (converted k z) ≡ residue k z
unfolding converted
residue-converted k z = residue-number_of k (residue k z) (residue_below k z)

-- z and its residue differ by a multiple of 2 ^ N
residue_differs : (k : IntKind) (z : ℤ) → (q : ℤ) × (z ≡ pos (residue k z) +ℤ q *ℤ pos (2 ^ width k))
residue_differs Char (pos n) = (pos (n / 256), grind (arith, ints))
residue_differs Char (negsuc n) = (negsuc (n / 256), grind (arith, ints))
residue_differs UChar (pos n) = (pos (n / 256), grind (arith, ints))
residue_differs UChar (negsuc n) = (negsuc (n / 256), grind (arith, ints))
residue_differs Int (pos n) = (pos (n / 4294967296), grind (arith, ints))
residue_differs Int (negsuc n) = (negsuc (n / 4294967296), grind (arith, ints))
residue_differs UInt (pos n) = (pos (n / 4294967296), grind (arith, ints))
residue_differs UInt (negsuc n) = (negsuc (n / 4294967296), grind (arith, ints))
residue_differs Long (pos n) = (pos (n / 18446744073709551616), grind (arith, ints))
residue_differs Long (negsuc n) = (negsuc (n / 18446744073709551616), grind (arith, ints))
residue_differs ULong (pos n) = (pos (n / 18446744073709551616), grind (arith, ints))
residue_differs ULong (negsuc n) = (negsuc (n / 18446744073709551616), grind (arith, ints))

number_of_differs : (k : IntKind) (n : ℕ) → (number_of k n ≡ pos n) ⊎ (number_of k n ≡ pos n -ℤ pos (2 ^ width k))
number_of_differs k n = elim (cases_Bool (int_le (pos n) (greatest k))) [
  | inl t ↦ inl (cond-true (int_le (pos n) (greatest k)) (pos n) _ t)
  | inr f ↦ inr (cond-false (int_le (pos n) (greatest k)) (pos n) _ f)
]

regroup : (z n t r p m : ℤ) → z ≡ r +ℤ p → n ≡ r -ℤ m → t ≡ p +ℤ m → z ≡ n +ℤ t
regroup z n t r p m e h g = omega (arith, ints)

number_differs : (k : IntKind) (z : ℤ) (n : ℕ) → (q : ℤ) × (z ≡ pos n +ℤ q *ℤ pos (2 ^ width k)) →
    (number_of k n ≡ pos n) ⊎ (number_of k n ≡ pos n -ℤ pos (2 ^ width k)) → (q : ℤ) × (z ≡ number_of k n +ℤ q *ℤ pos (2 ^ width k))
number_differs k z n (q, e) (inl h) = (q, e ∙ ap (λ x. x +ℤ q *ℤ pos (2 ^ width k)) (sym h))
number_differs k z n (q, e) (inr h) = (
  suc_ℤ q,
  regroup z (number_of k n) (suc_ℤ q *ℤ pos (2 ^ width k)) (pos n) (q *ℤ pos (2 ^ width k)) (pos (2 ^ width k)) e h
      (suc_ℤ-*ℤ q (pos (2 ^ width k))),
)

-- so do z and the number that it is converted to
pub converted_differs : (k : IntKind) (z : ℤ) → (q : ℤ) × (z ≡ converted k z +ℤ q *ℤ pos (2 ^ width k))
unfolding converted
converted_differs k z = number_differs k z (residue k z) (residue_differs k z) (number_of_differs k (residue k z))

-- a number of the kind stays what it is
pub converted-in_kind : (k : IntKind) (z : ℤ) → IsInRange k z → converted k z ≡ z
unfolding converted
converted-in_kind k z h = number_of-residue k z h

-- no other number of the kind is congruent to it
pub converted_unique : (k : IntKind) (y z : ℤ) → IsInRange k y → residue k y ≡ residue k z → y ≡ converted k z
unfolding converted
converted_unique k y z h e = sym (number_of-residue k y h) ∙ ap (number_of k) e

pub in_range_if_converted : (k : IntKind) (z r : ℤ) → r ≡ converted k z → IsInRange k r
in_range_if_converted k z r e = subst (IsInRange k) (sym e) (converted-in_range k z)
