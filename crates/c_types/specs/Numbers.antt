-- The numbers of the kinds of integers, over unbounded whole numbers: ranges, conversion, and the
-- result or the trap of each arithmetic mark.
use Rattle.std.specs.Prelude.{ℕ, ◌-◌, ◌^◌, Bool, true, false, not, ◌&&◌, ℤ, pos, negsuc, neg_ℤ, ◌+ℤ◌, ◌-ℤ◌, ◌*ℤ◌, ◌≤ℤ◌, int_le, int_div, int_rem, unsigned_abs, ◌==◌, nat_lt, nat_le, bit_and, bit_or, bit_xor, if◌then◌else◌, List, [], ◌∷◌, Option, Some, None, Result, Ok, Err}
use Rattle.std.specs.Option.{option_map_or}
use Rattle.std.specs.Int.{int_rem_euclid, int_shr, is_negative}
use Rattle.c_types.specs.declared.kinds.IntKind.{IntKind}
use Rattle.c_types.specs.declared.kinds.IntKind.TheVariants.{Char, UChar, Int, UInt, Long, ULong}
use Rattle.c_types.specs.declared.kinds.Base.{Base}
use Rattle.c_types.specs.declared.kinds.Base.TheVariants.{Decimal}
use Rattle.c_types.specs.declared.kinds.Suffix.{Suffix}
use Rattle.c_types.specs.declared.kinds.Suffix.TheVariants.{Plain, U, L, UL}
use Rattle.c_types.specs.declared.kinds.ArithOp.{ArithOp}
use Rattle.c_types.specs.declared.kinds.ArithOp.TheVariants.{Add, Sub, Mul, Div, Rem, Shl, Shr, And, Or, Xor}
use Rattle.c_types.specs.declared.trap.Trap.{Trap}
use Rattle.c_types.specs.declared.trap.Trap.TheVariants.{Overflow, ZeroDivisor, Shift}

-- ---- kinds

-- how many bits a number of the kind has
abbrev pub width : IntKind → ℕ
width Char = 8
width UChar = 8
width Int = 32
width UInt = 32
width Long = 64
width ULong = 64

-- whether the kind has negative numbers
abbrev pub is_signed : IntKind → Bool
is_signed Char = true
is_signed UChar = false
is_signed Int = true
is_signed UInt = false
is_signed Long = true
is_signed ULong = false

-- the least and the greatest number of the kind
abbrev pub least : IntKind → ℤ
least k = if is_signed k then neg_ℤ (pos (2 ^ (width k - 1))) else pos 0

abbrev pub greatest : IntKind → ℤ
greatest k = if is_signed k then pos (2 ^ (width k - 1) - 1) else pos (2 ^ width k - 1)

-- z is a number of the kind, as a fact and as a test
pub record IsInRange (k : IntKind) (z : ℤ) : Type 0 where
  pub from_least : least k ≤ℤ z
  pub to_greatest : z ≤ℤ greatest k

abbrev pub is_in_range : IntKind → ℤ → Bool
is_in_range k z = int_le (least k) z && int_le z (greatest k)

-- the kind in which a number of the kind is computed with: an int holds each char
abbrev pub promoted : IntKind → IntKind
promoted Char = Int
promoted UChar = Int
promoted Int = Int
promoted UInt = UInt
promoted Long = Long
promoted ULong = ULong

-- the place of a promoted kind in the order int, unsigned int, long, unsigned long
abbrev pub rank : IntKind → ℕ
rank Char = 0
rank UChar = 0
rank Int = 0
rank UInt = 1
rank Long = 2
rank ULong = 3

-- the kind to which both operands of a mark are brought: the later of the two promoted kinds
abbrev pub usual_kind : IntKind → IntKind → IntKind
usual_kind a b = if nat_le (rank (promoted a)) (rank (promoted b)) then promoted b else promoted a

-- the kinds that a constant of this spelling may have, the first that holds it first
abbrev pub constant_kinds : Base → Suffix → List IntKind
constant_kinds Decimal Plain = Int ∷ Long ∷ []
constant_kinds Decimal U = UInt ∷ ULong ∷ []
constant_kinds Decimal L = Long ∷ []
constant_kinds Decimal UL = ULong ∷ []
constant_kinds _ Plain = Int ∷ UInt ∷ Long ∷ ULong ∷ []
constant_kinds _ U = UInt ∷ ULong ∷ []
constant_kinds _ L = Long ∷ ULong ∷ []
constant_kinds _ UL = ULong ∷ []

-- ---- conversion

-- the remainder of z modulo 2 ^ N, where N is the width of the kind: the bits of its two's complement
abbrev pub residue : IntKind → ℤ → ℕ
residue k z = unsigned_abs (int_rem_euclid z (pos (2 ^ width k)))

-- the number of the kind that has this residue
abbrev pub number_of : IntKind → ℕ → ℤ
number_of k n = if int_le (pos n) (greatest k) then pos n else pos n -ℤ pos (2 ^ width k)

-- the number of the kind that has the residue of z
unfoldable pub converted : IntKind → ℤ → ℤ
converted k z = number_of k (residue k z)

-- ---- arithmetic

-- whether the right operand of the mark is a count of bits
abbrev pub is_shift : ArithOp → Bool
is_shift Shl = true
is_shift Shr = true
is_shift _ = false

-- the result z as a number of the kind: an unsigned kind wraps, and where a signed kind has no such number it is the trap
abbrev pub number_or : Trap → IntKind → ℤ → Result ℤ Trap
number_or trap k z = if is_signed k && not (is_in_range k z) then Err trap else Ok (converted k z)

-- the quotient, rounded toward zero
abbrev pub quotient : IntKind → ℤ → ℤ → Result ℤ Trap
quotient k a b = if unsigned_abs b == 0 then Err ZeroDivisor else number_or Overflow k (int_div a b)

-- the remainder that agrees with the quotient, where that is a number of the kind
abbrev pub remainder : IntKind → ℤ → ℤ → Result ℤ Trap
remainder k a b =
    if unsigned_abs b == 0 then Err ZeroDivisor
    else (if is_in_range k (int_div a b) then Ok (int_rem a b) else Err Overflow)

-- b as a count of bits to shift by: not negative, and below the width
abbrev pub shift_count : IntKind → ℤ → Option ℕ
shift_count k (pos n) = if nat_lt n (width k) then Some n else None
shift_count k (negsuc n) = None

-- a shifted to the left, which a negative number can't be
abbrev pub shifted_left : IntKind → ℤ → ℕ → Result ℤ Trap
shifted_left k a n =
    if is_signed k && is_negative a then Err Shift else number_or Shift k (a *ℤ pos (2 ^ n))

-- what an operation on the bits of two's complement gives
abbrev pub of_bits : IntKind → (ℕ → ℕ → ℕ) → ℤ → ℤ → Result ℤ Trap
of_bits k op a b = Ok (number_of k (op (residue k a) (residue k b)))

-- what a mark gives in a kind. `int_shr` shifts to the right and rounds down, as copies of the sign do
unfoldable pub arith_result : ArithOp → IntKind → ℤ → ℤ → Result ℤ Trap
arith_result Add k a b = number_or Overflow k (a +ℤ b)
arith_result Sub k a b = number_or Overflow k (a -ℤ b)
arith_result Mul k a b = number_or Overflow k (a *ℤ b)
arith_result Div k a b = quotient k a b
arith_result Rem k a b = remainder k a b
arith_result Shl k a b = option_map_or (shifted_left k a) (shift_count k b) (Err Shift)
arith_result Shr k a b = option_map_or (λ n. Ok (int_shr a n)) (shift_count k b) (Err Shift)
arith_result And k a b = of_bits k bit_and a b
arith_result Or k a b = of_bits k bit_or a b
arith_result Xor k a b = of_bits k bit_xor a b
