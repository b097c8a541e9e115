-- The value of digits, and the run of a number.
use Rattle.std.proofs.Common.{◌≡◌, ◌≤◌, ◌<◌, ◌+◌, ◌*◌, ◌^◌, ◌&&◌, ℕ, Bool, true, false, pos, List, [], ◌∷◌, length, None, refl, ap, sym, ◌∙◌, arith}
use Rattle.std.specs.Prelude.{find, int_le}
use Rattle.std.proofs.Math.Nat.{add-mul, mul_assoc, mul_comm, mul-one, add-zero, pow-zero, pow-suc}
use Rattle.std.proofs.lemmas.Bool.Decides.{nat_tests}
use Rattle.c_types.specs.declared.kinds.Base.{Base}
use Rattle.c_types.specs.declared.kinds.Base.TheVariants.{Decimal, Octal, Hex}
use Rattle.c_types.specs.declared.kinds.Suffix.{Suffix}
use Rattle.c_types.specs.declared.kinds.IntKind.{IntKind}
use Rattle.c_types.specs.declared.kinds.IntKind.TheVariants.{Char, UChar, Int, UInt, Long, ULong}
use Rattle.c_types.specs.Numbers.{greatest, constant_kinds}
use Rattle.c_types.specs.Words.{is_digit}
use Rattle.c_lexer.specs.Bytes.{digit_value, is_power, is_run_byte}
use Rattle.c_lexer.specs.Numbers.{radix, continues, ends_with_power, value_of, kind_of}
use Rattle.c_lexer.specs.NumberSteps.{continues_from, power_from, value_from}

-- more digits never make less
pub value_from_up : (base : Base) (v : ℕ) (ds : List ℕ) → v ≤ value_from (radix base) v ds
value_from_up base v [] = omega arith
value_from_up Decimal v (d ∷ ds) = let h = value_from_up Decimal (v * 10 + digit_value d) ds in omega arith
value_from_up Octal v (d ∷ ds) = let h = value_from_up Octal (v * 8 + digit_value d) ds in omega arith
value_from_up Hex v (d ∷ ds) = let h = value_from_up Hex (v * 16 + digit_value d) ds in omega arith

pub value_up : (v : ℕ) (ds : List ℕ) → v ≤ value_from 16 v ds
value_up v ds = value_from_up Hex v ds

-- ---- no kind holds more than an unsigned long does

not_held : (kind : IntKind) (v : ℕ) → 18446744073709551615 < v → int_le (pos v) (greatest kind) ≡ false
not_held Char v h = grind (arith, nat_tests)
not_held UChar v h = grind (arith, nat_tests)
not_held Int v h = grind (arith, nat_tests)
not_held UInt v h = grind (arith, nat_tests)
not_held Long v h = grind (arith, nat_tests)
not_held ULong v h = grind (arith, nat_tests)

none_found : (kinds : List IntKind) (v : ℕ) → 18446744073709551615 < v → find (λ kind. int_le (pos v) (greatest kind)) kinds ≡ None
none_found [] v h = refl
none_found (kind ∷ kinds) v h = let x = not_held kind v h in rw x (none_found kinds v h)

pub no_kind : (base : Base) (suffix : Suffix) (v : ℕ) → 18446744073709551615 < v → kind_of base suffix v ≡ None
no_kind base suffix v h = none_found (constant_kinds base suffix) v h

-- ---- the value by places

by_place : (v d base p q m n : ℕ) → n ≡ (v * base + d) * p + m → q ≡ p * base → n ≡ v * q + (d * p + m)
by_place v d base p q m n h k =
    let product : v * base * p ≡ v * q = mul_assoc v base p ∙ ap (λ x. v * x) (mul_comm base p ∙ sym k) in
    let all = add-mul (v * base) d p in
    omega (arith, h, product, all)

pub value_behind : (base v : ℕ) (ds : List ℕ) → value_from base v ds ≡ v * base ^ length ds + value_of base ds
value_behind base v [] = sym (add-zero (v * base ^ 0) ∙ ap (λ p. v * p) (pow-zero base) ∙ mul-one v)
value_behind base v (d ∷ ds) =
    let h = value_behind base (v * base + digit_value d) ds in
    let k = pow-suc base (length ds) in
    by_place v (digit_value d) base (base ^ length ds) _ _ _ h k

pub value_is : (base : ℕ) (ds : List ℕ) → value_from base 0 ds ≡ value_of base ds
value_is base ds = let h = value_behind base 0 ds in omega (arith, h)

-- ---- runs

pub digit_power : (b : ℕ) → is_digit b ≡ true → is_power b ≡ false
digit_power b h = grind (arith, nat_tests)

pub continues_is : (a : ℕ) (w : List ℕ) → continues_from (is_power a) w ≡ continues (a ∷ w)
continues_is a [] = refl
continues_is a (b ∷ w) = ap (λ c. is_run_byte (is_power a) b && c) (continues_is b w)

pub run_continues : (b : ℕ) (w : List ℕ) → is_digit b ≡ true → continues_from false w ≡ continues (b ∷ w)
run_continues b w h = ap (λ c. continues_from c w) (sym (digit_power b h)) ∙ continues_is b w

pub power_is : (power : Bool) (b : ℕ) (w : List ℕ) → power_from power (b ∷ w) ≡ ends_with_power (b ∷ w)
power_is power b [] = refl
power_is power b (c ∷ w) = power_is (is_power b) c w

pub run_power : (b : ℕ) (w : List ℕ) → is_digit b ≡ true → power_from false w ≡ ends_with_power (b ∷ w)
run_power b w h = ap (λ c. power_from c w) (sym (digit_power b h)) ∙ power_is false b w
