-- A printed number is read as an integer constant of its kind and value.
use Rattle.std.proofs.Common.{◌≡◌, ◌<◌, ◌≤◌, ◌+◌, ◌*◌, ◌%◌, ◌^◌, ℕ, zero, suc, ℤ, pos, negsuc, Bool, true, false, cond, ◌||◌, ◌==◌, List, [], ◌∷◌, ◌++◌, length, drop, get_or, Option, Some, None, refl, ap, sym, ◌∙◌, arith}
use Rattle.std.specs.Prelude.{codes, option_map}
use Rattle.std.specs.List.{list_all, take_while, prefix_len}
use Rattle.std.specs.Fmt.{decimal}
use Rattle.std.proofs.lemmas.Fmt.{decimal_by_steps, first_decimal, decimal_digit}
use Rattle.std.proofs.lemmas.List.{drop_at}
use Rattle.std.proofs.lemmas.List.Sums.{take_while-cons}
use Rattle.std.proofs.lemmas.Bool.{ne_eqb}
use Rattle.std.proofs.lemmas.Bool.Decides.{nat_tests}
use Rattle.c_types.specs.declared.kinds.IntKind.{IntKind}
use Rattle.c_types.specs.declared.kinds.IntKind.TheVariants as K
use Rattle.c_types.specs.declared.kinds.Base.{Base}
use Rattle.c_types.specs.declared.kinds.Base.TheVariants.{Decimal}
use Rattle.c_types.specs.declared.kinds.Suffix.{Suffix}
use Rattle.c_types.specs.declared.kinds.Suffix.TheVariants.{Plain, U, L, UL}
use Rattle.c_types.specs.Words.{is_digit}
use Rattle.c_lexer.specs.declared.number.Integer.{Integer}
use Rattle.c_lexer.specs.Bytes.{is_run_byte, is_power, digit_value}
use Rattle.c_lexer.specs.Numbers.{is_run, integer_of, integer_from, base_of, value_of, kind_of, suffix_of, behind_prefix, is_digit_of}
use Rattle.c_lexer.specs.NumberSteps.{continues_from, value_from}
use Rattle.c_lexer.proofs.NumberLemmas.{value_is, run_continues}
use Rattle.c_tree.specs.TextPieces.{suffix}
use Rattle.print_laws.specs.Reread.{number_text}
use Rattle.c_resolved_defs.specs.PrintableExpressions.{IsConstant}
use Rattle.print_laws.proofs.Neighbours.{first_of_and}
use Rattle.print_laws.proofs.Relexed.{second_of_and}

-- ---- digits

-- digits of this value
pub record AreDigits (n : ℕ) (ds : List ℕ) : Type 0 where
  pub all : list_all is_digit ds ≡ true
  pub some : 0 < length ds
  pub value : value_from 10 0 ds ≡ n

digit_is : (k : ℕ) → k < 10 → is_digit (48 + k) ≡ true
digit_is k h = grind (arith, nat_tests)

digit_counts : (k : ℕ) → k < 10 → digit_value (48 + k) ≡ k
digit_counts k h = grind (arith, nat_tests)

value_more : (ds : List ℕ) (v d : ℕ) → value_from 10 v (ds ++ d ∷ []) ≡ value_from 10 v ds * 10 + digit_value d
value_more [] v d = refl
value_more (x ∷ ds) v d = value_more ds (v * 10 + digit_value x) d

all_more : (ds : List ℕ) (d : ℕ) → list_all is_digit ds ≡ true → is_digit d ≡ true → list_all is_digit (ds ++ d ∷ []) ≡ true
all_more [] d h k = rw k refl
all_more (x ∷ ds) d h k = rw (first_of_and (is_digit x) _ h) (all_more ds d (second_of_and (is_digit x) _ h) k)

some_more : (ds : List ℕ) (d : ℕ) → 0 < length (ds ++ d ∷ [])
some_more [] d = omega arith
some_more (x ∷ ds) d = omega arith

pub digits_of : (n : ℕ) → n < 2 ^ 64 → AreDigits n (decimal n)
digits_of n h = decimal_by_steps AreDigits
    (λ n k. record { all = rw (digit_is n k) refl; some = omega arith; value = let e = digit_counts n k in omega (arith, e) })
    (λ n ds k d.
    let low : n % 10 < 10 = omega arith in
    record {
      all = all_more ds (48 + n % 10) d.all (digit_is (n % 10) low);
      some = some_more ds (48 + n % 10);
      value =
          let v = value_more ds 0 (48 + n % 10) in
          let w = digit_counts (n % 10) low in
          let x = d.value in
          omega (arith, v, w, x);
    })
    n h

-- ---- what stands behind them

-- no digit stands first, and no byte but those of a suffix stands there
record IsSuffix (s : List ℕ) (suffix : Suffix) : Type 0 where
  runs : (power : Bool) → continues_from power s ≡ true
  taken : take_while is_digit s ≡ []
  none : prefix_len is_digit s ≡ 0
  is : suffix_of s ≡ Some suffix

digit_runs : (d : ℕ) → is_digit d ≡ true → (power : Bool) → is_run_byte power d ≡ true
digit_runs d h power = by_test (is_digit d) h _ _ _
  where
    by_test : (x : Bool) → x ≡ true → (a b c : Bool) → (((a || x) || b) || c) ≡ true
    by_test true h true b c = refl
    by_test true h false b c = refl
    by_test false h a b c = cc

all_continue : (ds s : List ℕ) (suffix : Suffix) (power : Bool) → list_all is_digit ds ≡ true → IsSuffix s suffix → continues_from power (ds ++ s) ≡ true
all_continue [] s suffix power h k = k.runs power
all_continue (d ∷ ds) s suffix power h k =
    let e = first_of_and (is_digit d) _ h in
    rw (digit_runs d e power) (all_continue ds s suffix (is_power d) (second_of_and (is_digit d) _ h) k)

run_is : (ds s : List ℕ) (suffix : Suffix) → 0 < length ds → list_all is_digit ds ≡ true → IsSuffix s suffix → is_run (ds ++ s) ≡ true
run_is [] s suffix l h k = absurd (omega (arith, l))
run_is (d ∷ ds) s suffix l h k =
    let e = first_of_and (is_digit d) _ h in
    rw e (sym (run_continues d (ds ++ s) e) ∙ all_continue ds s suffix false (second_of_and (is_digit d) _ h) k)

taken_is : (ds s : List ℕ) → list_all is_digit ds ≡ true → take_while is_digit s ≡ [] → take_while is_digit (ds ++ s) ≡ ds
taken_is [] s h k = k
taken_is (d ∷ ds) s h k =
    take_while-cons is_digit d (ds ++ s) ∙ ap (λ b. cond b (d ∷ take_while is_digit (ds ++ s)) []) (first_of_and (is_digit d) _ h)
    ∙ ap (λ l. d ∷ l) (taken_is ds s (second_of_and (is_digit d) _ h) k)

prefix_is : (ds s : List ℕ) → list_all is_digit ds ≡ true → prefix_len is_digit s ≡ 0 → length ds ≡ prefix_len is_digit (ds ++ s)
prefix_is [] s h k = sym k
prefix_is (d ∷ ds) s h k =
    let e = prefix_is ds s (second_of_and (is_digit d) _ h) k in
    let one : length (d ∷ ds) ≡ 1 + prefix_len is_digit (ds ++ s) = omega (arith, e) in
    one ∙ ap (λ b. cond b (1 + prefix_len is_digit (ds ++ s)) 0) (sym (first_of_and (is_digit d) _ h))

behind_is : (ds s : List ℕ) → list_all is_digit ds ≡ true → prefix_len is_digit s ≡ 0 → drop (prefix_len is_digit (ds ++ s)) (ds ++ s) ≡ s
behind_is ds s h k = drop_at ds s (prefix_len is_digit (ds ++ s)) (prefix_is ds s h k)

-- ---- constants

decimal_base : (d : ℕ) (w : List ℕ) → (d == 48) ≡ false → base_of (d ∷ w) ≡ Decimal
decimal_base d [] h = rw h refl
decimal_base d (x ∷ w) h = rw h refl

-- what is read, where the base is known
abbrev by_base : Base → List ℕ → Option Integer
by_base base w =
    let v = behind_prefix base w in
    integer_from base (take_while (is_digit_of base) v) (suffix_of (drop (prefix_len (is_digit_of base) v) v))

abbrev integer : IntKind → ℕ → Integer
integer kind n = record { kind = kind; value = n }

from_digits : (ds : List ℕ) (suffix : Suffix) (n : ℕ) (kind : IntKind) → 0 < length ds → value_of 10 ds ≡ n → kind_of Decimal suffix n ≡ Some kind →
    integer_from Decimal ds (Some suffix) ≡ Some (integer kind n)
from_digits [] suffix n kind l e h = absurd (omega (arith, l))
from_digits (d ∷ ds) suffix n kind l e h = ap (λ v. option_map (λ kind. integer kind v) (kind_of Decimal suffix v)) e ∙
    ap (option_map (λ kind. integer kind n)) h

decimal_reads : (ds s : List ℕ) (suffix : Suffix) (n : ℕ) (kind : IntKind) → AreDigits n ds → IsSuffix s suffix → base_of (ds ++ s) ≡ Decimal →
    kind_of Decimal suffix n ≡ Some kind → integer_of (ds ++ s) ≡ Some (integer kind n)
decimal_reads ds s suffix n kind d k b h =
    ap (λ base. by_base base (ds ++ s)) b
    ∙ ap (λ l. integer_from Decimal l (suffix_of (drop (prefix_len is_digit (ds ++ s)) (ds ++ s)))) (taken_is ds s d.all k.taken)
    ∙ ap (λ r. integer_from Decimal ds (suffix_of r)) (behind_is ds s d.all k.none)
    ∙ ap (integer_from Decimal ds) k.is
    ∙ from_digits ds suffix n kind d.some (sym (value_is 10 ds) ∙ d.value) h

-- the kind, the suffix and the greatest number of each kind of constants
record IsKind (kind : IntKind) (s : List ℕ) (suffix : Suffix) (most : ℕ) : Type 0 where
  suffixed : IsSuffix s suffix
  found : (n : ℕ) → n < most → kind_of Decimal suffix n ≡ Some kind
  -- 0 is octal
  nought : integer_of (48 ∷ s) ≡ Some (integer kind 0)

int_kind : IsKind K.Int [] Plain (2 ^ 31)
int_kind = record { suffixed = record { runs = λ p. refl; taken = refl; none = refl; is = refl }; found = λ n h. grind (arith, nat_tests); nought = refl }

uint_kind : IsKind K.UInt (codes "U") U (2 ^ 32)
uint_kind = record { suffixed = record { runs = λ p. refl; taken = refl; none = refl; is = refl }; found = λ n h. grind (arith, nat_tests); nought = refl }

long_kind : IsKind K.Long (codes "L") L (2 ^ 63)
long_kind = record { suffixed = record { runs = λ p. refl; taken = refl; none = refl; is = refl }; found = λ n h. grind (arith, nat_tests); nought = refl }

ulong_kind : IsKind K.ULong (codes "UL") UL (2 ^ 64)
ulong_kind = record { suffixed = record { runs = λ p. refl; taken = refl; none = refl; is = refl }; found = λ n h. grind (arith, nat_tests); nought = refl }

first_is : (ds s : List ℕ) → 0 < length ds → 48 < get_or ds 0 0 → base_of (ds ++ s) ≡ Decimal
first_is [] s l h = absurd (omega (arith, l))
first_is (d ∷ ds) s l h = decimal_base d (ds ++ s) (ne_eqb d 48 (omega (arith, h)))

constant : (kind : IntKind) (s : List ℕ) (suffix : Suffix) (most n : ℕ) → IsKind kind s suffix most → most ≤ 2 ^ 64 → n < most →
    (is_run (decimal n ++ s) ≡ true) × (integer_of (decimal n ++ s) ≡ Some (integer kind n))
constant kind s suffix most zero k b h =
    let d = digits_of 0 (omega arith) in
    (run_is (decimal 0) s suffix d.some d.all k.suffixed, ap (λ w. integer_of (w ++ s)) (decimal_digit 0 (omega arith)) ∙ k.nought)
constant kind s suffix most (suc n) k b h =
    let d = digits_of (suc n) (omega (arith, h, b)) in
    let f = first_decimal (suc n) (omega arith) (omega (arith, h, b)) in (
      run_is (decimal (suc n)) s suffix d.some d.all k.suffixed,
      decimal_reads (decimal (suc n)) s suffix (suc n) kind d k.suffixed
          (first_is (decimal (suc n)) s d.some f) (k.found (suc n) h),
    )

-- the integer constant that a number of a kind is
abbrev pub integer_in : Option IntKind → ℤ → Option Integer
integer_in (Some kind) (pos n) = Some (integer kind n)
integer_in _ _ = None

pub number_is : (kind : Option IntKind) (n : ℤ) → IsConstant kind n → (is_run (number_text kind n) ≡ true) ×
    (integer_of (number_text kind n) ≡ integer_in kind n)
number_is (Some K.Int) (pos n) h = constant K.Int [] Plain (2 ^ 31) n int_kind (omega arith) h
number_is (Some K.UInt) (pos n) h = constant K.UInt (codes "U") U (2 ^ 32) n uint_kind (omega arith) h
number_is (Some K.Long) (pos n) h = constant K.Long (codes "L") L (2 ^ 63) n long_kind (omega arith) h
number_is (Some K.ULong) (pos n) h = constant K.ULong (codes "UL") UL (2 ^ 64) n ulong_kind (omega arith) h
number_is (Some K.Char) (pos n) h = absurd h
number_is (Some K.UChar) (pos n) h = absurd h
number_is (Some kind) (negsuc n) h = absurd (never kind n h)
  where
    never : (kind : IntKind) (n : ℕ) → IsConstant (Some kind) (negsuc n) → ⊥
    never K.Char n h = h
    never K.UChar n h = h
    never K.Int n h = h
    never K.UInt n h = h
    never K.Long n h = h
    never K.ULong n h = h
number_is None n h = absurd h
