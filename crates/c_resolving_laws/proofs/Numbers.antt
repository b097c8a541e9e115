-- A number that is read is one of its kind, and is spelled as a constant of it.
use Rattle.std.proofs.Common.{ℕ, pos, Bool, true, false, cond, List, [], ◌∷◌, drop, Option, Some, None, option_map, ◌≡◌, refl, arith}
use Rattle.std.specs.Prelude.{IfSome, int_le, find}
use Rattle.std.specs.List.{prefix_len, take_while}
use Rattle.std.proofs.lemmas.Bool.Decides.{nat_tests}
use Rattle.std.proofs.lemmas.Int.{ints}
use Rattle.c_types.specs.declared.kinds.Base.{Base}
use Rattle.c_types.specs.declared.kinds.Base.TheVariants.{Decimal, Octal, Hex}
use Rattle.c_types.specs.declared.kinds.Suffix.{Suffix}
use Rattle.c_types.specs.declared.kinds.Suffix.TheVariants as suffix
use Rattle.c_types.specs.declared.kinds.IntKind.{IntKind}
use Rattle.c_types.specs.declared.kinds.IntKind.TheVariants.{Char, UChar}
use Rattle.c_types.specs.Numbers.{greatest, constant_kinds, IsInRange}
use Rattle.c_lexer.specs.declared.number.Integer.{Integer}
use Rattle.c_lexer.specs.Numbers.{radix, base_of, behind_prefix, is_digit_of, suffix_of, value_of, kind_of, integer_from, integer_of}
use Rattle.c_resolved_defs.specs.PrintableExpressions.{IsConstant}
use Rattle.c_resolved_defs.specs.Within.{Each}

-- a kind that a constant can have
abbrev IsConstantKind : IntKind → Type 0
IsConstantKind Char = ⊥
IsConstantKind UChar = ⊥
IsConstantKind _ = Unit {0}

-- a number of its kind, spelled as a constant
abbrev pub IsNumberOf : IntKind → ℕ → Type 0
IsNumberOf kind v = IsInRange kind (pos v) × IsConstant (Some kind) (pos v)

held : (kind : IntKind) (v : ℕ) → IsConstantKind kind → int_le (pos v) (greatest kind) ≡ true → IsNumberOf kind v
held Char v c h = absurd c
held UChar v c h = absurd c
held _ v c h = (record { from_least = grind (arith, ints); to_greatest = grind (arith, ints, nat_tests) }, grind (arith, nat_tests))

chosen : (P : IntKind → Type 0) (b : Bool) (k : IntKind) (o : Option IntKind) → (b ≡ true → P k) → IfSome o P → IfSome (cond b (Some k) o) P
chosen P true k o f h = f refl
chosen P false k o f h = h

found_held : (v : ℕ) (kinds : List IntKind) → Each IsConstantKind kinds →
    IfSome (find (λ kind. int_le (pos v) (greatest kind)) kinds) (λ kind. IsNumberOf kind v)
found_held v [] h = tt
found_held v (kind ∷ kinds) h = chosen (λ k. IsNumberOf k v) (int_le (pos v) (greatest kind)) kind _ (held kind v h.0) (found_held v kinds h.1)

constant_kinds_are : (base : Base) (s : Suffix) → Each IsConstantKind (constant_kinds base s)
constant_kinds_are Decimal suffix.Plain = (tt, (tt, tt))
constant_kinds_are Decimal suffix.U = (tt, (tt, tt))
constant_kinds_are Decimal _ = (tt, tt)
constant_kinds_are Octal suffix.Plain = (tt, (tt, (tt, (tt, tt))))
constant_kinds_are Octal suffix.U = (tt, (tt, tt))
constant_kinds_are Octal suffix.L = (tt, (tt, tt))
constant_kinds_are Octal suffix.UL = (tt, tt)
constant_kinds_are Hex suffix.Plain = (tt, (tt, (tt, (tt, tt))))
constant_kinds_are Hex suffix.U = (tt, (tt, tt))
constant_kinds_are Hex suffix.L = (tt, (tt, tt))
constant_kinds_are Hex suffix.UL = (tt, tt)

abbrev IsNumber : Option Integer → Type 0
IsNumber o = IfSome o (λ i. IsNumberOf i.kind i.value)

with_kind : (v : ℕ) (o : Option IntKind) → IfSome o (λ kind. IsNumberOf kind v) → IsNumber (option_map (λ kind. record { kind = kind; value = v }) o)
with_kind v None h = tt
with_kind v (Some kind) h = h

from_digits : (base : Base) (ds : List ℕ) (s : Option Suffix) → IsNumber (integer_from base ds s)
from_digits base [] s = tt
from_digits base (d ∷ ds) None = tt
from_digits base (d ∷ ds) (Some s) =
    let v = value_of (radix base) (d ∷ ds) in with_kind v (kind_of base s v) (found_held v (constant_kinds base s) (constant_kinds_are base s))

pub integer_in_range : (w : List ℕ) → IfSome (integer_of w) (λ (i : Integer). IsNumberOf i.kind i.value)
integer_in_range w =
    let base = base_of w in
    let v = behind_prefix base w in
    from_digits base (take_while (is_digit_of base) v) (suffix_of (drop (prefix_len (is_digit_of base) v) v))
