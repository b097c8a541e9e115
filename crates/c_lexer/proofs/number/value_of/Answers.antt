use Rattle.std.proofs.Common.{◌≡◌, ◌+◌, ◌*◌, ◌<◌, ◌≤◌, ℕ, List, length, drop, get_or, ap, sym, ◌∙◌, subst, arith}
use Rattle.std.proofs.lemmas.List.{drop_more}
use Rattle.c_types.specs.declared.kinds.Base.{Base}
use Rattle.c_lexer.specs.Bytes.{digit_value}
use Rattle.c_lexer.specs.Numbers.{radix, value_of}
use Rattle.c_lexer.specs.NumberSteps.{value_from}
use Rattle.c_lexer.proofs.NumberLemmas.{value_from_up, value_is}
use Rattle.c_lexer.proofs.number.value_of.Goals as goal

-- the digit at i makes the number too great, and so do all
too_great : (base : Base) (ds : List ℕ) (i v most : ℕ) → i < length ds → value_from (radix base) v (drop i ds) ≡ value_of (radix base) ds →
    most < v * radix base + digit_value (get_or ds i 0) → most < value_of (radix base) ds
too_great base ds i v most within same above =
    let here : value_from (radix base) v (drop i ds) ≡ value_from (radix base) (v * radix base + digit_value (get_or ds i 0)) (drop (i + 1) ds) =
    ap (value_from (radix base) v) (drop_more ds i 0 within) in
    let up = value_from_up base (v * radix base + digit_value (get_or ds i 0)) (drop (i + 1) ds) in
    let further : v * radix base + digit_value (get_or ds i 0) ≤ value_of (radix base) ds =
    subst (λ (n : ℕ). v * radix base + digit_value (get_or ds i 0) ≤ n) (sym here ∙ same) up in
    less most _ _ above further
  where
    less : (a b c : ℕ) → a < b → b ≤ c → a < c
    less a b c h k = omega arith

pub returns-in-None : goal.returns-in-None
returns-in-None c = too_great c.args.base c.args.digits.now c.loop-digit.digit-index c.loop-digit.value _ c.loop-digit-test.true
    c.loop-digit.invariant c.in-None.ensures

pub loop-digit-init : goal.loop-digit-init
loop-digit-init c = value_is (radix c.args.base) c.args.digits.now
