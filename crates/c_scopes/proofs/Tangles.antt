-- Numbers that count no further than 64 bits do, against limits far below.
use Rattle.std.proofs.Common.{◌≡◌, ◌<◌, ◌+◌, ◌*◌, ◌||◌, ℕ, Bool, true, nat_lt, min, refl, ap, arith}
use Rattle.std.proofs.lemmas.Bool.{ltb-true, lt-ltb, ltb_from_iff}
use Rattle.c_statements.specs.Measures.{is_tangled, within_bounds}
use Rattle.c_statements.specs.declared.measures.Measures.{Measures}

bounded-over : (n k : ℕ) → nat_lt 400 (min n 18446744073709551615 + k) ≡ nat_lt 400 (n + k)
bounded-over n k =
    ltb_from_iff (
      (λ h. let g : 400 < min n 18446744073709551615 + k = ltb-true 400 (min n 18446744073709551615 + k) h in omega arith),
      (λ (h : 400 < n + k). lt-ltb 400 (min n 18446744073709551615 + k) (omega arith)),
    )

pub bounded_tangled : (m : Measures) → is_tangled (within_bounds m) ≡ is_tangled m
bounded_tangled m = λ i. (bounded-over m.depth (3 * m.jumps) i || bounded-over m.counted (6 * m.labels) i) || nat_lt 63 m.longest
