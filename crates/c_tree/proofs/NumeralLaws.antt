-- A number that isn't negative is written as it is.
use Rattle.std.proofs.Common.{ℕ, pos, true, nat_le, ◌≡◌, arith}
use Rattle.std.proofs.lemmas.Bool.Decides.{nat_tests}
use Rattle.std.proofs.lemmas.Bool.{cond-true}
use Rattle.c_types.specs.declared.kinds.IntKind.{IntKind}
use Rattle.c_tree.specs.Numerals.{number, constant}

at_or_above : (n : ℕ) → nat_le 0 n ≡ true
at_or_above n = grind (arith, nat_tests)

pub constant_pos : (k : IntKind) (n : ℕ) → constant k (pos n) ≡ number k (pos n)
constant_pos k n = cond-true (nat_le 0 n) (number k (pos n)) _ (at_or_above n)
