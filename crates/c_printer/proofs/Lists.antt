-- Texts of lists, one step on.
use Rattle.std.proofs.Common.{ℕ, cond, nat_lt, List}
use Rattle.c_tree.specs.TextPieces.{Text, more, listed}

-- texts with commas between them, of which so many have been given
abbrev pub listed_from : ℕ → List Text → Text
listed_from i ts rest = cond (nat_lt 0 i) (more ts rest) (listed ts rest)
