-- The lists in a statement have fewer nodes than it.
use Rattle.std.proofs.Common.{◌<◌, ◌+◌, ◌-◌, ℕ, arith}
use Rattle.c_grammar.specs.declared.syntax.Syntax.{Syntax}
use Rattle.c_grammar.specs.ItemViews.{StatementIsSmaller}
use Rattle.c_grammar.specs.Weights.{weight, weights}
use Rattle.c_grammar.specs.declared.statements.StatementLayer.{StatementLayer}
use Rattle.c_grammar.specs.declared.statements.StatementLayer.TheVariants as S
use Rattle.c_grammar.specs.Weighed.{open_weight}

-- the nodes of what is walked in it
abbrev pub inside : StatementLayer → ℕ
inside (S.If t b) = weight b.now
inside (S.IfElse t b c) = weight b.now + (weight c.now - weight b.now)
inside (S.While t b) = weight b.now
inside (S.DoWhile b t) = weight b.now
inside (S.For s t u b) = weight b.now
inside (S.Switch t b) = weight b.now
inside (S.Block first after xs) = weights xs.now
inside _ = 0

below : (n : ℕ) (s : StatementLayer) → 0 < n → StatementIsSmaller n s → inside s < n
below n (S.If t b) h k = k
below n (S.IfElse t b c) h k = omega (arith, k.0, k.1)
below n (S.While t b) h k = k
below n (S.DoWhile b t) h k = k
below n (S.For s t u b) h k = k
below n (S.Switch t b) h k = k
below n (S.Block first after xs) h k = k
below n _ h k = h

pub inside_below : (x : Syntax) (s : StatementLayer) → StatementIsSmaller (weight x) s → inside s < weight x
inside_below x s k = below (weight x) s (omega (arith, open_weight x)) k
