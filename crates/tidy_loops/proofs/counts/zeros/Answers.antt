use Rattle.std.proofs.Common.{ℕ, List, [], ◌∷◌, ◌++◌, ap, ◌∙◌}
use Rattle.tidy_loops.proofs.Kept.{zero_more}
use Rattle.tidy_loops.proofs.counts.zeros.Goals as goal

pub loop-i-preserved : goal.loop-i-preserved
loop-i-preserved c = c.in_ok-push.ensures.ok ∙ ap (λ (l : List ℕ). l ++ 0 ∷ []) c.loop-i.invariant ∙ zero_more c.loop-i.i
