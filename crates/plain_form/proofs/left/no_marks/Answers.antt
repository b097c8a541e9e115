use Rattle.std.proofs.Common.{Bool, false, List, [], ◌∷◌, ◌++◌, ap, ◌∙◌}
use Rattle.plain_form.proofs.MarkLaws.{unmarked_more}
use Rattle.plain_form.proofs.left.no_marks.Goals as goal

pub loop-i-preserved : goal.loop-i-preserved
loop-i-preserved c = c.in_ok-push.ensures.ok ∙ ap (λ (l : List Bool). l ++ false ∷ []) c.loop-i.invariant ∙ unmarked_more c.loop-i.i
