use Rattle.std.proofs.Common.{sym, ap, ◌∙◌}
use Rattle.c_types.specs.Numbers.{promoted}
use Rattle.c_tree.specs.Constants.{kind_of}
use Rattle.c_tree.proofs.ExpressionLaws.{expression-parts}
use Rattle.jump_meaning.specs.Operations.{operand_kind}
use Rattle.flat_questions.proofs.selectors.switch_kind.Goals as goal

pub returns : goal.returns
returns c =
    c.promote.ensures ∙ ap promoted c.kind_or_int.ensures ∙ ap (λ k. promoted (operand_kind k))
    (sym (ap kind_of (expression-parts c.selector_source.result.now)) ∙ ap kind_of c.selector_source.ensures)
