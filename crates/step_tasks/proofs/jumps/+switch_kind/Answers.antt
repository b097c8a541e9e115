use Rattle.std.proofs.Common.{ap, sym, ◌∙◌}
use Rattle.c_types.specs.Numbers.{promoted}
use Rattle.c_tree.specs.TestTrees.{selector_tree}
use Rattle.c_tree.proofs.ExpressionLaws.{selector-Source, selector-Pick}
use Rattle.jump_meaning.specs.Operations.{operand_kind}
use Rattle.jump_meaning.specs.Step.{switch_kind}
use Rattle.step_tasks.proofs.NodeEffects.{kind_is}
use Rattle.step_tasks.proofs.jumps.+switch_kind.Goals as goal

pub returns-in-Source : goal.returns-in-Source
returns-in-Source t c =
    c.promote.ensures ∙ ap promoted (c.operand_kind.ensures ∙ ap operand_kind (sym (kind_is c.in-Source.e)))
    ∙ sym (ap switch_kind (ap selector_tree c.in-Source.is ∙ selector-Source c.in-Source.e))

pub returns-in-Pick : goal.returns-in-Pick
returns-in-Pick t c =
    c.switch_kind.ensures ∙ ap (λ s. switch_kind (selector_tree s)) c.get.ensures
    ∙ sym (ap switch_kind (ap selector_tree c.in-Pick.is ∙ selector-Pick c.in-Pick.field-0 c.in-Pick.field-1 c.in-Pick.rest))
