use Rattle.std.proofs.Common.{sym, ◌∙◌}
use Rattle.flat_names.specs.Gathered.{all_used}
use Rattle.goto_lowering.proofs.Steps.{labels_end}
use Rattle.goto_lowering.proofs.labels.label_names.Goals as goal

pub returns-clause-value : goal.returns-clause-value
returns-clause-value c = sym (labels_end c.args.labels.now (all_used c.loop-i.used) c.loop-i.next c.args.codes.now c.loop-i.i c.loop-i.out
    c.loop-i-test.false) ∙ c.loop-i.invariant.value
