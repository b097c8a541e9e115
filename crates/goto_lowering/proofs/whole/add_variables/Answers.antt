use Rattle.std.proofs.Common.{◌≡◌, ◌+◌, drop, sym, ap, ◌∙◌}
use Rattle.flat_names.specs.Gathered.{named_of}
use Rattle.lower_laws.specs.Lowering.{with_variables}
use Rattle.goto_lowering.proofs.Steps.{variables_step, variables_end}
use Rattle.goto_lowering.proofs.whole.add_variables.Goals as goal

pub loop-i-preserved : goal.loop-i-preserved
loop-i-preserved c =
    let i = c.loop-i.i in
    let cs = c.args.constructs.now in
    record {
      file = c.add_variable.ensures.file ∙ c.loop-i.invariant.file;
      value = ap (with_variables (i + 1 + 1) (drop (i + 1) cs)) c.in_ok-add_variable.ensures.value ∙
          sym (variables_step cs i (named_of c.loop-i.used c.loop-i.slots) _ c.loop-i-test.true) ∙ c.loop-i.invariant.value;
    }

pub returns-clause-value : goal.returns-clause-value
returns-clause-value c = sym (variables_end c.args.constructs.now c.loop-i.i (named_of c.loop-i.used c.loop-i.slots) c.loop-i-test.false) ∙
    c.loop-i.invariant.value
