use Rattle.std.proofs.Common.{drop, ◌+◌, sym, ap, ◌∙◌}
use Rattle.flat_names.specs.FlatNames.{name_constructs}
use Rattle.flat_names.proofs.Steps.{constructs_step, constructs_end}
use Rattle.flat_names.specs.Gathered.{given_of}
use Rattle.flat_names.proofs.giving.name_constructs.Goals as goal

pub loop-i-preserved : goal.loop-i-preserved
loop-i-preserved c =
    let i = c.loop-i.i in
    let cs = c.args.constructs.now in
    record {
      file = c.name_construct.ensures.file ∙ c.loop-i.invariant.file;
      value = ap (name_constructs (i + 1 + 1) (drop (i + 1) cs)) c.in_ok-name_construct.ensures.value ∙
          sym (constructs_step cs i (given_of c.loop-i.used c.loop-i.given) _ c.loop-i-test.true) ∙ c.loop-i.invariant.value;
    }

pub returns-clause-value : goal.returns-clause-value
returns-clause-value c = sym (constructs_end c.args.constructs.now c.loop-i.i (given_of c.loop-i.used c.loop-i.given) c.loop-i-test.false) ∙
    c.loop-i.invariant.value
