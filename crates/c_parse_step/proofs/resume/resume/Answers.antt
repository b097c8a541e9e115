use Rattle.std.proofs.Common.{◌∙◌, ap, sym}
use Rattle.c_parse_step.specs.declared.frame.Found.TheVariants.{Whole}
use Rattle.c_parse_step.specs.Machine as spec
use Rattle.c_parse_step.proofs.Resumes.{resumes_begun, resumes_ended, steps_taken, steps_failed}
use Rattle.c_parse_step.proofs.resume.resume.Goals as goal

pub returns-in-Some-2 : goal.returns-in-Some-2
returns-in-Some-2 c =
    c.loop-want.invariant.goes
    ∙ resumes_begun c.loop-want.form c.in-Some.want c.pop.new.self c.loop-want.stack c.args.class c.args.at c.in-Some.ensures
    (sym c.skips.ensures ∙ c.if-not-skips.true)
    ∙ steps_taken _ c.in_ok-load.field-0 c.in-Some-2.load c.begin.new.stack c.in_ok-load.ensures c.in-Some-2.is

pub returns-in-None : goal.returns-in-None
returns-in-None c =
    c.loop-want.invariant.goes
    ∙ resumes_begun c.loop-want.form c.in-Some.want c.pop.new.self c.loop-want.stack c.args.class c.args.at c.in-Some.ensures
    (sym c.skips.ensures ∙ c.if-not-skips.true)
    ∙ steps_failed _ c.in_ok-load.field-0 c.begin.new.stack c.in_ok-load.ensures c.in-None.is

pub returns : goal.returns
returns c = (
  c.loop-want.invariant.goes
      ∙ resumes_ended c.loop-want.form c.loop-want.stack c.args.class c.args.at c.in_default.ensures.0
      ∙ ap (λ v. spec.give c.loop-want.stack (Whole v) c.args.class c.args.at) (sym c.finished_node.ensures)
      ∙ ap (λ z. spec.give z (Whole c.finished_node.result) c.args.class c.args.at) c.loop-want.invariant.same,
  c.loop-want.invariant.same,
)
