use Rattle.std.proofs.Common.{rules, [], Some}
use Rattle.std.specs.Int.{w128}
use Rattle.std.proofs.lemmas.Int.{to_z-of_z}
use Rattle.step_interp.specs.declared.runs.RunAnswer.TheVariants as answer
use Rattle.regoto.proofs.CountedRuns.{still, agreed, ended}
use Rattle.regoto.proofs.alone.run_alone.Goals as goal

pub returns-in-Ended-clause-end : goal.returns-in-Ended-clause-end
returns-in-Ended-clause-end c =
    ended c.args.program.now c.args.entry.now c.args.steps c.requires.main c.requires.steps c.in-Ended.value _ c.in-Ended.field-1 c.written.result
    c.new-out.result.count c.run.new.out.count
    (Some []) (to_z-of_z w128 c.in-Ended.value (search rules)) c.new-out.ensures c.written.ensures c.in-Ended.ensures.answers

pub returns-in-Trapped-clause-stop : goal.returns-in-Trapped-clause-stop
returns-in-Trapped-clause-stop c =
    agreed c.args.program.now c.args.entry.now c.args.steps c.requires.main c.requires.steps (answer.Trapped c.in-Trapped.trap c.in-Trapped.field-1)
    (c.in-Trapped.ensures.complete still still)

pub returns-in-Spent-clause-stop : goal.returns-in-Spent-clause-stop
returns-in-Spent-clause-stop c =
    agreed c.args.program.now c.args.entry.now c.args.steps c.requires.main c.requires.steps answer.Spent (c.in-Spent.ensures.complete still still)
