use Rattle.step_tasks.proofs.LabelLemmas.{put_one}
use Rattle.step_tasks.proofs.table.put.Goals as goal

pub returns : goal.returns
returns c = put_one c.args.labels.now c.push.new.self (record { work = c.args.work; below = c.args.below }) c.len.result c.in_ok-push.ensures.ok
    c.len.ensures.value
