use Rattle.step_tasks.proofs.LabelLemmas.{of_body, of_none}
use Rattle.step_tasks.proofs.gathering.labels_of.Goals as goal

pub returns-in_ok-gather-in-Some : goal.returns-in_ok-gather-in-Some
returns-in_ok-gather-in-Some c = of_body c.args.function.now c.in-Some.body c.as_slice.result.now c.no_labels-labels.result c.gather.new.labels
    c.in-Some.is c.as_slice.ensures.value c.no_labels-labels.ensures.starts c.in_ok-gather-in-Some.ensures

pub returns-in-None : goal.returns-in-None
returns-in-None c = of_none c.args.function.now c.no_labels-labels.result c.in-None.is c.no_labels-labels.ensures.starts
