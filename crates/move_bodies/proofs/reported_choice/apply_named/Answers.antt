use Rattle.move_bodies.proofs.Lawfuls.{none_lawful}
use Rattle.move_bodies.proofs.reported_choice.apply_named.Goals as goal

pub returns-in-None-clause-no : goal.returns-in-None-clause-no
returns-in-None-clause-no c = λ f. none_lawful c.args.name.now c.args.labels.now c.args.step.now c.args.body.now
    (rw c.in-None.is at c.in_ok-choice.ensures.none)
