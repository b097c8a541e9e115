use Rattle.c_bodies.proofs.labels.add_label.Goals as goal

pub returns-in-Case-clause-out : goal.returns-in-Case-clause-out
returns-in-Case-clause-out c = rw c.in-Case.is c.add_arrival.ensures.out

pub returns-in-Case-clause-cases : goal.returns-in-Case-clause-cases
returns-in-Case-clause-cases c = rw c.in-Case.is c.add_arrival.ensures.cases

pub returns-in-Case-clause-faults : goal.returns-in-Case-clause-faults
returns-in-Case-clause-faults c = rw c.in-Case.is c.add_arrival.ensures.faults
