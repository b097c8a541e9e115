use Rattle.c_bodies.proofs.labels.read_label.Goals as goal

pub returns-in-Case-clause-heads : goal.returns-in-Case-clause-heads
returns-in-Case-clause-heads c = rw c.in-Case.is c.read_case.ensures.heads

pub returns-in-Case-clause-cases : goal.returns-in-Case-clause-cases
returns-in-Case-clause-cases c = rw c.in-Case.is c.read_case.ensures.cases

pub returns-in-Case-clause-faults : goal.returns-in-Case-clause-faults
returns-in-Case-clause-faults c = rw c.in-Case.is c.read_case.ensures.faults
