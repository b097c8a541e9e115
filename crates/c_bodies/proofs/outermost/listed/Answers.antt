use Rattle.c_bodies.proofs.outermost.listed.Goals as goal

pub returns-in-Braces-clause-value : goal.returns-in-Braces-clause-value
returns-in-Braces-clause-value c = rw c.in-Braces.is c.braces.ensures.value

pub returns-in-Braces-clause-walk : goal.returns-in-Braces-clause-walk
returns-in-Braces-clause-walk c = rw c.in-Braces.is c.braces.ensures.walk

pub returns-in-Braces-clause-faults : goal.returns-in-Braces-clause-faults
returns-in-Braces-clause-faults c = rw c.in-Braces.is c.braces.ensures.faults

pub returns-in-Lone-clause-value : goal.returns-in-Lone-clause-value
returns-in-Lone-clause-value c = rw c.in-Lone.is c.lone.ensures.value

pub returns-in-Lone-clause-walk : goal.returns-in-Lone-clause-walk
returns-in-Lone-clause-walk c = rw c.in-Lone.is c.lone.ensures.walk

pub returns-in-Lone-clause-faults : goal.returns-in-Lone-clause-faults
returns-in-Lone-clause-faults c = rw c.in-Lone.is c.lone.ensures.faults
