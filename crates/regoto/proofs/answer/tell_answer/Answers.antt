use Rattle.regoto.proofs.answer.tell_answer.Goals as goal

pub returns-in-Ended-clause-line : goal.returns-in-Ended-clause-line
returns-in-Ended-clause-line g c = rw c.in-Ended.is c.tell_value.ensures

pub returns-in-Trapped-clause-line : goal.returns-in-Trapped-clause-line
returns-in-Trapped-clause-line g c = rw c.in-Trapped.is c.tell_trap.ensures

pub returns-in-Spent-clause-line : goal.returns-in-Spent-clause-line
returns-in-Spent-clause-line g c = rw c.in-Spent.is c.tell_spent.ensures

pub returns-in-ReadFault-clause-line : goal.returns-in-ReadFault-clause-line
returns-in-ReadFault-clause-line g c = rw c.in-ReadFault.is c.tell.ensures

pub returns-in-WriteFault-clause-line : goal.returns-in-WriteFault-clause-line
returns-in-WriteFault-clause-line g c = rw c.in-WriteFault.is c.tell-in-WriteFault.ensures

pub returns-in-Memory-clause-line : goal.returns-in-Memory-clause-line
returns-in-Memory-clause-line g c = rw c.in-Memory.is c.tell-in-Memory.ensures
