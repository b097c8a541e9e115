use Rattle.std.proofs.Common.{ap}
use Rattle.c_scopes.proofs.files.add_variables.Goals as goal

pub returns-clause-scopes : goal.returns-clause-scopes
returns-clause-scopes c = ap (λ e. e.scopes) c.in_ok-read_declaration.ensures.env

pub returns-clause-out : goal.returns-clause-out
returns-clause-out c = c.in_ok-read_declaration.ensures.out

pub returns-clause-faults : goal.returns-clause-faults
returns-clause-faults c = c.in_ok-read_declaration.ensures.faults
