use Rattle.c_scopes.specs.Files.{behind_declaration, declaration_tops, declaration_faults}
use Rattle.c_scopes.proofs.files.read_declaration.Goals as goal

pub returns-clause-env : goal.returns-clause-env
returns-clause-env c = rw (c.declaration_layer-d.ensures) (rw c.kinded-kinded.ensures at c.read_globals.ensures.env)

pub returns-clause-out : goal.returns-clause-out
returns-clause-out c = rw (c.declaration_layer-d.ensures) (rw c.kinded-kinded.ensures at c.read_globals.ensures.out)

pub returns-clause-faults : goal.returns-clause-faults
returns-clause-faults c = rw (c.declaration_layer-d.ensures) (rw c.kinded-kinded.ensures at c.read_globals.ensures.faults)
