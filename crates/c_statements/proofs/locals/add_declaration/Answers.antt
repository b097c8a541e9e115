use Rattle.c_statements.proofs.locals.add_declaration.Goals as goal

pub returns : goal.returns
returns c = rw (c.declaration_layer-d.ensures) (rw c.kinded-kinded.ensures at c.add_locals.ensures)
