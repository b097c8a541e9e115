use Rattle.c_statements.proofs.NoteLemmas.{none_anywhere}
use Rattle.c_statements.proofs.notes.Notes.new.Goals as goal

pub returns : goal.returns
returns c = none_anywhere (record { before = c.new.result; at_end = c.new-2.result; at_section = c.new-3.result; last = c.new-4.result })
    c.new.ensures c.new-2.ensures c.new-3.ensures c.new-4.ensures
