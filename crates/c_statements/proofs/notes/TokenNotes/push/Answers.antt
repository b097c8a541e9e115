use Rattle.c_statements.proofs.NoteLemmas.{one_more_of}
use Rattle.std.proofs.Common.{ap, ◌∙◌}
use Rattle.c_statements.specs.NoteViews.{notes_in}
use Rattle.c_statements.proofs.notes.TokenNotes.push.Goals as goal

pub returns : goal.returns
returns c =
    one_more_of c.args.token c.args.self.now.notes c.remove.new.self c.insert.new.self c.or_none-notes.result c.push.new.self c.args.bytes
    (c.in_ok-insert.ensures.updates.0) (c.remove.ensures.updates.0) (c.in_ok-push.ensures.ok)
    (c.or_none-notes.ensures ∙ ap notes_in c.remove.ensures.value)
