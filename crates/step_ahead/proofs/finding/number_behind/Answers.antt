use Rattle.std.proofs.Common.{pos, Some, ap, ◌∙◌}
use Rattle.std.proofs.lemmas.Option.{IfSome_then}
use Rattle.step_memory.specs.Pages.{room_at_start, cells_at_start}
use Rattle.step_memory.specs.Seen.{room_seen}
use Rattle.step_ahead.proofs.finding.number_behind.Goals as goal

pub returns-in-Number-clause-ok : goal.returns-in-Number-clause-ok
returns-in-Number-clause-ok c =
    IfSome_then c.constant.result c.constant.ensures.ok
    (λ r i. (c.in-Made.room.now, c.in-Number.number, c.in-Some.ensures ∙ ap (λ x. Some (room_seen x)) c.in-Made.is, c.in-Number.is, i))

pub returns-in-None-clause-ok : goal.returns-in-None-clause-ok
returns-in-None-clause-ok c =
    IfSome_then c.constant-in-None.result c.constant-in-None.ensures.ok
    (λ r i. (room_at_start c.in-Start.slot.now, pos 0, c.in-Some.ensures ∙ ap (λ x. Some (room_seen x)) c.in-Start.is, ap cells_at_start c.in-None.is, i))
