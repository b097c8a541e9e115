use Rattle.std.proofs.Common.{Some, ap, ◌∙◌}
use Rattle.step_memory.specs.Pages.{room_at_start}
use Rattle.step_memory.specs.Seen.{room_seen}
use Rattle.step_memory.proofs.StoreLemmas.{reaches_own, own_at_start}
use Rattle.step_memory.proofs.store.Store.holder_behind.Goals as goal

pub returns-in-Made : goal.returns-in-Made
returns-in-Made c h n = c.holder.ensures c.args.self.now h n (c.in_ok-room.ensures.ok ∙ ap (λ x. Some (room_seen x)) c.in-Made.is)

pub returns-in-Start : goal.returns-in-Start
returns-in-Start c h n =
    reaches_own c.args.self.now h c.args.owner (room_at_start c.in-Start.field-0.now) n
    (c.in_ok-room.ensures.ok ∙ ap (λ x. Some (room_seen x)) c.in-Start.is) (own_at_start c.in-Start.field-0.now.cells)
