use Rattle.std.proofs.Common.{sym}
use Rattle.std.proofs.lemmas.Option.{IfSome_then}
use Rattle.step_ahead.proofs.ReadLemmas.{reads_slot}
use Rattle.step_ahead.proofs.finding.slot_number.Goals as goal

pub returns-in-Number-clause-ok : goal.returns-in-Number-clause-ok
returns-in-Number-clause-ok c k =
    IfSome_then c.constant.result c.constant.ensures.ok
    (λ r i. reads_slot c.args.store.now c.args.slot c.in-Some.slots.now c.in-Some-first_room.room.now c.in-Number.number k r
    (sym c.in-Some.ensures.value) c.in-Some-first_room.ensures c.in-Number.is i)

pub returns-in-None-clause-ok : goal.returns-in-None-clause-ok
returns-in-None-clause-ok c k =
    IfSome_then c.number_behind.result c.number_behind.ensures.ok
    (λ r i. reads_slot c.args.store.now c.args.slot c.in-Some.slots.now i.0 i.1 k r (sym c.in-Some.ensures.value) i.2 i.3 i.4)
