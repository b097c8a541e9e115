use Rattle.std.proofs.Common.{subst}
use Rattle.std.proofs.lemmas.Result.{IfOk-weaker, on_err_weaker}
use Rattle.step_memory.specs.Rooms.{IsNumberAt, LacksCell}
use Rattle.step_memory.specs.Seen.{room_seen}
use Rattle.step_memory.specs.Stores.{names_of, HasNumber}
use Rattle.step_memory.specs.Values.{owner_of}
use Rattle.step_memory.proofs.store.Store.number_behind.Goals as goal

pub returns-clause-ok : goal.returns-clause-ok
returns-clause-ok c =
    IfOk-weaker c.number.result (λ z. IsNumberAt (room_seen c.in_ok-room.field-0) c.args.at z) (λ z. HasNumber c.args.self.now c.args.owner c.args.at z)
    (λ z k w h. k (names_of c.args.self.now) (w.variables (owner_of (names_of c.args.self.now) c.args.owner))
    (h.rooms c.args.owner (room_seen c.in_ok-room.field-0) c.in_ok-room.ensures.ok))
    c.number.ensures.ok

pub returns-clause-err : goal.returns-clause-err
returns-clause-err c =
    on_err_weaker c.number.result (λ k r e. subst (λ x. LacksCell x c.args.at) (cc (c.in_ok-room.ensures.ok, e)) k) c.number.ensures.err
