use Rattle.std.proofs.Common.{subst}
use Rattle.std.proofs.lemmas.Result.{IfOk-weaker, on_err_weaker}
use Rattle.step_memory.specs.Rooms.{IsNumberAt, LacksCell}
use Rattle.step_memory.specs.Stores.{names_of, HasNumber}
use Rattle.step_memory.specs.Values.{owner_of}
use Rattle.step_memory.proofs.store.Store.number.Goals as goal

pub returns-in-Some-clause-ok : goal.returns-in-Some-clause-ok
returns-in-Some-clause-ok c =
    IfOk-weaker c.number.result (λ z. IsNumberAt c.in-Some.room.now c.args.at z) (λ z. HasNumber c.args.self.now c.args.owner c.args.at z)
    (λ z k w h. k (names_of c.args.self.now) (w.variables (owner_of (names_of c.args.self.now) c.args.owner))
    (h.rooms c.args.owner c.in-Some.room.now c.in-Some.ensures))
    c.number.ensures.ok

pub returns-in-Some-clause-err : goal.returns-in-Some-clause-err
returns-in-Some-clause-err c =
    on_err_weaker c.number.result (λ k r e. subst (λ x. LacksCell x c.args.at) (cc (c.in-Some.ensures, e)) k) c.number.ensures.err
