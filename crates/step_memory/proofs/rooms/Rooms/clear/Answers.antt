use Rattle.std.proofs.Common.{◌++◌, subst}
use Rattle.std.proofs.lemmas.Result.{on_ok_weaker}
use Rattle.jump_meaning.specs.World.{with_zeros}
use Rattle.step_memory.specs.Rooms.{BecomesAt}
use Rattle.step_memory.specs.Pages.{shown}
use Rattle.step_memory.proofs.PageLemmas.{becomes_left}
use Rattle.step_memory.proofs.rooms.Rooms.clear.Goals as goal

pub returns-then-place-len-clause-ok : goal.returns-then-place-len-clause-ok
returns-then-place-len-clause-ok c =
    let behind = shown c.self.inside.pages c.self.inside.slots.now in
    on_ok_weaker c.clear_in.result
    (λ b. subst (λ rs. BecomesAt (with_zeros c.args.from) c.args.place rs (c.clear_in.new.rooms ++ behind)) c.self.view_is
    (becomes_left (with_zeros c.args.from) c.self.inside.first c.clear_in.new.rooms behind c.args.place b))
    c.clear_in.ensures.ok
