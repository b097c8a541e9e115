use Rattle.std.proofs.Common.{◌++◌, subst}
use Rattle.std.proofs.lemmas.Result.{on_ok_weaker}
use Rattle.std.specs.Int.{w128}
use Rattle.std.proofs.lemmas.Int.{to_z-of_z}
use Rattle.jump_meaning.specs.World.{with_number}
use Rattle.step_memory.specs.Rooms.{BecomesAt}
use Rattle.step_memory.specs.Pages.{shown}
use Rattle.step_memory.proofs.PageLemmas.{becomes_left}
use Rattle.step_memory.proofs.rooms.Rooms.set.Goals as goal

pub returns-then-place-len-clause-ok : goal.returns-then-place-len-clause-ok
returns-then-place-len-clause-ok c =
    let behind = shown c.self.inside.pages c.self.inside.slots.now in
    on_ok_weaker c.set_in.result
    (λ b. subst (λ rs. BecomesAt (with_number c.args.at c.args.value) c.args.place rs (c.set_in.new.rooms ++ behind)) c.self.view_is
    (becomes_left (with_number c.args.at c.args.value) c.self.inside.first c.set_in.new.rooms behind c.args.place
    (subst (λ z. BecomesAt (with_number c.args.at z) c.args.place c.self.inside.first c.set_in.new.rooms) (to_z-of_z w128 c.args.value c.ranges.value) b)))
    c.set_in.ensures.ok
