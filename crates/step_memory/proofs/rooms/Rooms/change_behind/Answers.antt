use Rattle.std.proofs.Common.{◌++◌, ◌-◌, subst, arith}
use Rattle.std.proofs.lemmas.Result.{on_ok_weaker}
use Rattle.step_memory.specs.Changes.{changed}
use Rattle.step_memory.specs.Rooms.{BecomesAt}
use Rattle.step_memory.specs.Pages.{shown}
use Rattle.step_memory.proofs.PageLemmas.{becomes_right}
use Rattle.step_memory.proofs.rooms.Rooms.change_behind.Goals as goal

pub returns-clause-ok : goal.returns-clause-ok
returns-clause-ok c =
    let first = c.self.inside.first in
    let ss = c.self.inside.slots.now in
    on_ok_weaker c.change_in_pages.result
    (λ b. subst (λ rs. BecomesAt (changed c.args.change) c.args.place rs (first ++ shown c.change_in_pages.new.pages ss)) c.self.view_is
    (becomes_right (changed c.args.change) first (shown c.self.inside.pages ss) (shown c.change_in_pages.new.pages ss) c.args.place
    (c.args.place - c.len-count.result) (omega (arith, c.len-count.ensures.value, c.if-place-count.false)) b))
    c.change_in_pages.ensures.ok
