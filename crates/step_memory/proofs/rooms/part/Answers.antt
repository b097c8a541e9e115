use Rattle.std.proofs.Common.{◌*◌, ◌-◌, drop, length, sym, ◌∙◌, arith}
use Rattle.std.proofs.lemmas.List.{length-drop, take_all}
use Rattle.step_memory.proofs.rooms.part.Goals as goal

pub returns-then-slots-from-le-PAGE : goal.returns-then-slots-from-le-PAGE
returns-then-slots-from-le-PAGE c =
    let ss = c.args.slots.now in
    let from = c.args.page * 64 in
    take_all (length ss - from) (drop from ss) (omega (arith, length-drop from ss)) ∙
    sym (take_all 64 (drop from ss) (omega (arith, length-drop from ss, c.if-slots-from-le-PAGE.true)))
