use Rattle.std.proofs.Common.{ap, ◌∙◌, subst, slice_set, arith}
use Rattle.std.specs.Int.{w128}
use Rattle.std.proofs.lemmas.Int.{to_z-of_z}
use Rattle.c_types.specs.Numbers.{converted}
use Rattle.step_memory.specs.Rooms.{AreCells}
use Rattle.step_memory.proofs.RoomLemmas.{stored_cells}
use Rattle.step_memory.proofs.room.Room.set.Goals as goal

pub returns-else-at-len-clause-ok : goal.returns-else-at-len-clause-ok
returns-else-at-len-clause-ok c ns v h =
    stored_cells ns c.args.self.now.kind c.in-Array.cells c.args.at c.args.value c.put.new.cells v
    (omega (arith, c.if-at-len.false, c.len.ensures.value))
    (c.put.ensures ∙ ap (slice_set c.in-Array.cells c.args.at)
    (to_z-of_z w128 c.convert-value.result (record { sfits = c.convert-value.type_inv }) ∙ c.convert-value.ensures.value ∙
    ap (converted c.args.self.now.kind) (to_z-of_z w128 c.args.value c.ranges.value)))
    (subst (λ x. AreCells ns c.args.self.now.kind x v) c.in-Array.is h)
