use Rattle.std.proofs.Common.{slice_set, ap, ◌∙◌}
use Rattle.std.proofs.lemmas.Result.{on_err_weaker}
use Rattle.c_tree.proofs.PathLemmas.{set_same}
use Rattle.step_memory.proofs.room.set_in.Goals as goal

pub returns-clause-err : goal.returns-clause-err
returns-clause-err c =
    on_err_weaker c.set.result (λ e. ap (slice_set c.args.rooms.now c.args.place) e ∙
    set_same c.args.rooms.now c.args.place c.at_mut.result.now c.at_mut.ensures.value) c.set.ensures.unchanged
