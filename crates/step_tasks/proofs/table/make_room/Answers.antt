use Rattle.std.proofs.Common.{◌∷◌, [], ◌+◌, length, ap, ◌∙◌}
use Rattle.std.proofs.lemmas.List.{length-append}
use Rattle.jump_meaning.specs.Code.{entry_or}
use Rattle.step_tasks.proofs.LabelLemmas.{zero_more}
use Rattle.step_tasks.proofs.table.make_room.Goals as goal

pub loop-preserved : goal.loop-preserved
loop-preserved c = record {
  room = ap length c.in_ok-push.ensures.ok ∙ length-append c.loop.starts (0 ∷ []) ∙ ap (λ n. n + 1) c.loop.invariant.room;
  same = λ m. ap (λ xs. entry_or 0 xs m) c.in_ok-push.ensures.ok ∙ zero_more c.loop.starts m ∙ c.loop.invariant.same m;
}
