use Rattle.std.proofs.Common.{cond, eqb, ap, ◌∙◌}
use Rattle.jump_meaning.specs.Code.{entry_or}
use Rattle.step_tasks.proofs.LabelLemmas.{entry_set}
use Rattle.step_tasks.proofs.table.set_start.Goals as goal

pub returns-clause-starts : goal.returns-clause-starts
returns-clause-starts c l =
    ap (λ xs. entry_or 0 xs l) c.set.ensures
    ∙ entry_set c.make_room.new.starts c.args.label c.args.level l c.in_ok-make_room.ensures.room
    ∙ ap (cond (eqb l c.args.label) c.args.level) (c.in_ok-make_room.ensures.same l)
