use Rattle.step_tasks.proofs.table.+restore.Given as goal

abbrev pub decreases-restore : goal.decreases-restore
decreases-restore l = l.level
