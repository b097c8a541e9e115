use Rattle.tidy_result_laws.proofs.TheLaws.{end_law}
use Rattle.break_recovery.proofs.Chains.{tidied_by}
use Rattle.break_recovery.proofs.program.tidy.Goals as goal

pub returns-clause-tidied : goal.returns-clause-tidied
returns-clause-tidied c = tidied_by c.args.program c.change_tops.new.tops c.new.result c.in_ok-changes.changes c.in_ok-made.made c.requires
    c.in_ok-changes.ensures c.in_ok-made.ensures.value

pub returns-clause-behaves : goal.returns-clause-behaves
returns-clause-behaves c = λ resolved free. end_law.alike c.args.program c.in_ok-changes.changes c.in_ok-made.made resolved free (returns-clause-tidied c)

pub returns-clause-counted : goal.returns-clause-counted
returns-clause-counted c = λ resolved free. end_law.counted c.args.program c.in_ok-changes.changes c.in_ok-made.made resolved free (returns-clause-tidied c)
