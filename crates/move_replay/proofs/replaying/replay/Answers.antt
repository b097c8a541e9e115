use Rattle.std.proofs.lemmas.Result.{IfOk-weaker}
use Rattle.c_tree.specs.Text.{text_of}
use Rattle.c_resolved_laws.specs.Counts.{flat_counts}
use Rattle.c_resolved_laws.proofs.TheLaws.{resolved_laws}
use Rattle.c_text.proofs.Readings.{program_as}
use Rattle.move_replay.proofs.Outcomes.{read_back, restructured, complete, exact}
use Rattle.move_replay.proofs.replaying.replay.Goals as goal

pub returns-clause-complete : goal.returns-clause-complete
returns-clause-complete c = complete c.args.program c.args.report.now c.requires c.replay_report.result c.replay_report.ensures.replayed
    c.replay_report.ensures.refused

pub returns-clause-exact : goal.returns-clause-exact
returns-clause-exact c = exact c.args.program c.args.report.now c.requires c.replay_report.result c.replay_report.ensures.replayed
    c.replay_report.ensures.refused

pub returns-clause-restructured : goal.returns-clause-restructured
returns-clause-restructured c = λ q ms counts w numbers e. restructured c.args.program q c.args.report.now ms counts c.requires w numbers e

pub returns-clause-plain : goal.returns-clause-plain
returns-clause-plain c = IfOk-weaker c.replay_report.result _ _ (λ r h. (read_back c.args.program c.args.report.now r.0 r.1 c.requires h).plain)
    c.replay_report.ensures.replayed

pub returns-clause-ranged : goal.returns-clause-ranged
returns-clause-ranged c =
    IfOk-weaker c.replay_report.result _ _ (λ r h. resolved_laws.ranged flat_counts r.0
    (read_back c.args.program c.args.report.now r.0 r.1 c.requires h).resolved) c.replay_report.ensures.replayed

pub returns-clause-behaves : goal.returns-clause-behaves
returns-clause-behaves c = IfOk-weaker c.replay_report.result _ _ (λ r h. (read_back c.args.program c.args.report.now r.0 r.1 c.requires h).runs)
    c.replay_report.ensures.replayed

pub returns-clause-resolved : goal.returns-clause-resolved
returns-clause-resolved c = IfOk-weaker c.replay_report.result _ _ (λ r h. (read_back c.args.program c.args.report.now r.0 r.1 c.requires h).resolved)
    c.replay_report.ensures.replayed

pub returns-clause-reads_back : goal.returns-clause-reads_back
returns-clause-reads_back c =
    IfOk-weaker c.replay_report.result _ _ (λ r h. program_as (text_of r.0) r.0
    (read_back c.args.program c.args.report.now r.0 r.1 c.requires h).reads) c.replay_report.ensures.replayed
