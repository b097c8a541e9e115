use Rattle.std.proofs.Common.{refl, ap, ◌∙◌, Err}
use Rattle.std.proofs.lemmas.Result.{IfOk-weaker}
use Rattle.c_tree.specs.declared.tree.Program.{Program}
use Rattle.plain_form.specs.Plain.{plain}
use Rattle.move_replay.proofs.Starts.{start_made}
use Rattle.move_replay.proofs.Outcomes.{accepted, stopped, too_deep, err_same}
use Rattle.move_replay.proofs.replaying.replay_read_moves.Goals as goal

pub make_all-requires : goal.make_all-requires
make_all-requires c = start_made c.args.program c.flatten_and_convert.new.program.tops c.requires.resolved c.in_ok-names.ensures.start

pub returns-in-Ok-clause-replayed : goal.returns-in-Ok-clause-replayed
returns-in-Ok-clause-replayed c =
    let q : Program = record { tops = c.make_all.new.tops } in
    IfOk-weaker c.plain_within_limits.result _ _
    (λ r h. accepted c.args.program q r.0 c.args.report.now c.flatten_and_convert.new.program.tops c.in_ok-names.names c.args.moves.now r.1
    c.requires.resolved c.in_ok-names.ensures.names c.requires.report c.in_ok-names.ensures.start c.in-Ok.ensures.moved c.in-Ok.ensures.leapless
    h.result h.within h.counted)
    c.plain_within_limits.ensures.ok

pub returns-in-Ok-clause-refused : goal.returns-in-Ok-clause-refused
returns-in-Ok-clause-refused c =
    let q : Program = record { tops = c.make_all.new.tops } in
    λ refusal e.
    too_deep c.args.program q (plain c.in_ok-names.names q) c.args.report.now c.flatten_and_convert.new.program.tops c.in_ok-names.names
    c.args.moves.now refusal c.in_ok-names.ensures.names c.requires.report c.in_ok-names.ensures.start c.in-Ok.ensures.moved c.in-Ok.ensures.leapless refl
    (c.plain_within_limits.ensures.deep refusal e) (c.plain_within_limits.ensures.refused refusal e)

pub returns-in-Err-clause-refused : goal.returns-in-Err-clause-refused
returns-in-Err-clause-refused c = λ refusal e.
    stopped c.args.program c.args.report.now c.flatten_and_convert.new.program.tops c.args.moves.now refusal c.requires.report
    c.in_ok-names.ensures.start (c.make_all.ensures.refused refusal (c.in-Err.is ∙ ap Err (err_same _ _ _ e)))
