use Rattle.std.proofs.Common.{Some, None, sym, ap, ◌∙◌, subst}
use Rattle.c_types.specs.declared.trap.Trap.{Trap}
use Rattle.rg_ports.specs.Written.{more}
use Rattle.jump_meaning.specs.Code.{code_of}
use Rattle.step_interp.specs.Shown.{bytes_in}
use Rattle.step_interp.specs.Answers.{beginning}
use Rattle.step_interp.specs.Started.{StartsAs}
use Rattle.step_interp.proofs.StartLemmas.{told_nil, start_quiet, stopped_at_start, trapped_at_start}
use Rattle.step_interp.proofs.runs.run_linked.Goals as goal

pub returns-in-Ok-Some-clause-answers : goal.returns-in-Ok-Some-clause-answers
returns-in-Ok-Some-clause-answers g c given e =
    let told = g.O.Sink.written c.args.out.now in
    let x = subst (λ o. StartsAs c.args.program.now c.args.entry.now.function c.as_slice-arguments.result.now o) c.in-Ok-Some.field-0-is
    (c.in-Ok-Some.ensures.ok c.requires) in
    let y = subst (λ xs. StartsAs c.args.program.now c.args.entry.now.function xs (Some c.in-Ok-Some.machine)) c.as_slice-arguments.ensures.value x in
    let s = y.1 given in
    c.run_machine.ensures.answers (beginning c.args.program.now c.args.entry.now given told) (ap code_of (sym y.0)) (record {
      world = s.world;
      same = s.same;
      has = s.has;
      ports = record {
        output = told_nil told (g.met.O.Sink.counts c.args.out.now) ∙ ap (more told) (sym (ap bytes_in s.events));
        input = e ∙ ap Some (sym s.input);
      };
    })

pub returns-in-Ok-None-clause-answers : goal.returns-in-Ok-None-clause-answers
returns-in-Ok-None-clause-answers g c given e =
    let x = subst (λ o. StartsAs c.args.program.now c.args.entry.now.function c.as_slice-arguments.result.now o) c.in-Ok-None.field-0-is
    (c.in-Ok-None.ensures.ok c.requires) in
    let y = subst (λ xs. StartsAs c.args.program.now c.args.entry.now.function xs None) c.as_slice-arguments.ensures.value x in
    trapped_at_start (beginning c.args.program.now c.args.entry.now given (g.O.Sink.written c.args.out.now)) c.args.budget Trap.Cells
    (g.I.Source.rest c.args.input.now) (g.met.O.Sink.counts c.args.out.now) e (y given)

pub returns-in-Err-clause-answers : goal.returns-in-Err-clause-answers
returns-in-Err-clause-answers g c given e = (
  0,
  stopped_at_start (beginning c.args.program.now c.args.entry.now given (g.O.Sink.written c.args.out.now)) c.args.budget
      (g.I.Source.rest c.args.input.now) (g.met.O.Sink.counts c.args.out.now) e
      (start_quiet (code_of c.args.program.now) c.args.entry.now.function c.args.entry.now.arguments given),
)
