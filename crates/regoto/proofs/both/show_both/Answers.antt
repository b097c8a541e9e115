use Rattle.std.proofs.Common.{rules}
use Rattle.std.specs.Int.{w128}
use Rattle.std.proofs.lemmas.Int.{to_z-of_z}
use Rattle.std.proofs.lemmas.Result.{err_from_is_err_and}
use Rattle.regoto.proofs.RunMains.{enters}
use Rattle.move_driver.specs.Text.{output}
use Rattle.regoto.proofs.DemoAlike.{steps_are}
use Rattle.regoto.proofs.BothRuns.{both, result_enters, source_stops, result_stops, both_end}
use Rattle.regoto.proofs.both.show_both.Goals as goal

pub run_alone-requires-clause-steps : goal.run_alone-requires-clause-steps
run_alone-requires-clause-steps c = steps_are

pub run_alone-requires-clause-enters : goal.run_alone-requires-clause-enters
run_alone-requires-clause-enters c = enters c.args.source.now.program c.requires.resolved c.requires.runnable.main

pub returns-in_err-value-clause-stops : goal.returns-in_err-value-clause-stops
returns-in_err-value-clause-stops c =
    let p = err_from_is_err_and c.from_residual-in_err-value.result c.from_residual-in_err-value.ensures.1 in
    rw (p.1, p.2) (source_stops c.args.n c.args.source.now.program c.in_ok-result.result (output c.in_ok-written.written)
    (both c.args.n c.args.text.now c.as_slice.result.now c.args.source.now.program c.in_ok-result.result (output c.in_ok-written.written)
    c.requires.text c.as_slice.ensures.value
    c.requires.reads c.requires.resolved c.requires.runnable c.in_ok-written.ensures.restructured c.in_ok-written.ensures.only c.in_ok-result.ensures)
    c.in_err-value.field-0.0 c.in_err-value.ensures.stop)

pub run_alone-requires-2-clause-steps : goal.run_alone-requires-2-clause-steps
run_alone-requires-2-clause-steps c = steps_are

pub run_alone-requires-2-clause-enters : goal.run_alone-requires-2-clause-enters
run_alone-requires-2-clause-enters c = result_enters c.args.n c.args.source.now.program c.in_ok-result.result (output c.in_ok-written.written)
    (both c.args.n c.args.text.now c.as_slice.result.now c.args.source.now.program c.in_ok-result.result (output c.in_ok-written.written)
    c.requires.text c.as_slice.ensures.value
    c.requires.reads c.requires.resolved c.requires.runnable c.in_ok-written.ensures.restructured c.in_ok-written.ensures.only c.in_ok-result.ensures)

pub returns-in_err-run_alone-clause-stops : goal.returns-in_err-run_alone-clause-stops
returns-in_err-run_alone-clause-stops c =
    let p = err_from_is_err_and c.from_residual-in_err-run_alone.result c.from_residual-in_err-run_alone.ensures.1 in
    rw (p.1, p.2) (result_stops c.args.n c.args.source.now.program c.in_ok-result.result (output c.in_ok-written.written)
    (both c.args.n c.args.text.now c.as_slice.result.now c.args.source.now.program c.in_ok-result.result (output c.in_ok-written.written)
    c.requires.text c.as_slice.ensures.value
    c.requires.reads c.requires.resolved c.requires.runnable c.in_ok-written.ensures.restructured c.in_ok-written.ensures.only c.in_ok-result.ensures)
    c.in_ok-value.field-0 c.in_ok-value.ensures.end c.in_err-run_alone.field-0.0 c.in_err-run_alone.ensures.stop)

pub returns-clause-shown : goal.returns-clause-shown
returns-clause-shown c = both_end c.args.n c.args.source.now.program c.in_ok-result.result (output c.in_ok-written.written)
    (both c.args.n c.args.text.now c.as_slice.result.now c.args.source.now.program c.in_ok-result.result (output c.in_ok-written.written)
    c.requires.text c.as_slice.ensures.value
    c.requires.reads c.requires.resolved c.requires.runnable c.in_ok-written.ensures.restructured c.in_ok-written.ensures.only c.in_ok-result.ensures)
    c.in_ok-value.field-0 c.in_ok-value.ensures.end c.in_ok-run_alone.field-0 _ (to_z-of_z w128 c.in_ok-value.field-0.value (search rules))
    c.in_ok-run_alone.ensures.end
