use Rattle.std.proofs.Common.{inl, inr, sym, ap, ◌∙◌, refl, subst}
use Rattle.std.specs.Int.{w128}
use Rattle.std.proofs.lemmas.Int.{to_z-of_z}
use Rattle.rg_ports.specs.Written.{more, FrontWritten}
use Rattle.jump_meaning.specs.Code.{code_of}
use Rattle.jump_meaning.specs.Step.{step, HasEnded}
use Rattle.step_interp.specs.Machines.{IsGiven, state_of}
use Rattle.step_interp.specs.Calls.{QuietlyReaches}
use Rattle.step_interp.specs.Steps.{IsReading}
use Rattle.step_interp.specs.Followed.{IsLast}
use Rattle.step_interp.proofs.StepLemmas.{went, wrote_byte, wrote_bytes, front_of_byte, front_of_bytes, read_on, read_then, ended, trapped}
use Rattle.step_interp.proofs.runs.step_with.Goals as goal

pub returns-in-Err-clause-came : goal.returns-in-Err-clause-came
returns-in-Err-clause-came g c told w h k =
    inl k

pub returns-in-Ok-Goes-clause-came : goal.returns-in-Ok-Goes-clause-came
returns-in-Ok-Goes-clause-came g c told w h k =
    let old = c.args.machine.now in
    let P = code_of old.program.now in
    let s = state_of old w in
    let x = subst (λ n. QuietlyReaches (IsReading P s) (step P s) w n c.step.new.machine) c.in-Ok-Goes.field-0-is (c.in-Ok-Goes.ensures.ok w h) in
    went (IsReading P s) (step P s) told w c.step.new.machine (g.O.Sink.written c.args.out.now) (g.I.Source.rest c.args.input.now) x k

pub returns-in-Ok-give-clause-came : goal.returns-in-Ok-give-clause-came
returns-in-Ok-give-clause-came g c told w h k =
    let old = c.args.machine.now in
    let P = code_of old.program.now in
    let s = state_of old w in
    let x = subst (λ n. QuietlyReaches (IsReading P s) (step P s) w n c.step.new.machine) c.in-Ok-Reads.field-0-is (c.in-Ok-Reads.ensures.ok w h) in
    read_on (IsReading P s) (step P s) told w c.step.new.machine c.give.new.self c.in-Ok.number (g.O.Sink.written c.args.out.now)
    (g.I.Source.rest c.args.input.now) (g.I.Source.rest c.read_byte.new.input) x c.in-Ok.ensures.ok
    (subst (λ z. IsGiven z c.step.new.machine c.give.new.self) (to_z-of_z w128 c.in-Ok.number c.in-Ok.ensures.fits) c.in-Ok-give.ensures.ok) k

pub returns-in-Ok-clause-came : goal.returns-in-Ok-clause-came
returns-in-Ok-clause-came g c told w h k =
    let old = c.args.machine.now in
    let P = code_of old.program.now in
    let s = state_of old w in
    let x = subst (λ n. QuietlyReaches (IsReading P s) (step P s) w n c.step.new.machine) c.in-Ok-Reads.field-0-is (c.in-Ok-Reads.ensures.ok w h) in
    inr (read_then (IsReading P s) (step P s) told w c.step.new.machine c.in-Ok.number (g.O.Sink.written c.args.out.now)
    (g.I.Source.rest c.args.input.now) (g.I.Source.rest c.read_byte.new.input) x c.in-Ok.ensures.ok k)

pub returns-in-Ok-Reads-clause-came : goal.returns-in-Ok-Reads-clause-came
returns-in-Ok-Reads-clause-came g c told w h k =
    let old = c.args.machine.now in
    let P = code_of old.program.now in
    let s = state_of old w in
    let x = subst (λ n. QuietlyReaches (IsReading P s) (step P s) w n c.step.new.machine) c.in-Ok-Reads.field-0-is (c.in-Ok-Reads.ensures.ok w h) in
    (x.reaches.0, record { output = k.output; input = c.in-Err-read_byte.ensures.err ∙ k.input })

pub returns-in-Ok-write_all-clause-came : goal.returns-in-Ok-write_all-clause-came
returns-in-Ok-write_all-clause-came g c told w h k =
    let old = c.args.machine.now in
    let P = code_of old.program.now in
    let s = state_of old w in
    let x = subst (λ n. QuietlyReaches (IsReading P s) (step P s) w n c.step.new.machine) c.in-Ok-Writes.field-0-is (c.in-Ok-Writes.ensures.ok w h) in
    wrote_byte (IsReading P s) (step P s) told w c.step.new.machine c.in-Ok-Writes.byte (g.O.Sink.written c.args.out.now)
    (g.O.Sink.written c.write_all.new.out) (g.I.Source.rest c.args.input.now) x k c.in-Ok-write_all.ensures.ok

pub returns-in-Ok-Writes-clause-came : goal.returns-in-Ok-Writes-clause-came
returns-in-Ok-Writes-clause-came g c told w h k =
    let old = c.args.machine.now in
    let P = code_of old.program.now in
    let s = state_of old w in
    let x = subst (λ n. QuietlyReaches (IsReading P s) (step P s) w n c.step.new.machine) c.in-Ok-Writes.field-0-is (c.in-Ok-Writes.ensures.ok w h) in
    front_of_byte (IsReading P s) (step P s) told w c.step.new.machine c.in-Ok-Writes.byte (g.O.Sink.written c.args.out.now)
    (g.O.Sink.written c.write_all.new.out) (g.I.Source.rest c.args.input.now) x k c.in-Err-write_all.ensures.err

pub returns-in-Ok-write_all-2-clause-came : goal.returns-in-Ok-write_all-2-clause-came
returns-in-Ok-write_all-2-clause-came g c told w h k =
    let old = c.args.machine.now in
    let P = code_of old.program.now in
    let s = state_of old w in
    let x = subst (λ n. QuietlyReaches (IsReading P s) (step P s) w n c.step.new.machine) c.in-Ok-Prints.field-0-is (c.in-Ok-Prints.ensures.ok w h) in
    wrote_bytes (IsReading P s) (step P s) told w c.step.new.machine c.in-Ok-Prints.text (g.O.Sink.written c.args.out.now)
    (g.O.Sink.written c.write_all-in-Ok-Prints.new.out) (g.I.Source.rest c.args.input.now) x k
    (c.in-Ok-write_all-2.ensures.ok ∙ ap (more (g.O.Sink.written c.args.out.now)) c.as_slice.ensures.value)

pub returns-in-Ok-Prints-clause-came : goal.returns-in-Ok-Prints-clause-came
returns-in-Ok-Prints-clause-came g c told w h k =
    let old = c.args.machine.now in
    let P = code_of old.program.now in
    let s = state_of old w in
    let x = subst (λ n. QuietlyReaches (IsReading P s) (step P s) w n c.step.new.machine) c.in-Ok-Prints.field-0-is (c.in-Ok-Prints.ensures.ok w h) in
    front_of_bytes (IsReading P s) (step P s) told w c.step.new.machine c.in-Ok-Prints.text (g.O.Sink.written c.args.out.now)
    (g.O.Sink.written c.write_all-in-Ok-Prints.new.out) (g.I.Source.rest c.args.input.now) x k
    (subst (FrontWritten (g.O.Sink.written c.args.out.now) (g.O.Sink.written c.write_all-in-Ok-Prints.new.out)) c.as_slice.ensures.value
    c.in-Err-write_all-2.ensures.err)

pub returns-in-Ok-Ends-clause-came : goal.returns-in-Ok-Ends-clause-came
returns-in-Ok-Ends-clause-came g c told w h k =
    let old = c.args.machine.now in
    let P = code_of old.program.now in
    let s = state_of old w in
    let x = subst (λ n. QuietlyReaches (IsReading P s) (step P s) w n c.step.new.machine) c.in-Ok-Ends.field-0-is (c.in-Ok-Ends.ensures.ok w h) in (
      refl,
      subst (λ z. IsLast (step P s) (HasEnded z) told w (g.O.Sink.written c.args.out.now) (g.I.Source.rest c.args.input.now))
          (sym (to_z-of_z w128 c.in-Ok-Ends.number x.reaches.1))
          (ended (IsReading P s) (step P s) told w c.step.new.machine c.in-Ok-Ends.number (g.O.Sink.written c.args.out.now)
          (g.I.Source.rest c.args.input.now) x k),
    )

pub returns-clause-came : goal.returns-clause-came
returns-clause-came g c told w h k =
    let old = c.args.machine.now in
    let P = code_of old.program.now in
    let s = state_of old w in
    let x = subst (λ n. QuietlyReaches (IsReading P s) (step P s) w n c.step.new.machine) c.in-Ok-Traps.field-0-is (c.in-Ok-Traps.ensures.ok w h) in (
      refl,
      trapped (IsReading P s) (step P s) told w c.step.new.machine c.in-Ok-Traps.trap (g.O.Sink.written c.args.out.now)
          (g.I.Source.rest c.args.input.now) x k,
    )
