use Rattle.std.proofs.Common.{◌≡◌, ◌+◌, suc, ℕ, sym, ap, ◌∙◌, subst, arith}
use Rattle.jump_meaning.specs.Code.{code_of}
use Rattle.jump_meaning.specs.Step.{step}
use Rattle.step_interp.specs.Machines.{state_of}
use Rattle.step_interp.specs.declared.runs.After.TheVariants as A
use Rattle.step_interp.specs.Answers.{after}
use Rattle.step_interp.specs.Followed.{Followed, Follows}
use Rattle.step_interp.proofs.RunLemmas.{next_at, answered, spent}
use Rattle.step_interp.proofs.SkipLemmas.{skipped_to, stopped}
use Rattle.step_interp.proofs.runs.run_machine.Goals as goal

one_more : (n : ℕ) → n + 1 ≡ suc n
one_more n = omega arith

pub loop-done-preserved-then-steps-gt0 : goal.loop-done-preserved-then-steps-gt0
loop-done-preserved-then-steps-gt0 g c = record {
  program = ap (λ p. p.now) c.in-Ok.ensures.program ∙ c.loop-done.invariant.program;
  follows = λ r e f.
      skipped_to r c.loop-done.done c.in-Ok.steps c.loop-done.machine c.skip.new.machine (g.O.Sink.written c.loop-done.out) (g.I.Source.rest c.loop-done.input)
      (e ∙ sym (ap code_of c.loop-done.invariant.program)) (c.loop-done.invariant.follows r e f) c.in-Ok.ensures.ok;
  reads = c.loop-done.invariant.reads;
  within = omega (arith, c.in-Ok.ensures.most, c.loop-done-test.true);
  writes = c.loop-done.invariant.writes;
}

pub returns-clause-answers : goal.returns-clause-answers
returns-clause-answers g c r e f =
    let done : c.loop-done.done ≡ c.args.budget = omega (arith, c.loop-done-test.false, c.loop-done.invariant.within) in
    let told = g.O.Sink.written c.loop-done.out in
    let left = g.I.Source.rest c.loop-done.input in
    spent r c.args.budget c.loop-done.machine told left
    (subst (λ k. Follows (after r k) r.told c.loop-done.machine told left) done (c.loop-done.invariant.follows r e f))

pub returns-in_default-clause-answers : goal.returns-in_default-clause-answers
returns-in_default-clause-answers g c r e f =
    stopped r c.loop-done.done c.args.budget c.loop-done.machine (g.O.Sink.written c.loop-done.out) (g.I.Source.rest c.loop-done.input)
    c.loop-done.invariant.within (c.loop-done.invariant.follows r e f)

pub loop-done-preserved : goal.loop-done-preserved
loop-done-preserved g c = record {
  program = ap (λ p. p.now) (c.in-GoesOn.ensures.program ∙ c.in-Ok.ensures.program) ∙ c.loop-done.invariant.program;
  follows = λ r e f.
      let d = c.loop-done.done in
      let none : d + c.in-Ok.steps ≡ d = omega (arith, c.if-steps-gt0.false) in
      let code = e ∙ sym (ap code_of c.loop-done.invariant.program) in
      let h = subst (λ k. Follows (after r k) r.told c.skip.new.machine (g.O.Sink.written c.loop-done.out) (g.I.Source.rest c.loop-done.input)) none
      (skipped_to r d c.in-Ok.steps c.loop-done.machine c.skip.new.machine (g.O.Sink.written c.loop-done.out) (g.I.Source.rest c.loop-done.input) code
      (c.loop-done.invariant.follows r e f) c.in-Ok.ensures.ok) in
      let told = g.O.Sink.written c.step_with.new.out in
      let left = g.I.Source.rest c.step_with.new.input in
      subst (λ k. Follows (after r k) r.told c.step_with.new.machine told left) (sym (one_more d))
      (next_at r d c.skip.new.machine c.step_with.new.machine h.world told left h.same
      (subst (λ P. Follows (step P (state_of c.skip.new.machine h.world)) r.told c.step_with.new.machine told left)
      (ap (λ p. code_of p.now) c.in-Ok.ensures.program ∙ sym code)
      (c.in-GoesOn.ensures.came r.told h.world h.has h.ports)));
  reads = omega (arith, c.loop-done.invariant.reads, c.in-GoesOn.ensures.reads);
  within = omega (arith, c.loop-done-test.true);
  writes = omega (arith, c.loop-done.invariant.writes, c.in-GoesOn.ensures.writes);
}

pub returns-in-Over-clause-answers : goal.returns-in-Over-clause-answers
returns-in-Over-clause-answers g c r e f =
    let d = c.loop-done.done in
    let none : d + c.in-Ok.steps ≡ d = omega (arith, c.if-steps-gt0.false) in
    let code = e ∙ sym (ap code_of c.loop-done.invariant.program) in
    let h = subst (λ k. Follows (after r k) r.told c.skip.new.machine (g.O.Sink.written c.loop-done.out) (g.I.Source.rest c.loop-done.input)) none
    (skipped_to r d c.in-Ok.steps c.loop-done.machine c.skip.new.machine (g.O.Sink.written c.loop-done.out) (g.I.Source.rest c.loop-done.input) code
    (c.loop-done.invariant.follows r e f) c.in-Ok.ensures.ok) in
    let told = g.O.Sink.written c.step_with.new.out in
    let left = g.I.Source.rest c.step_with.new.input in
    answered r d c.args.budget c.skip.new.machine c.step_with.new.machine h.world c.in-Over.answer told left c.loop-done-test.true h.same
    (subst (λ k. Followed r.code r.told k c.skip.new.machine h.world (A.Over c.in-Over.answer) c.step_with.new.machine told left) (one_more d)
    (subst (λ P. Followed P r.told (d + 1) c.skip.new.machine h.world (A.Over c.in-Over.answer) c.step_with.new.machine told left)
    (ap (λ p. code_of p.now) c.in-Ok.ensures.program ∙ sym code)
    (c.in-Over.ensures.came r.told h.world h.has h.ports)))
