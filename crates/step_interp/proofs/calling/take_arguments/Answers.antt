use Rattle.std.proofs.Common.{◌-◌, ◌+◌, ◌≡◌, sym, ap, ◌∙◌, arith}
use Rattle.jump_meaning.specs.Calls.{last_values, without_last}
use Rattle.step_memory.specs.Values.{value_of, values_of}
use Rattle.step_interp.proofs.InvokeLemmas.{none_left, none_without, one_taken, one_without, all_taken, all_without}
use Rattle.step_interp.proofs.calling.take_arguments.Goals as goal

pub returns-in-None-clause-taken : goal.returns-in-None-clause-taken
returns-in-None-clause-taken c ns =
    sym (none_left (c.args.count - c.loop-at._at) (values_of ns c.loop-at.arguments))
    ∙ ap (λ v. last_values (c.args.count - c.loop-at._at) (values_of ns c.loop-at.arguments) (values_of ns v)) (sym c.in-None.ensures.0)
    ∙ c.loop-at.invariant.taken ns

pub returns-in-None-clause-left : goal.returns-in-None-clause-left
returns-in-None-clause-left c ns =
    ap (values_of ns) c.in-None.ensures.1
    ∙ sym (none_without (c.args.count - c.loop-at._at))
    ∙ ap (λ v. without_last (c.args.count - c.loop-at._at) (values_of ns v)) (sym c.in-None.ensures.0)
    ∙ c.loop-at.invariant.left ns

pub loop-at-preserved : goal.loop-at-preserved
loop-at-preserved c = record {
  taken = λ ns.
      ap (λ a. last_values (c.args.count - (c.loop-at._at + 1)) (values_of ns a) (values_of ns c.pop.new.self)) c.in_ok-push-in-Some.ensures.ok
      ∙ sym (one_taken c.args.count c.loop-at._at (values_of ns c.loop-at.arguments) (value_of ns c.in-Some.value) (values_of ns c.pop.new.self)
      c.loop-at-test.true)
      ∙ ap (λ v. last_values (c.args.count - c.loop-at._at) (values_of ns c.loop-at.arguments) (values_of ns v)) (sym c.in-Some.ensures)
      ∙ c.loop-at.invariant.taken ns;
  left = λ ns.
      sym (one_without c.args.count c.loop-at._at (value_of ns c.in-Some.value) (values_of ns c.pop.new.self) c.loop-at-test.true)
      ∙ ap (λ v. without_last (c.args.count - c.loop-at._at) (values_of ns v)) (sym c.in-Some.ensures)
      ∙ c.loop-at.invariant.left ns;
}

pub loop-at-init : goal.loop-at-init
loop-at-init c =
    let whole : c.args.count - 0 ≡ c.args.count = omega arith in
    record {
      taken = λ ns.
          ap (λ k. last_values k (values_of ns c.clear_values.new.values) (values_of ns c.args.values.now)) whole
          ∙ ap (λ a. last_values c.args.count (values_of ns a) (values_of ns c.args.values.now)) c.clear_values.ensures;
      left = λ ns. ap (λ k. without_last k (values_of ns c.args.values.now)) whole;
    }

pub returns-clause-taken : goal.returns-clause-taken
returns-clause-taken c ns =
    let done : c.args.count ≡ c.loop-at._at = omega (arith, c.loop-at-test.false, c.loop-at.auto._at-end) in
    sym (all_taken c.args.count (values_of ns c.loop-at.arguments) (values_of ns c.loop-at.values))
    ∙ ap (λ k. last_values (c.args.count - k) (values_of ns c.loop-at.arguments) (values_of ns c.loop-at.values)) done
    ∙ c.loop-at.invariant.taken ns

pub returns-clause-left : goal.returns-clause-left
returns-clause-left c ns =
    let done : c.args.count ≡ c.loop-at._at = omega (arith, c.loop-at-test.false, c.loop-at.auto._at-end) in
    sym (all_without c.args.count (values_of ns c.loop-at.values))
    ∙ ap (λ k. without_last (c.args.count - k) (values_of ns c.loop-at.values)) done
    ∙ c.loop-at.invariant.left ns
