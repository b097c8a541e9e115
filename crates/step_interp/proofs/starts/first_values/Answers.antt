use Rattle.std.proofs.Common.{◌-◌, ◌≡◌, pos, length, map, drop, refl, sym, ap, ◌∙◌, arith}
use Rattle.jump_meaning.specs.Values.{Integer}
use Rattle.step_memory.specs.Values.{values_of}
use Rattle.step_interp.proofs.StartLemmas.{one_argument, all_arguments, no_argument}
use Rattle.step_interp.proofs.starts.first_values.Goals as goal

pub loop-at-init : goal.loop-at-init
loop-at-init c ns = ap (values_of ns) c.new-values.ensures ∙ sym (no_argument c.args.arguments.now (length c.args.arguments.now) refl)

pub loop-at-preserved : goal.loop-at-preserved
loop-at-preserved c ns =
    let xs = c.args.arguments.now in
    c.in_ok-leave_argument.ensures ns ∙ one_argument xs (length xs) c.loop-at.at (pos 0) (values_of ns c.loop-at.values) refl c.loop-at-test.true
    (c.loop-at.invariant ns)

pub returns : goal.returns
returns c ns =
    let done : c.loop-at.at ≡ length c.args.arguments.now = omega (arith, c.loop-at-test.false, c.loop-at.auto.at-end) in
    c.loop-at.invariant ns ∙ ap (λ k. map Integer (drop (length c.args.arguments.now - k) c.args.arguments.now)) done ∙
    all_arguments c.args.arguments.now (length c.args.arguments.now)
