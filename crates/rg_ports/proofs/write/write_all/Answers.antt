use Rattle.std.proofs.Common.{◌≡◌, ◌-◌, length, take, drop, arith, ap, ◌∙◌, length-drop}
use Rattle.std.proofs.lemmas.List.{take_rest}
use Rattle.rg_ports.specs.Written.{more}
use Rattle.rg_ports.proofs.WrittenLemmas.{more-fronts}
use Rattle.rg_ports.proofs.write.write_all.Goals as goal

pub loop-at-preserved : goal.loop-at-preserved
loop-at-preserved g c =
    let piece : take (length c.args.bytes.now - c.loop-at.at) (drop c.loop-at.at c.args.bytes.now) ≡ drop c.loop-at.at c.args.bytes.now =
    take_rest c.args.bytes.now c.loop-at.at in
    record {
      within = omega (arith, c.in_ok-at.ensures.within, ap length piece, length-drop c.loop-at.at c.args.bytes.now);
      written = c.in_ok-at.ensures.ok
          ∙ ap (λ p. more (g.O.Sink.written c.loop-at.out) (take c.in_ok-at.field-0 p)) piece
          ∙ ap (λ w. more w (take c.in_ok-at.field-0 (drop c.loop-at.at c.args.bytes.now))) c.loop-at.invariant.written
          ∙ more-fronts _ c.args.bytes.now c.loop-at.at c.in_ok-at.field-0;
      grows = omega (arith, c.write.ensures.grows);
    }
