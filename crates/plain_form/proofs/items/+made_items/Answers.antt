use Rattle.std.proofs.Common.{arith}
use Rattle.plain_form.specs.Made.{made_item, made_section}
use Rattle.plain_form.proofs.InPlace.{mapped}
use Rattle.plain_form.proofs.items.+made_items.Goals as goal

pub make_items-returns-clause-made : goal.make_items-returns-clause-made
make_items-returns-clause-made t c =
    let d = c.loop-i.invariant.1 in
    let end = c.loop-i-test.false in
    mapped (made_item c.args.guards.now) c.args.items.now c.loop-i.items d.0 (λ k x l. d.1 k x (omega (arith, l, end, d.0)))

pub make_sections-returns-clause-made : goal.make_sections-returns-clause-made
make_sections-returns-clause-made t c =
    let d = c.loop-i.invariant.1 in
    let end = c.loop-i-test.false in
    mapped (made_section c.args.guards.now) c.args.items.now c.loop-i.items d.0 (λ k x l. d.1 k x (omega (arith, l, end, d.0)))
