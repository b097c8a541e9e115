use Rattle.std.proofs.Common.{length, ap, ◌∙◌}
use Rattle.std.proofs.lemmas.Result.{IfOk-weaker}
use Rattle.c_tree.specs.Trees.{trees_of}
use Rattle.c_tree.specs.Numerals.{constant}
use Rattle.flat_laws.specs.Loose.{NoArrival}
use Rattle.flat_laws.specs.Pieces.{Stays}
use Rattle.flat_laws.specs.FlatForm.{Plan, flat, coded, first_here}
use Rattle.flat_form.proofs.PlanLaws.{IsCoded, coded_is}
use Rattle.flat_form.proofs.bodies.coded_items.Goals as goal

pub returns : goal.returns
returns c =
    let f = c.args.function.now in
    let a = trees_of c.args.body.now in
    let n = length f.labels in
    let plan = c.in_ok-plan.plan in
    let e = c.in_ok-plan.ensures in
    let is_coded : IsCoded plan f.slots n a = record { named = e.named; table = e.table; behind = e.behind; count = e.count; slots_are = e.slots } in
    IfOk-weaker c.write_body.result _ _
    (λ _ h. h ∙ ap (λ (p : Plan). flat p (first_here c.len.result) Stays Stays NoArrival a) (coded_is plan f.slots n a is_coded)
    ∙ ap (λ v. flat (coded constant f.slots n a) (first_here v) Stays Stays NoArrival a) c.len.ensures.value)
    c.write_body.ensures
