use Rattle.std.proofs.Common.{ap, ◌∙◌}
use Rattle.c_tree.specs.Trees.{trees_of, join}
use Rattle.flat_laws.specs.Pieces.{Stays}
use Rattle.flat_laws.specs.FlatForm.{first_here}
use Rattle.flat_items.specs.Plans.{arrivals_if}
use Rattle.lower_laws.specs.Lowered.{lowered}
use Rattle.lower_items.specs.Plans.{layout_of, arrivals_of, case_names}
use Rattle.lower_items.proofs.walk.lower_list.Goals as goal

pub returns-clause-items : goal.returns-clause-items
returns-clause-items c =
    let p = layout_of c.args.plan.now in
    let h = first_here c.args.variables in
    let body = trees_of c.args.body in
    let none = c.no_cases-none.result in
    let y = lowered p h Stays Stays (arrivals_of none) body in
    c.in_ok-items.ensures ∙ c.in_ok-after.ensures.items ∙ ap (λ z. join z y) c.nothing-out.ensures
    ∙ ap (λ z. lowered p h Stays Stays (arrivals_if z (case_names none)) body) c.no_cases-none.ensures
