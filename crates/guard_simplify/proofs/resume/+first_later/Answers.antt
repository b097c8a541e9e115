use Rattle.std.proofs.Common.{ℕ, Bool, get_or, option_map, sym, ap, ◌∙◌}
use Rattle.std.proofs.lemmas.Result.{IfOk-weaker}
use Rattle.c_tree.specs.declared.tree.Branch.TheVariants as B
use Rattle.c_tree.specs.declared.tree.Step.{Step}
use Rattle.guard_simplify.specs.Choice.{has, under_one, first}
use Rattle.guard_simplify.specs.Later.{after, else_first}
use Rattle.guard_simplify.proofs.Resumed.{stepped_from}
use Rattle.guard_simplify.proofs.resume.+first_later.Goals as goal

pub returns-in_ok-found-in-len1-up : goal.returns-in_ok-found-in-len1-up
returns-in_ok-found-in-len1-up t c =
    let bar : ℕ → Bool = λ l. has l c.args.barred.now in
    let d : Step = record { item = 0; branch = B.Body } in
    let s = get_or c.args.steps.now 0 d in
    let x = c.in-Some.item.now in
    let a = c.in-Some-child.inner.now in
    let xs = c.args.list.now in
    IfOk-weaker c.first_found.result _ _ (λ r e. e ∙ ap (λ o. else_first (option_map (under_one s.item s.branch) o) (first (after bar xs x s)))
    c.in_ok-found-in-len1-up.ensures
    ∙ stepped_from bar xs c.args.steps.now d c.args.place x a c.in-len1-up.len_at_least (sym c.in-Some.ensures.value) (sym c.in-Some-child.ensures))
    c.first_found.ensures
