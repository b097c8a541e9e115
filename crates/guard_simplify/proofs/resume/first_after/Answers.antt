use Rattle.std.proofs.Common.{ℕ, ◌+◌, Bool, drop, sym, ap, ◌∙◌}
use Rattle.std.proofs.lemmas.Result.{IfOk-weaker}
use Rattle.c_tree.specs.Trees.{trees_of}
use Rattle.guard_simplify.specs.Choice.{has, choices_from, first}
use Rattle.guard_simplify.specs.Later.{behind}
use Rattle.guard_simplify.proofs.ViewLaws.{first_some, first_none}
use Rattle.guard_simplify.proofs.resume.first_after.Goals as goal

pub returns-in-Some : goal.returns-in-Some
returns-in-Some c =
    let s = c.args.step.now in
    sym (first_some (behind (λ l. has l c.args.barred.now) s.item s.branch c.args.item.now)
    (choices_from (λ l. has l c.args.barred.now) (s.item + 1) (trees_of (drop (s.item + 1) c.args.list.now))) c.in-Some.choice
    (sym c.in_ok-choice.ensures ∙ c.in-Some.is))

pub returns-in-None : goal.returns-in-None
returns-in-None c =
    let s = c.args.step.now in
    let bar : ℕ → Bool = λ l. has l c.args.barred.now in
    IfOk-weaker c.first_among.result _ _ (λ r e. e ∙ ap (λ z. first (choices_from bar (s.item + 1) (trees_of (drop (s.item + 1) z)))) c.as_slice.ensures.value
    ∙ sym (first_none (behind bar s.item s.branch c.args.item.now) (choices_from bar (s.item + 1) (trees_of (drop (s.item + 1) c.args.list.now)))
    (sym c.in_ok-choice.ensures ∙ c.in-None.is))) c.first_among.ensures
