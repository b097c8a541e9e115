use Rattle.std.proofs.Common.{◌-◌, sym, ap, ◌∙◌}
use Rattle.tidy_slots.proofs.NumberLaws.{entry_there, entry_past}
use Rattle.tidy_slots.proofs.numbers.new_number.Goals as goal

pub returns-in-Some : goal.returns-in-Some
returns-in-Some c =
    let n = c.args.numbers.now in
    c.saturating_sub.ensures ∙ ap (λ m. c.args.at - m) (sym (entry_there n.before c.args.at c.in-Some.n.now n.total c.in-Some.ensures.value))

pub returns-in-None : goal.returns-in-None
returns-in-None c =
    let n = c.args.numbers.now in
    c.saturating_sub-in-None.ensures ∙ ap (λ m. c.args.at - m) (sym (entry_past n.before c.args.at n.total c.in-None.ensures.value))
