use Rattle.std.proofs.Common.{◌≡◌, true, false, arith, sym, ap, ◌∙◌}
use Rattle.tidy_loops.specs.Views.{is_it}
use Rattle.tidy_loops.proofs.FormLaws.{check_alone, check_beside}
use Rattle.tidy_loops.proofs.forms.checks.Goals as goal

pub returns-then-is_empty : goal.returns-then-is_empty
returns-then-is_empty c =
    c.is_it.ensures ∙ ap (is_it c.args.slot) c.off_slot.ensures ∙ sym
    (check_alone c.args.slot c.args.test.now c.in-Source.e c.args.other.now c.in-Source.is (c.is_empty.ensures.0 c.if-is_empty.true))

pub returns-else-is_empty : goal.returns-else-is_empty
returns-else-is_empty c =
    let no : true ≡ false → ⊥ = λ e. absurd (grind (arith, e)) in
    c.if-is_empty.false ∙ sym (check_beside c.args.slot c.args.test.now c.in-Source.e c.args.other.now c.in-Source.is
    (λ e. no (sym (c.is_empty.ensures.1 e) ∙ c.if-is_empty.false)))
