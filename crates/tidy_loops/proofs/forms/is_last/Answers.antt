use Rattle.std.proofs.Common.{◌≡◌, ◌+◌, length, ◌∙◌, arith}
use Rattle.tidy_loops.proofs.FormLaws.{end_none, end_one, end_more}
use Rattle.tidy_loops.proofs.forms.is_last.Goals as goal

pub returns-then-at-items : goal.returns-then-at-items
returns-then-at-items c = end_none c.args.slot c.args.at c.args.items.now (omega (arith, c.if-at-items.true))

pub returns-then-at-items-2 : goal.returns-then-at-items-2
returns-then-at-items-2 c = c.is_check.ensures ∙ end_one c.args.slot c.args.at c.args.items.now c.index-items-at.result
    (omega (arith, c.if-at-items-2.true)) c.index-items-at.is

pub returns-else-at-items-2 : goal.returns-else-at-items-2
returns-else-at-items-2 c =
    let p : c.args.at + 1 ≡ length c.args.items.now → ⊥ = λ e. omega (arith, e, c.if-at-items.false) in
    let q : c.args.at + 2 ≡ length c.args.items.now → ⊥ = λ e. omega (arith, e, c.if-at-items-2.false) in
    grind (arith, c.if-at-items-2.false, end_more c.args.slot c.args.at c.args.items.now c.requires p q)
