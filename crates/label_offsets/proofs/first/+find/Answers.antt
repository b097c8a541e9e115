use Rattle.std.proofs.Common.{ap, sym, ◌∙◌}
use Rattle.c_tree.specs.declared.tree.Branch.TheVariants as B
use Rattle.label_offsets.specs.Leaps.{paths_of, paths_from, first, under}
use Rattle.label_offsets.proofs.Firsts.{first_some, paths-If, paths-other, paths-from}
use Rattle.label_offsets.proofs.first.+find.Goals as goal

pub first_of-returns-in-Some : goal.first_of-returns-in-Some
first_of-returns-in-Some t c =
    let s = c.args.sought in
    sym (ap first (ap (λ x. paths_of s x c.args.at) c.in-If.is ∙ paths-If s c.in-If.field-0 c.in-If.a c.in-If.b c.args.at)
    ∙ first_some (under c.args.at B.Then (paths_from s 0 c.in-If.a)) (under c.args.at B.Else (paths_from s 0 c.in-If.b)) c.in-Some.path
    (sym c.in_ok-path-in-If.ensures ∙ c.in-Some.is))

pub first_of-returns-in_default : goal.first_of-returns-in_default
first_of-returns-in_default t c =
    let d = c.in_default in
    c.here.ensures ∙ sym (ap first (paths-other c.args.sought c.args.item.now c.args.at d.not-If d.not-While d.not-Do d.not-For d.not-Block d.not-Switch))

pub first_among-loop-i-init : goal.first_among-loop-i-init
first_among-loop-i-init t c = ap first (paths-from c.args.sought c.args.from c.args.items.now c.requires.none)
