use Rattle.std.proofs.Common.{sym, ap, replicate, false, ◌∙◌}
use Rattle.break_recovery.proofs.Numbered.{none_made, made_in}
use Rattle.break_recovery.proofs.functions.change_all.Goals as goal

pub returns-in_ok-items-in-Some : goal.returns-in_ok-items-in-Some
returns-in_ok-items-in-Some c =
    let r = c.in_ok-made-in-Some.made in
    made_in r.0 c.args.function.now r.1 c.in-Some.list c.in_ok-boxes-in-Some.boxes c.change_boxes.new.list c.in_ok-items-in-Some.items
    (sym c.replace.ensures.value ∙ c.in-Some.is)
    c.in_ok-boxes-in-Some.ensures c.in_ok-items-in-Some.ensures c.in_ok-made-in-Some.ensures

pub returns-in_ok-gone-in-None : goal.returns-in_ok-gone-in-None
returns-in_ok-gone-in-None c =
    none_made c.args.function.now c.in_ok-gone-in-None.gone c.in_ok-counts.counts c.replace.new.dest (sym c.replace.ensures.value ∙ c.in-None.is)
    c.replace.ensures.after
    (c.in_ok-gone-in-None.ensures ∙ ap (λ n. replicate n false) c.len.ensures.value) c.in_ok-counts.ensures
