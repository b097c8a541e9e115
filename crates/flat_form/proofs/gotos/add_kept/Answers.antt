use Rattle.std.proofs.Common.{◌≡◌, ◌+◌, ◌-◌, OnOk, sym, ap, subst, ◌∙◌, arith}
use Rattle.c_tree.specs.Exits.{breaks}
use Rattle.c_tree.specs.Trees.{trees_of}
use Rattle.flat_laws.specs.Parts.{section_list, ending}
use Rattle.flat_questions.specs.Reading.{is_flagged, ending_as}
use Rattle.flat_questions.proofs.LastBreaks.{one_break_more}
use Rattle.flat_form.proofs.gotos.add_kept.Goals as goal

pub overflow_sub-all : goal.overflow_sub-all
overflow_sub-all c =
    let m = one_break_more (is_flagged c.args.named.now) (trees_of c.args.list.now) (sym c.ends_by.ensures ∙ ap ending_as c.in-Breaks.is) in
    let n = c.in_ok-add_breaks.ensures in
    omega arith

pub returns-in-Breaks : goal.returns-in-Breaks
returns-in-Breaks c =
    let live = is_flagged c.args.named.now in
    let a = trees_of c.args.list.now in
    let h = sym c.ends_by.ensures ∙ ap ending_as c.in-Breaks.is in
    let m = one_break_more live a h in
    let n = c.in_ok-add_breaks.ensures in
    let k = ap (λ e. breaks (section_list live a e)) h in
    let less : c.add_breaks.new.count - 1 ≡ breaks (section_list live a (ending live a)) = omega (arith, m, n, k) in
    subst (λ z. OnOk c.add.result (c.add.new.count ≡ c.args.count.now + z)) less c.add.ensures
