use Rattle.std.proofs.Common.{sym, ap, ◌∙◌}
use Rattle.c_tree.specs.Exits.{breaks}
use Rattle.c_tree.specs.Trees.{trees_of}
use Rattle.flat_laws.specs.Parts.{is_some_number, section_list, trimmed}
use Rattle.flat_questions.specs.Reading.{is_flagged, ending_as}
use Rattle.flat_questions.proofs.LastBreaks.{one_break_more, two_or_one}
use Rattle.flat_questions.proofs.endings.section_keeps_break.Goals as goal

pub returns-in-Breaks : goal.returns-in-Breaks
returns-in-Breaks c =
    let live = is_flagged c.args.named.now in
    let a = trees_of c.args.list.now in
    let h = sym c.ends_by.ensures ∙ ap ending_as c.in-Breaks.is in
    two_or_one c.count_breaks.result (breaks a) (breaks (trimmed live a)) c.count_breaks.ensures (one_break_more live a h) ∙
    sym (ap (λ e. is_some_number (breaks (section_list live a e))) h)
