use Rattle.std.proofs.Common.{sym, ◌∙◌}
use Rattle.c_tree.specs.declared.tree.Section.{out-Section}
use Rattle.plain_form.proofs.SectionLaws.{popped, ended_without}
use Rattle.plain_form.proofs.sections.end.Goals as goal

pub returns-then-takes_end : goal.returns-then-takes_end
returns-then-takes_end c =
    let o = out-Section c.args.section.now in
    ended_without o.cases o.default o.list c.pop.new.self o.ends
    (sym c.takes_end.ensures ∙ c.if-takes_end.true) (popped c.pop.result o.list c.pop.new.self c.pop.ensures)
