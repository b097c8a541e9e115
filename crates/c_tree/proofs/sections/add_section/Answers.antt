use Rattle.std.proofs.Common.{sym, ◌∙◌}
use Rattle.std.proofs.lemmas.Result.{on_ok_weaker}
use Rattle.c_tree.proofs.SectionLaws.{added_to, added_behind}
use Rattle.c_tree.proofs.sections.add_section.Goals as goal

pub returns-in_ok-with_entries-in-Some : goal.returns-in_ok-with_entries-in-Some
returns-in_ok-with_entries-in-Some c =
    on_ok_weaker c.push.result
    (λ h. added_to c.args.out.now c.push.new.self c.pop.new.self c.in-Some.last c.args.section _ c.in-Some.ensures
    (sym c.passes.ensures ∙ c.if-passes.true) c.in_ok-with_entries-in-Some.ensures h)
    c.push.ensures.ok

pub returns-in_ok-push-in-Some : goal.returns-in_ok-push-in-Some
returns-in_ok-push-in-Some c =
    on_ok_weaker c.push-else-passes-2.result
    (λ h. added_behind c.args.out.now c.push-else-passes-2.new.self c.pop.new.self c.push-else-passes.new.self c.in-Some.last c.args.section
    c.in-Some.ensures (sym c.passes.ensures ∙ c.if-passes.false)
    c.in_ok-push-in-Some.ensures.ok h)
    c.push-else-passes-2.ensures.ok
