use Rattle.std.proofs.Common.{ap, sym, ◌∙◌}
use Rattle.std.specs.List.{list_any}
use Rattle.c_tree.specs.Trees.{expression_trees, section_tree}
use Rattle.c_tree.proofs.TreeLaws.{section-parts}
use Rattle.jump_meaning.specs.Search.{is_case, is_section_goal}
use Rattle.step_tasks.specs.Controls.{goal_of}
use Rattle.step_tasks.proofs.search.is_section_goal.Goals as goal

pub returns-in-Case : goal.returns-in-Case
returns-in-Case c =
    c.has_case.ensures
    ∙ ap (λ cs. list_any (is_case c.in-Case.kind c.in-Case.number) (expression_trees cs)) c.as_slice.ensures.value
    ∙ sym (ap (λ g. is_section_goal (goal_of g) (section_tree c.args.section.now).cases (section_tree c.args.section.now).default) c.in-Case.is ∙
    ap (λ s. list_any (is_case c.in-Case.kind c.in-Case.number) s.cases) (section-parts c.args.section.now))

pub returns-in-Default : goal.returns-in-Default
returns-in-Default c =
    sym (ap (λ g. is_section_goal (goal_of g) (section_tree c.args.section.now).cases (section_tree c.args.section.now).default) c.in-Default.is ∙
    ap (λ s. s.default) (section-parts c.args.section.now))
