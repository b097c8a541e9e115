use Rattle.std.proofs.Common.{◌∷◌, ap, sym, ◌∙◌, subst, to_z, of_z}
use Rattle.std.specs.Int.{w128}
use Rattle.std.proofs.lemmas.Int.{to_z-of_z}
use Rattle.c_tree.specs.TestTrees.{selector_tree}
use Rattle.c_tree.specs.Trees.{tree_of, sections_of}
use Rattle.c_tree.proofs.TreeLaws.{tree-Switch}
use Rattle.jump_meaning.specs.Effects.{top}
use Rattle.jump_meaning.specs.Search.{ToCase, ToDefault, seek_sections, entry}
use Rattle.jump_meaning.specs.Step.{switch_kind, view}
use Rattle.jump_meaning.specs.Values as Meant
use Rattle.step_memory.specs.Values.{values_of}
use Rattle.step_tasks.specs.Controls.{body_of, guards_of, Sought}
use Rattle.step_tasks.specs.Tasks.{enter_of, tasks_of}
use Rattle.step_tasks.proofs.ControlLemmas.{takes}
use Rattle.step_tasks.proofs.SearchLemmas.{sought_true, sought_false, by_case, by_default}
use Rattle.step_tasks.proofs.jumps.enter.Goals as goal

pub returns-then-branch-clause-ok : goal.returns-then-branch-clause-ok
returns-then-branch-clause-ok c =
    takes (enter_of (tree_of c.args.item.now)) c.args.call.now c.seek_sections.new.tasks c.take_number-number.new.values
    (λ v. entry (switch_kind (selector_tree c.in-Switch.selector)) (Meant.integer v) (sections_of c.in-Switch.sections) (tasks_of c.args.call.now.tasks))
    (ap (λ y. view (body_of c.args.call.now.function.now) (guards_of c.args.call.now.guards) (enter_of y ∷ (tasks_of c.args.call.now.tasks)))
    (ap tree_of c.in-Switch.is ∙ tree-Switch c.in-Switch.selector c.in-Switch.sections))
    (λ ns. let h = sought_true _ _ _ _ c.if-branch.true c.in_ok-seek_sections.ensures.ok in
    sym (by_case (seek_sections (ToCase (switch_kind (selector_tree c.in-Switch.selector))
    (Meant.integer (top (values_of ns c.args.call.now.values)))) (sections_of c.in-Switch.sections) (tasks_of c.args.call.now.tasks))
    (seek_sections ToDefault (sections_of c.in-Switch.sections) (tasks_of c.args.call.now.tasks)) (tasks_of c.args.call.now.tasks)
    (tasks_of c.seek_sections.new.tasks)
    ((ap (λ k. seek_sections (ToCase k (Meant.integer (top (values_of ns c.args.call.now.values)))) (sections_of c.in-Switch.sections)
    (tasks_of c.args.call.now.tasks)) (sym c.switch_kind-kind.ensures)
    ∙ ap (λ z. seek_sections (ToCase c.switch_kind-kind.result z) (sections_of c.in-Switch.sections) (tasks_of c.args.call.now.tasks))
    (sym (to_z-of_z w128 c.take_number-number.result (record { sfits = c.take_number-number.type_inv }) ∙ c.take_number-number.ensures.value ns))
    ∙ ap (λ xs. seek_sections (ToCase c.switch_kind-kind.result (to_z w128 (of_z w128 c.take_number-number.result))) (sections_of xs)
    (tasks_of c.args.call.now.tasks)) (sym c.as_slice-sections.ensures.value)) ∙ h)))
    c.take_number-number.ensures.left

pub returns-clause-ok : goal.returns-clause-ok
returns-clause-ok c =
    takes (enter_of (tree_of c.args.item.now)) c.args.call.now c.seek_sections-2.new.tasks c.take_number-number.new.values
    (λ v. entry (switch_kind (selector_tree c.in-Switch.selector)) (Meant.integer v) (sections_of c.in-Switch.sections) (tasks_of c.args.call.now.tasks))
    (ap (λ y. view (body_of c.args.call.now.function.now) (guards_of c.args.call.now.guards) (enter_of y ∷ (tasks_of c.args.call.now.tasks)))
    (ap tree_of c.in-Switch.is ∙ tree-Switch c.in-Switch.selector c.in-Switch.sections))
    (λ ns. let h = sought_false _ _ _ _ c.if-branch.false c.in_ok-seek_sections.ensures.ok in
    sym (by_default c.in_ok-seek_sections-2.field-0
    (seek_sections (ToCase (switch_kind (selector_tree c.in-Switch.selector)) (Meant.integer (top (values_of ns c.args.call.now.values))))
    (sections_of c.in-Switch.sections) (tasks_of c.args.call.now.tasks))
    (seek_sections ToDefault (sections_of c.in-Switch.sections) (tasks_of c.args.call.now.tasks)) c.args.call.now.tasks
    c.seek_sections-2.new.tasks ((ap (λ k. seek_sections (ToCase k (Meant.integer (top (values_of ns c.args.call.now.values))))
    (sections_of c.in-Switch.sections) (tasks_of c.args.call.now.tasks)) (sym c.switch_kind-kind.ensures)
    ∙ ap (λ z. seek_sections (ToCase c.switch_kind-kind.result z) (sections_of c.in-Switch.sections) (tasks_of c.args.call.now.tasks))
    (sym (to_z-of_z w128 c.take_number-number.result (record { sfits = c.take_number-number.type_inv }) ∙ c.take_number-number.ensures.value ns))
    ∙ ap (λ xs. seek_sections (ToCase c.switch_kind-kind.result (to_z w128 (of_z w128 c.take_number-number.result))) (sections_of xs)
    (tasks_of c.args.call.now.tasks)) (sym c.as_slice-sections.ensures.value)) ∙ h.0)
    (subst (λ ts. Sought c.in_ok-seek_sections-2.field-0 (seek_sections ToDefault (sections_of c.in-Switch.sections) (tasks_of ts)) ts
    c.seek_sections-2.new.tasks) h.1
    (subst (λ xs. Sought c.in_ok-seek_sections-2.field-0 (seek_sections ToDefault (sections_of xs) (tasks_of c.seek_sections.new.tasks))
    c.seek_sections.new.tasks c.seek_sections-2.new.tasks) c.as_slice-sections.ensures.value c.in_ok-seek_sections-2.ensures.ok))))
    c.take_number-number.ensures.left
