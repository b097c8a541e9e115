use Rattle.std.proofs.Common.{◌∷◌, ◌-◌, length, take, drop, ap, sym, ◌∙◌, arith}
use Rattle.c_tree.specs.Trees.{tree_of, trees_of, sections_of}
use Rattle.c_tree.proofs.TreeLaws.{trees-none, trees-more, sections-none}
use Rattle.jump_meaning.specs.Tasks.{Runs, items, tail_tasks}
use Rattle.step_tasks.specs.Tasks.{work_of, tasks_of}
use Rattle.step_tasks.proofs.TopLemmas.{first_and_rest, no_entry}
use Rattle.step_tasks.proofs.upcoming.next_task.Goals as goal

pub loop-work-preserved-then-work-lt1 : goal.loop-work-preserved-then-work-lt1
loop-work-preserved-then-work-lt1 c =
    let k = tasks_of c.pop.new.self in
    let none = no_entry c.in-Items-empty.field-0.now (omega (arith, c.in-Items-empty.len_below)) in
    sym (ap (λ w. work_of w k) c.in-Items-empty.is ∙ ap (λ xs. items (trees_of xs) k) none ∙ ap (λ a. items a k) trees-none)
    ∙ sym (ap tasks_of c.in-Some.ensures) ∙ c.loop-work.invariant

pub returns-in-Items-len1-up : goal.returns-in-Items-len1-up
returns-in-Items-len1-up c =
    let k = tasks_of c.pop.new.self in
    let split = first_and_rest c.in-Items-len1-up.field-0.now c.item-item.result (omega (arith, c.in-Items-len1-up.len_at_least)) c.item-item.is in
    sym c.loop-work.invariant ∙ ap tasks_of c.in-Some.ensures ∙ ap (λ w. work_of w k) c.in-Items-len1-up.is ∙ ap (λ xs. items (trees_of xs) k) split
    ∙ ap (λ a. items a k) (trees-more c.item-item.result (take (length c.in-Items-len1-up.field-0.now - 1) (drop 1 c.in-Items-len1-up.field-0.now))) ∙
    ap (λ j. Runs (tree_of c.item-item.result) ∷ j) (sym c.in_ok-add_items-in-Items-len1-up.ensures.ok)

pub returns-in-Tail-empty : goal.returns-in-Tail-empty
returns-in-Tail-empty c =
    let k = tasks_of c.pop.new.self in
    let none = no_entry c.in-Tail-empty.field-0.now (omega (arith, c.in-Tail-empty.len_below)) in
    sym c.loop-work.invariant ∙ ap tasks_of c.in-Some.ensures ∙ ap (λ w. work_of w k) c.in-Tail-empty.is ∙
    ap (λ cs. tail_tasks (sections_of cs) k) none ∙ ap (λ cs. tail_tasks cs k) sections-none
