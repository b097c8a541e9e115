-- The core of the tasks of a call.
use Rattle.std.proofs.Common.{zero, suc, ◌+◌, ℕ, Bool, true, false, List, [], ◌∷◌, ◌≡◌, refl, ap, sym, ◌∙◌}
use Rattle.c_tree.specs.TestTrees.{Source, Selects}
use Rattle.c_tree.specs.Trees.{Forest, Nil, Then, Sections, NoSection, Section}
use Rattle.c_tree.specs.Cases.{selector_source}
use Rattle.c_tree.specs.Changed.{one}
use Rattle.c_tree.specs.Exits.{breaks, continues}
use Rattle.jump_meaning.specs.Tasks.{WhileLoop, DoLoop, ForLoop, Task, Runs, Works, Asks, Branches, Turns, Loops, Heads, Arms, AsksSelector, Enters, EndsSection, Out, items, end_of, tail_tasks}
use Rattle.jump_meaning.specs.Step.{no_guards}
use Rattle.jump_meaning.proofs.TaskFacts.{items_join}
use Rattle.core_laws.specs.Ways.{Peeled, Ask, Known, peel, lost, before, after_while, after_do, after_section}
use Rattle.core_laws.specs.Core.{constant, source_of, jump_if, core, core_of, core_sections}
use Rattle.core_laws.proofs.TaskWays.{task_way, follow_items, follow_section}

-- behind the body of a `do`: nothing, where the core has no `do` for it
abbrev pub core_do_loop : Peeled → ℕ → Forest → List Task → List Task
core_do_loop (Ask e) n a k = Loops (DoLoop a (Source e)) ∷ k
core_do_loop (Known true) n a k = Loops (DoLoop a (Source (constant true))) ∷ k
core_do_loop (Known false) zero a k = k
core_do_loop (Known false) (suc n) a k = Loops (DoLoop a (Source (constant false))) ∷ k

-- what takes the value of its test
abbrev pub core_do_turn : Peeled → ℕ → Forest → List Task → List Task
core_do_turn (Ask e) n a k = Turns (DoLoop a (Source e)) ∷ k
core_do_turn (Known true) n a k = Turns (DoLoop a (Source (constant true))) ∷ k
core_do_turn (Known false) zero a k = Branches a Nil ∷ k
core_do_turn (Known false) (suc n) a k = Turns (DoLoop a (Source (constant false))) ∷ k

abbrev pub task_core : List Task → List Task
task_core [] = []
task_core (Runs x ∷ k) = items (core_of x (task_way k)) (task_core k)
task_core (Works o ∷ k) = Works o ∷ task_core k
task_core (Asks t ∷ k) = Asks (Source (source_of (peel no_guards t))) ∷ task_core k
task_core (Branches a b ∷ k) = Branches (core a (task_way k)) (core b (task_way k)) ∷ task_core k
task_core (Turns (WhileLoop t a) ∷ k) = Turns (WhileLoop (Source (source_of (peel no_guards t))) (core a (after_while t a (task_way k)))) ∷ task_core k
task_core (Turns (DoLoop a t) ∷ k) = core_do_turn (peel no_guards t) (breaks a + continues a) (core a (after_do a t (task_way k))) (task_core k)
task_core (Turns (ForLoop t u a) ∷ k) = Turns (ForLoop t u (core a lost)) ∷ task_core k
task_core (Loops (WhileLoop t a) ∷ k) = Loops (WhileLoop (Source (source_of (peel no_guards t))) (core a (after_while t a (task_way k)))) ∷ task_core k
task_core (Loops (DoLoop a t) ∷ k) = core_do_loop (peel no_guards t) (breaks a + continues a) (core a (after_do a t (task_way k))) (task_core k)
task_core (Loops (ForLoop t u a) ∷ k) = Loops (ForLoop t u (core a lost)) ∷ task_core k
task_core (Heads t u a ∷ k) = Heads t u (core a lost) ∷ task_core k
task_core (Arms l ∷ k) = Branches (one (jump_if (task_way k l) l)) Nil ∷ task_core k
task_core (AsksSelector s ∷ k) = AsksSelector (Selects (selector_source s)) ∷ task_core k
task_core (Enters kind c ∷ k) = Enters kind (core_sections c (task_way k)) ∷ task_core k
task_core (EndsSection ∷ k) = EndsSection ∷ task_core k
task_core (Out ∷ k) = Out ∷ task_core k

pub core_items : (a : Forest) (k : List Task) → task_core (items a k) ≡ items (core a (task_way k)) (task_core k)
core_items Nil k = refl
core_items (Then x a) k =
    ap (λ w. items (core_of x w) (task_core (items a k))) (follow_items a k)
    ∙ ap (λ r. items (core_of x (before a (task_way k))) r) (core_items a k)
    ∙ sym (items_join (core_of x (before a (task_way k))) (core a (task_way k)) (task_core k))

pub core_end : (ends : Bool) (k : List Task) → task_core (end_of ends k) ≡ end_of ends (task_core k)
core_end true k = refl
core_end false k = refl

-- the list of a section, and what is behind it
pub core_section : (a : Forest) (ends : Bool) (c : Sections) (k : List Task) →
    task_core (tail_tasks c k) ≡ tail_tasks (core_sections c (task_way k)) (task_core k)
    → task_core (items a (end_of ends (tail_tasks c k))) ≡ items (core a (after_section ends c (task_way k)))
    (end_of ends (tail_tasks (core_sections c (task_way k)) (task_core k)))
core_section a ends c k h =
    core_items a (end_of ends (tail_tasks c k))
    ∙ ap (λ w. items (core a w) (task_core (end_of ends (tail_tasks c k)))) (follow_section ends c k)
    ∙ ap (λ r. items (core a (after_section ends c (task_way k))) r) (core_end ends (tail_tasks c k) ∙ ap (end_of ends) h)

pub core_tail : (c : Sections) (k : List Task) → task_core (tail_tasks c k) ≡ tail_tasks (core_sections c (task_way k)) (task_core k)
core_tail NoSection k = refl
core_tail (Section cases default a ends c) k = core_section a ends c k (core_tail c k)
