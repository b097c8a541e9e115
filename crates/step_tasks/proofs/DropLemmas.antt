-- Whether the next task of the machine drops a value.
use Rattle.std.proofs.Common.{true, false, cond, List, [], ◌∷◌, ◌≡◌, refl, ap}
use Rattle.c_tree.specs.declared.tree.Expression.{Expression}
use Rattle.c_tree.specs.declared.tree.Item.{Item}
use Rattle.c_tree.specs.ExpressionTrees.{ExpressionTree, Typed, Conditional, expression_tree}
use Rattle.c_tree.specs.Trees.{Tree, If, While, Do, For, Switch, Nil, Then, Sections, NoSection, Section, trees_of, sections_of}
use Rattle.c_tree.proofs.TreeLaws.{trees-none, trees-more}
use Rattle.jump_meaning.specs.Step.{is_dropped}
use Rattle.jump_meaning.specs.Tasks.{Task, Works, items, tail_tasks}
use Rattle.step_tasks.specs.declared.work.Stage.TheVariants as Stages
use Rattle.step_tasks.specs.declared.work.Use.TheVariants as Uses
use Rattle.step_tasks.specs.declared.work.Task as Mine
use Rattle.step_tasks.specs.declared.work.Task.TheVariants as My
use Rattle.step_tasks.specs.declared.work.Work.{Work}
use Rattle.step_tasks.specs.declared.work.Work.TheVariants as Several
use Rattle.step_tasks.specs.Tasks.{branch_of, turn_of, loop_of, head_of, enter_of, decide_of, task_of, computes, work_of}
use Rattle.step_tasks.specs.Controls.{is_none, is_nothing, drops}

no_branch : (x : Tree) (k : List Task) → is_dropped (branch_of x ∷ k) ≡ false
no_branch (If t a b) k = refl
no_branch x k = refl

no_turn : (x : Tree) (k : List Task) → is_dropped (turn_of x ∷ k) ≡ false
no_turn (While t a) k = refl
no_turn (Do a t) k = refl
no_turn (For first t u a) k = refl
no_turn x k = refl

no_loop : (x : Tree) (k : List Task) → is_dropped (loop_of x ∷ k) ≡ false
no_loop (While t a) k = refl
no_loop (Do a t) k = refl
no_loop (For first t u a) k = refl
no_loop x k = refl

no_head : (x : Tree) (k : List Task) → is_dropped (head_of x ∷ k) ≡ false
no_head (For first t u a) k = refl
no_head x k = refl

no_enter : (x : Tree) (k : List Task) → is_dropped (enter_of x ∷ k) ≡ false
no_enter (Switch s c) k = refl
no_enter x k = refl

no_decide : (e : ExpressionTree) (k : List Task) → is_dropped (Works (decide_of e) ∷ k) ≡ false
no_decide (Typed kind (Conditional a b c)) k = refl
no_decide (Typed kind node) k = refl

drops_task : (t : Mine.Task) (k : List Task) → is_dropped (task_of t ∷ k) ≡ drops (Several.One t)
drops_task (My.Of Stages.Run x) k = refl
drops_task (My.Of Stages.Branch x) k = no_branch _ k
drops_task (My.Of Stages.Turn x) k = no_turn _ k
drops_task (My.Of Stages.Loop x) k = no_loop _ k
drops_task (My.Of Stages.Head x) k = no_head _ k
drops_task (My.Of Stages.Enter x) k = no_enter _ k
drops_task (My.With Uses.Compute e) k = refl
drops_task (My.With Uses.And e) k = refl
drops_task (My.With Uses.Or e) k = refl
drops_task (My.With Uses.Decide e) k = no_decide (expression_tree e.now) k
drops_task t k = refl

drops_sections : (c : Sections) (k : List Task) → is_dropped (tail_tasks c k) ≡ false
drops_sections NoSection k = refl
drops_sections (Section cases default (Then x a) ends c) k = refl
drops_sections (Section cases default Nil true c) k = refl
drops_sections (Section cases default Nil false c) k = drops_sections c k

drops_items : (xs : List Item) (k : List Task) → is_dropped (items (trees_of xs) k) ≡ cond (is_none xs) (is_dropped k) false
drops_items [] k = ap (λ a. is_dropped (items a k)) trees-none
drops_items (x ∷ xs) k = ap (λ a. is_dropped (items a k)) (trees-more x xs)

drops_computes : (es : List Expression) (k : List Task) → is_dropped (computes es k) ≡ cond (is_none es) (is_dropped k) false
drops_computes [] k = refl
drops_computes (e ∷ es) k = refl

pub drops_work : (w : Work) (k : List Task) → is_dropped (work_of w k) ≡ cond (is_nothing w) (is_dropped k) (drops w)
drops_work (Several.One t) k = drops_task t k
drops_work (Several.Items xs) k = drops_items xs.now k
drops_work (Several.Tail cs) k = drops_sections (sections_of cs.now) k
drops_work (Several.Arguments es) k = drops_computes es.now k

pub nothing_work : (w : Work) (k : List Task) → is_nothing w ≡ true → work_of w k ≡ k
nothing_work (Several.One t) k h = cc
nothing_work (Several.Items xs) k h = no_items xs.now k h where
  no_items : (xs : List Item) (k : List Task) → is_none xs ≡ true → items (trees_of xs) k ≡ k
  no_items [] k h = ap (λ a. items a k) trees-none
  no_items (x ∷ xs) k h = cc
nothing_work (Several.Tail cs) k h = cc
nothing_work (Several.Arguments es) k h = no_expressions es.now k h where
  no_expressions : (es : List Expression) (k : List Task) → is_none es ≡ true → computes es k ≡ k
  no_expressions [] k h = refl
  no_expressions (e ∷ es) k h = cc
