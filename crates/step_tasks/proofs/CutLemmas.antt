-- Where `break` and `continue` come to, in the tasks of the machine.
use Rattle.std.proofs.Common.{◌||◌, cond, List, [], ◌∷◌, ◌≡◌, refl}
use Rattle.c_tree.specs.declared.tree.Expression.{Expression}
use Rattle.c_tree.specs.Trees.{Tree, If, While, Do, For, Switch, trees_of, sections_of}
use Rattle.jump_meaning.specs.Tasks.{Task, cut, cut_to}
use Rattle.jump_meaning.proofs.TaskFacts.{cut_items, cut_tail, cut_to_items, cut_to_tail}
use Rattle.step_tasks.specs.declared.work.Stage.TheVariants as Stages
use Rattle.step_tasks.specs.declared.work.Use.TheVariants as Uses
use Rattle.step_tasks.specs.declared.work.Task as Mine
use Rattle.step_tasks.specs.declared.work.Task.TheVariants as My
use Rattle.step_tasks.specs.declared.work.Work.{Work}
use Rattle.step_tasks.specs.declared.work.Work.TheVariants as Several
use Rattle.step_tasks.specs.Tasks.{branch_of, turn_of, loop_of, head_of, enter_of, task_of, computes, work_of}
use Rattle.step_tasks.specs.Controls.{is_loop, is_out, ends_break, ends_continue}

-- ---- `break`

cut_computes : (es : List Expression) (k : List Task) → cut (computes es k) ≡ cut k
cut_computes [] k = refl
cut_computes (e ∷ es) k = cut_computes es k

cut_branch : (x : Tree) (k : List Task) → cut (branch_of x ∷ k) ≡ cut k
cut_branch (If t a b) k = refl
cut_branch x k = refl

cut_turn : (x : Tree) (k : List Task) → cut (turn_of x ∷ k) ≡ cut k
cut_turn (While t a) k = refl
cut_turn (Do a t) k = refl
cut_turn (For first t u a) k = refl
cut_turn x k = refl

cut_loop : (x : Tree) (k : List Task) → cut (loop_of x ∷ k) ≡ k
cut_loop (While t a) k = refl
cut_loop (Do a t) k = refl
cut_loop (For first t u a) k = refl
cut_loop x k = refl

cut_head : (x : Tree) (k : List Task) → cut (head_of x ∷ k) ≡ cut k
cut_head (For first t u a) k = refl
cut_head x k = refl

cut_enter : (x : Tree) (k : List Task) → cut (enter_of x ∷ k) ≡ cut k
cut_enter (Switch s c) k = refl
cut_enter x k = refl

cut_task : (t : Mine.Task) (k : List Task) → cut (task_of t ∷ k) ≡ cond (is_loop t || is_out t) k (cut k)
cut_task (My.Of Stages.Run x) k = refl
cut_task (My.Of Stages.Branch x) k = cut_branch _ k
cut_task (My.Of Stages.Turn x) k = cut_turn _ k
cut_task (My.Of Stages.Loop x) k = cut_loop _ k
cut_task (My.Of Stages.Head x) k = cut_head _ k
cut_task (My.Of Stages.Enter x) k = cut_enter _ k
cut_task (My.With Uses.Compute e) k = refl
cut_task (My.With Uses.And e) k = refl
cut_task (My.With Uses.Or e) k = refl
cut_task (My.With Uses.Decide e) k = refl
cut_task t k = refl

pub cut_work : (w : Work) (k : List Task) → cut (work_of w k) ≡ cond (ends_break w) k (cut k)
cut_work (Several.One t) k = cut_task t k
cut_work (Several.Items xs) k = cut_items (trees_of xs.now) k
cut_work (Several.Tail cs) k = cut_tail (sections_of cs.now) k
cut_work (Several.Arguments es) k = cut_computes es.now k

-- ---- `continue`

to_computes : (es : List Expression) (k : List Task) → cut_to (computes es k) ≡ cut_to k
to_computes [] k = refl
to_computes (e ∷ es) k = to_computes es k

to_branch : (x : Tree) (k : List Task) → cut_to (branch_of x ∷ k) ≡ cut_to k
to_branch (If t a b) k = refl
to_branch x k = refl

to_turn : (x : Tree) (k : List Task) → cut_to (turn_of x ∷ k) ≡ cut_to k
to_turn (While t a) k = refl
to_turn (Do a t) k = refl
to_turn (For first t u a) k = refl
to_turn x k = refl

to_loop : (x : Tree) (k : List Task) → cut_to (loop_of x ∷ k) ≡ loop_of x ∷ k
to_loop (While t a) k = refl
to_loop (Do a t) k = refl
to_loop (For first t u a) k = refl
to_loop x k = refl

to_head : (x : Tree) (k : List Task) → cut_to (head_of x ∷ k) ≡ cut_to k
to_head (For first t u a) k = refl
to_head x k = refl

to_enter : (x : Tree) (k : List Task) → cut_to (enter_of x ∷ k) ≡ cut_to k
to_enter (Switch s c) k = refl
to_enter x k = refl

to_task : (t : Mine.Task) (k : List Task) → cut_to (task_of t ∷ k) ≡ cond (is_loop t) (task_of t ∷ k) (cut_to k)
to_task (My.Of Stages.Run x) k = refl
to_task (My.Of Stages.Branch x) k = to_branch _ k
to_task (My.Of Stages.Turn x) k = to_turn _ k
to_task (My.Of Stages.Loop x) k = to_loop _ k
to_task (My.Of Stages.Head x) k = to_head _ k
to_task (My.Of Stages.Enter x) k = to_enter _ k
to_task (My.With Uses.Compute e) k = refl
to_task (My.With Uses.And e) k = refl
to_task (My.With Uses.Or e) k = refl
to_task (My.With Uses.Decide e) k = refl
to_task t k = refl

pub to_work : (w : Work) (k : List Task) → cut_to (work_of w k) ≡ cond (ends_continue w) (work_of w k) (cut_to k)
to_work (Several.One t) k = to_task t k
to_work (Several.Items xs) k = cut_to_items (trees_of xs.now) k
to_work (Several.Tail cs) k = cut_to_tail (sections_of cs.now) k
to_work (Several.Arguments es) k = to_computes es.now k
