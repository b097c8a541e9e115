-- The tasks of a call are its arguments, one after the other, and then the call.
use Rattle.std.proofs.Common.{ℕ, suc, List, [], ◌∷◌, map, length, ◌≡◌, refl, ap, ◌∙◌}
use Rattle.c_tree.specs.declared.tree.Expression.{Expression}
use Rattle.c_tree.specs.ExpressionTrees.{expression_tree, arguments}
use Rattle.c_tree.specs.Trees.{expression_trees}
use Rattle.jump_meaning.specs.Effects.{Op, Computes, Calls, argument_tasks, argument_count}
use Rattle.jump_meaning.specs.Tasks.{Task, Works, works}
use Rattle.step_tasks.specs.Effects.{call_tasks}
use Rattle.step_tasks.specs.Tasks.{computes}

arguments_work : (es : List Expression) (os : List Op) (k : List Task) →
    works (argument_tasks (arguments (map expression_tree es)) os) k ≡ computes es (works os k)
arguments_work [] os k = refl
arguments_work (e ∷ es) os k = ap (λ t. Works (Computes (expression_tree e)) ∷ t) (arguments_work es os k)

count_is : (es : List Expression) → argument_count (arguments (map expression_tree es)) ≡ length es
count_is [] = refl
count_is (e ∷ es) = ap suc (count_is es)

pub call_work : (m : List ℕ) (es : List Expression) (k : List Task) → works (call_tasks m (expression_trees es)) k ≡ computes es
    (Works (Calls m (length es)) ∷ k)
call_work m es k = arguments_work es (Calls m (argument_count (arguments (map expression_tree es))) ∷ []) k ∙
    ap (λ n. computes es (Works (Calls m n) ∷ k)) (count_is es)
