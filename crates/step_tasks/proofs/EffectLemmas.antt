-- The condition of a conditional expression.
use Rattle.std.proofs.Common.{ℕ, Bool, cond, List, ◌∷◌, Option, ◌≡◌, refl, sym, ap, ◌∙◌, subst}
use Rattle.c_types.specs.declared.kinds.IntKind.{IntKind}
use Rattle.c_tree.specs.ExpressionTrees.{ExpressionTree}
use Rattle.jump_meaning.specs.Operations.{holds}
use Rattle.jump_meaning.specs.Effects.{Op, Does, Computes, Decides, conversion, effect, top, rest}
use Rattle.step_memory.specs.declared.value.Value.{Value}
use Rattle.step_memory.specs.Stores.{names_of}
use Rattle.step_memory.specs.Values.{values_of}
use Rattle.step_tasks.specs.declared.work.Work.{Work}
use Rattle.step_tasks.specs.Effects.{Comes, IsDoneAlways, Computed}
use Rattle.step_tasks.specs.Tasks.{tasks_of}

pub decided : (o : Op) (b c : ExpressionTree) (kind : Option IntKind) (h : Bool) (tasks left : List Work) (values new : List Value)
    → o ≡ Decides b c kind → ((ns : List (List ℕ)) → h ≡ holds (top (values_of ns values))) →
    ((ns : List (List ℕ)) → values_of ns new ≡ rest (values_of ns values))
    → Computed (cond h (Computes b ∷ conversion kind) (Computes c ∷ conversion kind)) tasks left → IsDoneAlways o tasks left values new
decided o b c kind h tasks left values new e k v t s w hw =
    subst (λ E. Comes E (tasks_of tasks) (tasks_of left) (values_of (names_of s) new) w)
    (sym
    (ap (λ p. effect p (values_of (names_of s) values) w) e
    ∙ ap (λ x. Does (cond x (Computes b ∷ conversion kind) (Computes c ∷ conversion kind)) (rest (values_of (names_of s) values)) w) (sym (k (names_of s)))))
    (t, v (names_of s), refl)
