-- A task of an expression, by the task that the machine has for it.
use Rattle.std.proofs.Common.{ℕ, List, ◌≡◌, refl}
use Rattle.c_tree.specs.declared.tree.Home.TheVariants as H
use Rattle.jump_meaning.specs.Effects.{Op, Clears}
use Rattle.jump_meaning.specs.World.{clear}
use Rattle.jump_meaning.specs.Tasks.{Works}
use Rattle.step_memory.specs.declared.store.Store.{Store}
use Rattle.step_memory.specs.declared.value.Value.{Value}
use Rattle.step_memory.specs.Stores.{ClearsIn}
use Rattle.step_tasks.specs.declared.operate.Done.{Done}
use Rattle.step_tasks.specs.declared.operate.Done.TheVariants as Is
use Rattle.step_tasks.specs.declared.work.Work.{Work}
use Rattle.step_tasks.specs.Effects.{IsDoneOr, IsLeftOr, Changes, ChangesOr, LeavesInOr}

pub same_op : (o p : Op) → Works p ≡ Works o → p ≡ o
same_op o p e = cc

pub left_or : (o : Op) (d : Done) (s : Store) (values new : List Value) → IsLeftOr o d s values new → (tasks : List Work) →
    IsDoneOr o d s tasks tasks values new
left_or o Is.Goes s values new h tasks = h tasks
left_or o (Is.Traps t) s values new h tasks = h

pub leaves_or : (o : Op) (d : Done) (s t : Store) (values new : List Value) → LeavesInOr o d s t values new → (tasks : List Work) →
    ChangesOr o d s t tasks tasks values new
leaves_or o Is.Goes s t values new h tasks = h tasks
leaves_or o (Is.Traps trap) s t values new h tasks = h

-- a task that changes no variable
pub no_change : (o : Op) (d : Done) (s : Store) (tasks left : List Work) (values new : List Value) → IsDoneOr o d s tasks left values new →
    ChangesOr o d s s tasks left values new
no_change o Is.Goes s tasks left values new h = λ w k. (w, h w k, k, record { calls = refl; cells = refl; input = refl; answers = refl; events = refl })
no_change o (Is.Traps t) s tasks left values new h = h

pub cleared : (x n : ℕ) (s t : Store) (tasks : List Work) (values : List Value) → ClearsIn (H.Slot x) n s t → Changes (Clears x n) s t tasks tasks values values
cleared x n s t tasks values h w k = (
  clear (H.Slot x) n w,
  (refl, refl, refl),
  h w k,
  record { calls = refl; cells = refl; input = refl; answers = refl; events = refl },
)
