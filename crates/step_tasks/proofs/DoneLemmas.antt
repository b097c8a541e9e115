-- A task of an expression is done where a value was left, or tasks were added.
use Rattle.std.proofs.Common.{List, [], ◌∷◌, ◌≡◌, refl, sym, subst}
use Rattle.jump_meaning.specs.Values as Meant
use Rattle.jump_meaning.specs.World.{World}
use Rattle.jump_meaning.specs.Effects.{Op, Does, effect}
use Rattle.step_memory.specs.declared.store.Store.{Store}
use Rattle.step_memory.specs.declared.value.Value.{Value}
use Rattle.step_tasks.specs.declared.work.Work.{Work}
use Rattle.step_tasks.specs.Effects.{Computed, Comes, IsDone}
use Rattle.step_memory.specs.Stores.{names_of, HoldsWorld}
use Rattle.step_tasks.specs.Tasks.{tasks_of}
use Rattle.step_memory.specs.Values.{values_of}

pub leaves : (s : Store) (o : Op) (tasks : List Work) (values new : List Value) (x : Meant.Value)
    → ((w : World) → HoldsWorld s w → effect o (values_of (names_of s) values) w ≡ Does [] (x ∷ values_of (names_of s) values) w)
    → values_of (names_of s) new ≡ x ∷ values_of (names_of s) values → IsDone o s tasks tasks values new
leaves s o tasks values new x k e w h =
    subst (λ E. Comes E (tasks_of tasks) (tasks_of tasks) (values_of (names_of s) new) w) (sym (k w h)) (refl, e, refl)

pub grows : (s : Store) (o : Op) (tasks left : List Work) (values : List Value) (os : List Op)
    → ((v : List Meant.Value) (w : World) → effect o v w ≡ Does os v w)
    → Computed os tasks left → IsDone o s tasks left values values
grows s o tasks left values os k e w h =
    subst (λ E. Comes E (tasks_of tasks) (tasks_of left) (values_of (names_of s) values) w) (sym (k (values_of (names_of s) values) w)) (e, refl, refl)
