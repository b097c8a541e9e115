-- The two reasons why the way of each Arm that is met lands: the run is steady, or the core's run meets no Arm.
use Rattle.std.proofs.Common.{ℕ, true, cond, List, ◌∷◌, None, ◌≡◌, refl, subst}
use Rattle.c_tree.specs.Trees.{Arm}
use Rattle.jump_meaning.specs.Code.{Code}
use Rattle.jump_meaning.specs.Operations.{holds}
use Rattle.jump_meaning.specs.Effects.{top}
use Rattle.jump_meaning.specs.Tasks.{Task, Runs, Arms}
use Rattle.jump_meaning.specs.Step.{State, At}
use Rattle.jump_meaning.specs.Runs.{run}
use Rattle.core_laws.specs.Ways.{Way, Lands}
use Rattle.core_laws.specs.Core.{jump_if, core_code}
use Rattle.core_laws.proofs.TaskWays.{task_way}
use Rattle.core_laws.proofs.TaskCores.{task_core}
use Rattle.core_laws.proofs.Match.{core_state, IsNoArm, SafeAt, Sure}
use Rattle.core_laws.proofs.Pairs.{later_all}

-- the way behind an Arm lands
abbrev pub SureAt : State → Type 0
SureAt (At f g (Runs (Arm l None) ∷ k) v cs w) = task_way k l ≡ Lands
SureAt (At f g (Arms l ∷ k) v cs w) = holds (top v) ≡ true → task_way k l ≡ Lands
SureAt _ = Unit {0}

abbrev pub RealSure : Code → State → Type 0
RealSure p c = (i : ℕ) → SureAt (run p i c)

abbrev pub CoreSafe : Code → State → Type 0
CoreSafe p c = (i : ℕ) → SafeAt (run (core_code p) i (core_state c))

jump_safe : (y : Way) (l : ℕ) (k : List Task) → IsNoArm (Runs (jump_if y l) ∷ k) → y ≡ Lands
jump_safe Lands l k h = refl
jump_safe _ l k h = absurd h

module _ (p : Code) where
  pub real_sure : Sure p (RealSure p)
  real_sure = record {
    later = λ c d r q h. later_all SureAt r h;
    at_arm = λ l f g k v cs w h. h 0;
    at_arms = λ l f g k v cs w e h. h 0 e;
  }

  pub core_safe : Sure p (CoreSafe p)
  core_safe = record {
    later = λ c d r q h. later_all SafeAt q h;
    at_arm = λ l f g k v cs w h. jump_safe (task_way k l) l (task_core k) (h 0);
    at_arms = λ l f g k v cs w e h. jump_safe (task_way k l) l (task_core k)
        (subst (λ b. IsNoArm (cond b (Runs (jump_if (task_way k l) l) ∷ task_core k) (task_core k))) e (h 1));
  }
