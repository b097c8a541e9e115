-- Steps that follow one another, by the tasks and the values of the machine.
use Rattle.std.proofs.Common.{◌≡◌, ℕ, ◌+◌, List, ◌∷◌, sym, ap, ◌∙◌, subst, arith}
use Rattle.jump_meaning.specs.Values as Meant
use Rattle.jump_meaning.specs.Code.{Code}
use Rattle.jump_meaning.specs.World.{World}
use Rattle.jump_meaning.specs.Effects.{Op, Effect, Does, Leaves, Drops, effect, rest}
use Rattle.jump_meaning.specs.Tasks.{Task, Works}
use Rattle.jump_meaning.specs.Step.{Guards, Frame, At, perform}
use Rattle.jump_meaning.specs.Runs.{run}
use Rattle.step_memory.specs.declared.store.Store.{Store}
use Rattle.step_memory.specs.declared.value.Value.{Value}
use Rattle.step_memory.specs.Stores.{names_of, HoldsWorld}
use Rattle.step_memory.specs.Values.{values_of}
use Rattle.step_tasks.specs.declared.work.Work.{Work}
use Rattle.step_tasks.specs.Effects.{Comes, IsDone, Changes, DifferInVariables}
use Rattle.step_tasks.specs.Tasks.{tasks_of}
use Rattle.step_ahead.specs.Taken as Taken
use Rattle.step_ahead.specs.Ahead.{GoesOn, Passes}
use Rattle.step_ahead.proofs.RunLemmas.{run_parts}

-- the state after an effect that goes on
pub comes_to : (P : Code) (E : Effect) (f : List ℕ) (g : Guards) (before after : List Task) (cs : List Frame) (vs : List Meant.Value) (w : World)
    → Comes E before after vs w → perform P E f g before cs ≡ At f g after vs cs w
comes_to P (Does os v u) f g before after cs vs w c =
    ap (λ k. At f g k v cs u) (sym c.0) ∙ ap (λ x. At f g after x cs u) (sym c.1) ∙ ap (λ x. At f g after vs cs x) (sym c.2)
comes_to P _ f g before after cs vs w c = absurd c

pub passes_on : (s t : Store) (n : ℕ) (k : List Task) (tasks left : List Work) (values new : List Value) → tasks_of tasks ≡ k
    → Passes s t n k (tasks_of left) values new → GoesOn s t n tasks left values new
passes_on s t n k tasks left values new e p = record {
  comes = λ P f g cs w h.
      let r = p.comes P f g cs w h in (
        r.0,
        ap (λ i. run P n (At f g i (values_of (names_of s) values) cs w)) e ∙ r.1,
        r.2,
      );
}

pub passes_from : (s t : Store) (n : ℕ) (k i j : List Task) (values new : List Value) → k ≡ i → Passes s t n i j values new → Passes s t n k j values new
passes_from s t n k i j values new e p = subst (λ x. Passes s t n x j values new) (sym e) p

-- one step that looks at no value, and then others
pub first_then : (s t : Store) (n m : ℕ) (k i j : List Task) (values new : List Value)
    → ((P : Code) (f : List ℕ) (g : Guards) (v : List Meant.Value) (cs : List Frame) (w : World) → run P 1 (At f g k v cs w) ≡ At f g i v cs w)
    → m ≡ n + 1 → Passes s t n i j values new → Passes s t m k j values new
first_then s t n m k i j values new start q p = record {
  comes = λ P f g cs w h.
      let v = values_of (names_of s) values in
      let r = p.comes P f g cs w h in (
        r.0,
        subst (λ x. run P x (At f g k v cs w) ≡ At f g j (values_of (names_of s) new) cs (record w { variables = r.0 })) (sym one)
            (run_parts P 1 n (At f g k v cs w) (At f g i v cs w) (At f g j (values_of (names_of s) new) cs (record w { variables = r.0 }))
            (start P f g v cs w) r.1),
        r.2,
      );
} where
  one : m ≡ 1 + n
  one = omega (arith, q)

-- a value is left
pub leaves_pass : (s : Store) (o : Op) (x : Meant.Value) (n : ℕ) (k : List Task) (values new : List Value) → Taken.Leaves s o x n
    → values_of (names_of s) new ≡ x ∷ values_of (names_of s) values → Passes s s n (Works o ∷ k) k values new
leaves_pass s o x n k values new l e = record {
  comes = λ P f g cs w h. (
    w.variables,
    l.comes P f g k (values_of (names_of s) values) cs w h ∙ ap (λ v. At f g k v cs w) (sym e),
    h,
  );
}

-- one task is done
pub done_passes : (s : Store) (o : Op) (tasks left : List Work) (values new : List Value) → IsDone o s tasks left values new
    → Passes s s 1 (Works o ∷ tasks_of tasks) (tasks_of left) values new
done_passes s o tasks left values new d = record {
  comes = λ P f g cs w h. (
    w.variables,
    comes_to P (effect o (values_of (names_of s) values) w) f g (tasks_of tasks) (tasks_of left) cs (values_of (names_of s) new) w (d w h),
    h,
  );
}

world_as : (w now : World) → DifferInVariables w now → now ≡ record w { variables = now.variables }
world_as w now d =
    ap (λ c. record now { calls = c }) d.calls ∙ ap (λ c. record now { calls = w.calls; cells = c }) d.cells
    ∙ ap (λ c. record now { calls = w.calls; cells = w.cells; input = c }) d.input
    ∙ ap (λ c. record now { calls = w.calls; cells = w.cells; input = w.input; answers = c }) d.answers
    ∙ ap (λ c. record now { calls = w.calls; cells = w.cells; input = w.input; answers = w.answers; events = c }) d.events

-- one task is done that may change variables
pub changes_pass : (s t : Store) (o : Op) (tasks left : List Work) (values new : List Value) → Changes o s t tasks left values new
    → Passes s t 1 (Works o ∷ tasks_of tasks) (tasks_of left) values new
changes_pass s t o tasks left values new c = record {
  comes = λ P f g cs w h.
      let v = values_of (names_of s) values in
      let r = c w h in
      let same = world_as w r.0 r.3 in (
        r.0.variables,
        comes_to P (effect o v w) f g (tasks_of tasks) (tasks_of left) cs (values_of (names_of s) new) r.0 r.1
            ∙ ap (λ x. At f g (tasks_of left) (values_of (names_of s) new) cs x) same,
        subst (HoldsWorld t) same r.2,
      );
}

-- the last value is dropped
pub drop_passes : (s : Store) (k : List Task) (values new : List Value) → values_of (names_of s) new ≡ rest (values_of (names_of s) values)
    → Passes s s 1 (Works Drops ∷ k) k values new
drop_passes s k values new e = record { comes = λ P f g cs w h. (w.variables, ap (λ v. At f g k v cs w) (sym e), h) }
