-- What a step comes to, by the task that is next.
use Rattle.std.proofs.Common.{List, ◌∷◌, map, false, ◌≡◌, refl, sym, ap, ◌∙◌, subst, true≢false}
use Rattle.c_types.specs.declared.trap.Trap.{Trap}
use Rattle.jump_meaning.specs.Code.{code_of, items_of}
use Rattle.jump_meaning.specs.Effects.{Op, effect}
use Rattle.jump_meaning.specs.Step.{At, HasTrapped, step, move, view, perform}
use Rattle.jump_meaning.specs.Tasks as T
use Rattle.jump_meaning.specs.Values as Meant
use Rattle.jump_meaning.specs.World.{World}
use Rattle.step_memory.specs.declared.store.Store.{Store}
use Rattle.step_memory.specs.declared.value.Value.{Value}
use Rattle.step_memory.specs.Stores.{names_of}
use Rattle.step_memory.specs.Values.{values_of}
use Rattle.step_tasks.specs.declared.call.Call.{Call}
use Rattle.step_tasks.specs.declared.work.Task.{Task}
use Rattle.step_tasks.specs.declared.work.Task.TheVariants as My
use Rattle.step_tasks.specs.declared.work.Use.TheVariants as Uses
use Rattle.step_tasks.specs.declared.work.Work.{Work}
use Rattle.step_tasks.specs.Controls.{is_control, guards_of, Moves}
use Rattle.step_tasks.specs.Effects.{IsTrapped, Changes}
use Rattle.step_tasks.specs.Tasks.{task_of, tasks_of}
use Rattle.step_interp.specs.declared.machine.Machine.{Machine}
use Rattle.step_interp.specs.declared.machine.Next.{Next}
use Rattle.step_tasks.specs.Labels.{AreLabelsOf}
use Rattle.step_ahead.proofs.PassLemmas.{comes_to}
use Rattle.step_interp.specs.Machines.{HasWorld, IsCallOf, IsFunctionOf, frames_of, state_of}
use Rattle.step_interp.specs.Moves.{Reaches, StandsFor}
use Rattle.step_interp.specs.Calls.{QuietlyReaches}
use Rattle.step_interp.proofs.SettledLemmas.{at_once, reaches_weaker}
use Rattle.step_interp.specs.Steps.{IsReading, state_with}

-- a task that is none of an item, a test or a selector is one of an expression
pub op_of : (t : Task) → is_control t ≡ false → (o : Op) × (task_of t ≡ T.Works o)
op_of (My.Of stage x) e = absurd (true≢false e)
op_of (My.With Uses.Compute x) e = (_, refl)
op_of (My.With Uses.And x) e = (_, refl)
op_of (My.With Uses.Or x) e = (_, refl)
op_of (My.With Uses.Decide x) e = (_, refl)
op_of My.EndSection e = absurd (true≢false e)
op_of My.Out e = absurd (true≢false e)
op_of (My.Ask t) e = absurd (true≢false e)
op_of (My.AskSelector s) e = absurd (true≢false e)
op_of (My.Arm l) e = absurd (true≢false e)
op_of _ e = (_, refl)

-- ---- of a machine

-- a task of an item, a test or a selector
pub control_performed : (old : Machine) (new : Call) (t : Task) (w : World) → new.function ≡ old.call.function → new.labels ≡ old.call.labels →
    Moves (task_of t) old.store old.call new → HasWorld old w
    → StandsFor (step (code_of old.program.now) (state_with t old w)) (record old { call = new }) w.input w.events
control_performed old new t w e l m h =
    let P = code_of old.program.now in
    let ns = names_of old.store in
    let name = old.call.function.now.name in
    let g = guards_of old.call.guards in
    let v = values_of ns old.call.values in
    let cs = frames_of ns old.waiting in record {
      world = w;
      same = ap (λ f. move P (view (items_of f) g (task_of t ∷ tasks_of old.call.tasks)) name g v cs w) h.called.0
          ∙ m P name cs w h.holds h.called.1
          ∙ ap (λ f. At f.now.name (guards_of new.guards) (tasks_of new.tasks) (values_of ns new.values) cs w) (sym e);
      has = record { holds = h.holds; cells = h.cells; answers = h.answers; linked = h.linked; called = kept; waiting = h.waiting };
      input = refl;
      events = refl;
    } where
      kept : IsCallOf old.program.now new
      kept = (
        subst (λ f. IsFunctionOf old.program.now f.now) (sym e) h.called.0,
        subst (λ f. AreLabelsOf f.now new.labels.now) (sym e) (subst (λ x. AreLabelsOf old.call.function.now x.now) (sym l) h.called.1),
      )

-- the state after a task of an expression is what its effect comes to
op_stepped : (old : Machine) (t : Task) (o : Op) (w : World) → task_of t ≡ T.Works o
    → step (code_of old.program.now) (state_with t old w)
    ≡ perform (code_of old.program.now) (effect o (values_of (names_of old.store) old.call.values) w) old.call.function.now.name
    (guards_of old.call.guards) (tasks_of old.call.tasks) (frames_of (names_of old.store) old.waiting)
op_stepped old t o w e =
    ap (λ x. step (code_of old.program.now) (At old.call.function.now.name (guards_of old.call.guards) (x ∷ tasks_of old.call.tasks)
    (values_of (names_of old.store) old.call.values) (frames_of (names_of old.store) old.waiting) w)) e

pub op_trapped : (old : Machine) (t : Task) (o : Op) (trap : Trap) (w : World) → task_of t ≡ T.Works o → IsTrapped o trap old.store old.call.values →
    HasWorld old w
    → step (code_of old.program.now) (state_with t old w) ≡ HasTrapped trap w.events
op_trapped old t o trap w e m h =
    op_stepped old t o w e
    ∙ ap (λ x. perform (code_of old.program.now) x old.call.function.now.name (guards_of old.call.guards) (tasks_of old.call.tasks)
    (frames_of (names_of old.store) old.waiting)) (m w h.holds)

pub op_performed : (old : Machine) (t : Task) (o : Op) (s : Store) (tasks : List Work) (values : List Value) (w : World) → task_of t ≡ T.Works o →
    s.names ≡ old.store.names
    → Changes o old.store s old.call.tasks tasks old.call.values values → HasWorld old w
    → StandsFor (step (code_of old.program.now) (state_with t old w))
    (record old { store = s; call = record old.call { tasks = tasks; values = values } }) w.input w.events
op_performed old t o s tasks values w e n m h =
    let P = code_of old.program.now in
    let r = m w h.holds in
    let differ = r.3 in
    let name = old.call.function.now.name in
    let g = guards_of old.call.guards in record {
      world = r.0;
      same = op_stepped old t o w e
          ∙ comes_to P (effect o (values_of (names_of old.store) old.call.values) w) name g (tasks_of old.call.tasks) (tasks_of tasks)
          (frames_of (names_of old.store) old.waiting) (values_of (names_of old.store) values) r.0 r.1
          ∙ ap (λ m. At name g (tasks_of tasks) (values_of (map (λ x. x.now) m.items) values) (frames_of (map (λ x. x.now) m.items) old.waiting) r.0) (sym n);
      has = record {
        holds = r.2;
        cells = differ.cells ∙ h.cells;
        answers = differ.answers ∙ h.answers;
        linked = h.linked;
        called = h.called;
        waiting = h.waiting;
      };
      input = differ.input;
      events = differ.events;
    }

-- ---- of the whole step

-- the tasks are these, and the step from them shows nothing
pub stepped : (old : Machine) (k : List T.Task) (w : World) (next : Next) (new : Machine) → tasks_of old.call.tasks ≡ k
    → Reaches ⊥ (step (code_of old.program.now) (At old.call.function.now.name (guards_of old.call.guards) k
    (values_of (names_of old.store) old.call.values) (frames_of (names_of old.store) old.waiting) w)) w next new
    → QuietlyReaches (IsReading (code_of old.program.now) (state_of old w)) (step (code_of old.program.now) (state_of old w)) w next new
stepped old k w next new e r =
    let P = code_of old.program.now in
    let s = λ (x : List T.Task). At old.call.function.now.name (guards_of old.call.guards) x (values_of (names_of old.store) old.call.values)
    (frames_of (names_of old.store) old.waiting) w in
    subst (λ x. QuietlyReaches (IsReading P (s x)) (step P (s x)) w next new) (sym e)
    (at_once (IsReading P (s k)) (step P (s k)) w next new (reaches_weaker ⊥ (IsReading P (s k)) (step P (s k)) w next new (λ b. absurd b) r))

-- what a machine has doesn't depend on its tasks
pub has_tasks : (old : Machine) (tasks : List Work) (w : World) → HasWorld old w → HasWorld (record old { call = record old.call { tasks = tasks } }) w
has_tasks old tasks w h = record { holds = h.holds; cells = h.cells; answers = h.answers; linked = h.linked; called = h.called; waiting = h.waiting }
