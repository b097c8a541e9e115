-- Several steps that show nothing, in a run.
use Rattle.std.proofs.Common.{ℕ, ◌+◌, ◌≤◌, ◌≡◌, List, map, Option, Some, refl, sym, ap, ◌∙◌}
use Rattle.rg_ports.specs.Written.{Written, more}
use Rattle.jump_meaning.specs.Code.{code_of}
use Rattle.jump_meaning.specs.Step.{At}
use Rattle.jump_meaning.specs.World.{World}
use Rattle.jump_meaning.specs.Runs.{run}
use Rattle.jump_meaning.proofs.RunFacts.{run_add}
use Rattle.step_memory.specs.declared.store.Store.{Store}
use Rattle.step_memory.specs.declared.value.Value.{Value}
use Rattle.step_memory.specs.Stores.{names_of}
use Rattle.step_memory.specs.Values.{values_of}
use Rattle.step_tasks.specs.declared.work.Work.{Work}
use Rattle.step_tasks.specs.Controls.{guards_of}
use Rattle.step_tasks.specs.Tasks.{tasks_of}
use Rattle.step_ahead.specs.Ahead.{GoesOn}
use Rattle.step_interp.specs.declared.machine.Machine.{Machine}
use Rattle.step_interp.specs.Machines.{frames_of, state_of}
use Rattle.step_interp.specs.Shown.{bytes_in}
use Rattle.step_interp.specs.declared.runs.RunAnswer.TheVariants.{Memory}
use Rattle.step_interp.specs.Answers.{Beginning, after, Answers}
use Rattle.step_interp.specs.Followed.{Follows}
use Rattle.step_interp.specs.Skipped.{Skips}
use Rattle.step_interp.proofs.RunLemmas.{stands_at}

pub skipped : (old : Machine) (n : ℕ) (s : Store) (tasks : List Work) (values : List Value) → s.names ≡ old.store.names →
    GoesOn old.store s n old.call.tasks tasks old.call.values values
    → Skips n old (record old { store = s; call = record old.call { tasks = tasks; values = values } })
skipped old n s tasks values e r w h =
    let ns = names_of old.store in
    let name = old.call.function.now.name in
    let g = guards_of old.call.guards in
    let x = r.comes (code_of old.program.now) name g (frames_of ns old.waiting) w h.holds in
    let now = record w { variables = x.0 } in record {
      world = now;
      same = x.1 ∙ ap (λ m. At name g (tasks_of tasks) (values_of (map (λ y. y.now) m.items) values)
          (frames_of (map (λ y. y.now) m.items) old.waiting) now) (sym e);
      has = record { holds = x.2; cells = h.cells; answers = h.answers; linked = h.linked; called = h.called; waiting = h.waiting };
      input = refl;
      events = refl;
    }

-- so many steps further
pub skipped_to : (r : Beginning) (d n : ℕ) (m k : Machine) (written : Written) (l : Option (List ℕ)) → r.code ≡ code_of m.program.now →
    Follows (after r d) r.told m written l → Skips n m k
    → Follows (after r (d + n)) r.told k written l
skipped_to r d n m k written l e f q =
    let x = q f.world f.has in record {
      world = x.world;
      same = run_add r.code d n r.first ∙ ap (run r.code n) f.same ∙ ap (λ P. run P n (state_of m f.world)) e ∙ x.same;
      has = x.has;
      ports = record { output = f.ports.output ∙ ap (λ es. more r.told (bytes_in es)) (sym x.events); input = f.ports.input ∙ ap Some (sym x.input) };
    }

-- a run that stops there for want of memory
pub stopped : (r : Beginning) (d budget : ℕ) (m : Machine) (written : Written) (l : Option (List ℕ)) → d ≤ budget →
    Follows (after r d) r.told m written l → Answers r budget Memory written l
stopped r d budget m written l h f = (d, record { within = h; stands = stands_at r d m f.world written l f.same f.ports })
