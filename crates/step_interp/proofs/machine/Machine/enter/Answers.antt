use Rattle.std.proofs.Common.{◌≡◌, ◌≤◌, ◌+◌, ◌∷◌, suc, nat_lt, cond, All, Ok, Err, refl, ap, sym, ◌∙◌, subst, arith, le-ltb}
use Rattle.c_types.specs.declared.trap.Trap.{Trap}
use Rattle.jump_meaning.specs.Code.{function_tree, cells_of}
use Rattle.jump_meaning.specs.Step.{begin_call}
use Rattle.jump_meaning.specs.World.{most_calls, most_cells, enter_call}
use Rattle.step_memory.specs.Stores.{names_of}
use Rattle.step_memory.specs.Values.{values_of}
use Rattle.step_tasks.specs.declared.call.Call.{Call}
use Rattle.step_tasks.specs.Controls.{body_of}
use Rattle.step_tasks.specs.Tasks.{tasks_of}
use Rattle.step_tasks.specs.Labels.{AreLabelsOf}
use Rattle.step_interp.specs.Machines.{IsFunctionOf, IsCallOf, frames_of}
use Rattle.step_interp.proofs.EnterLemmas.{state_at, all_more}
use Rattle.step_interp.proofs.machine.Machine.enter.Goals as goal

pub returns-clause-ok : goal.returns-clause-ok
returns-clause-ok c k a w h =
    let s = c.args.self.now in
    let ns = names_of s.store in
    let f = function_tree c.args.function.now in
    let vs = values_of ns c.args.arguments in
    let fs = frames_of ns (s.call ∷ s.waiting) in
    let few : suc w.calls ≤ most_calls = omega (arith, h.holds.newest, c.if-self-ge-MOST_CALLS.false) in
    let fits : w.cells + cells_of f.slots ≤ most_cells = omega
    (arith, c.saturating_add-cells.ensures, c.cells_of.ensures, h.cells, c.if-cells-gt-MOST_CELLS.false) in
    let n = record s { store = c.enter.new.self; call = c.replace-caller.new.dest; waiting = c.push.new.self; cells = c.saturating_add-cells.result } in
    let made = c.replace-caller.ensures.after in
    let is_call = λ (x : Call). IsCallOf s.program.now x in
    let frames : frames_of (names_of c.enter.new.self) c.push.new.self ≡ fs =
    ap (λ cs. frames_of (names_of c.enter.new.self) cs) c.in_ok-push.ensures.ok
    ∙ ap (λ m. frames_of (names_of (record s.store { names = m })) (c.replace-caller.result ∷ s.waiting)) c.in_ok-enter.ensures.names
    ∙ ap (λ x. frames_of ns (x ∷ s.waiting)) c.replace-caller.ensures.value in
    record {
      world = enter_call f vs w;
      same = ap (λ b. begin_call c.args.function.now.name (body_of c.args.function.now)
          (cond b (Err Trap.Calls) (cond (nat_lt most_cells (w.cells + cells_of f.slots)) (Err Trap.Cells) (Ok (enter_call f vs w)))) fs w)
          (le-ltb most_calls (suc w.calls) few)
          ∙ ap (λ b. begin_call c.args.function.now.name (body_of c.args.function.now) (cond b (Err Trap.Cells) (Ok (enter_call f vs w))) fs w)
          (le-ltb most_cells (w.cells + cells_of f.slots) fits)
          ∙ state_at n (enter_call f vs w) c.args.function.now.name (body_of c.args.function.now) fs
          (ap (λ x. x.function.now.name) made ∙ ap (λ g. g.name) c.in_ok-call.ensures.function) (ap (λ x. x.guards) made ∙ c.in_ok-call.ensures.guards)
          (ap (λ x. tasks_of x.tasks) made ∙ c.in_ok-call.ensures.tasks) (ap (λ x. x.values) made ∙ c.in_ok-call.ensures.values) frames;
      has = record {
        holds = c.in_ok-enter.ensures.ok f vs (c.in_ok-rooms.ensures.slots ns) w h.holds;
        cells = omega (arith, c.saturating_add-cells.ensures, c.cells_of.ensures, h.cells, c.if-cells-gt-MOST_CELLS.false);
        answers = h.answers;
        linked = h.linked;
        called = subst is_call (sym made) (
          subst (IsFunctionOf s.program.now) (sym c.in_ok-call.ensures.function) k,
          subst (λ f. AreLabelsOf f c.in_ok-call.call.labels.now) (sym c.in_ok-call.ensures.function)
              (subst (AreLabelsOf c.args.function.now) (sym c.in_ok-call.ensures.labels) a),
        );
        waiting = subst (λ cs. All is_call cs) (sym c.in_ok-push.ensures.ok)
            (all_more is_call c.replace-caller.result s.waiting (subst is_call (sym c.replace-caller.ensures.value) h.called) h.waiting);
      };
      input = refl;
      events = refl;
    }
