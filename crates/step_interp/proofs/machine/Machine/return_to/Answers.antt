use Rattle.std.proofs.Common.{suc, not, ◌&&◌, arith, ◌∷◌, cond, refl, ap, sym, ◌∙◌}
use Rattle.c_types.specs.declared.trap.Trap.{Trap}
use Rattle.jump_meaning.specs.Code.{function_tree}
use Rattle.jump_meaning.specs.Step.{At, is_dropped, settle}
use Rattle.jump_meaning.specs.World.{Gives, Traps, pop}
use Rattle.step_memory.specs.Stores.{names_of}
use Rattle.step_memory.specs.Values.{value_of, values_of}
use Rattle.step_tasks.specs.Controls.{guards_of}
use Rattle.step_tasks.specs.Tasks.{tasks_of}
use Rattle.step_interp.specs.Machines.{frames_of}
use Rattle.step_interp.proofs.machine.Machine.return_to.Goals as goal

pub returns-clause-ok : goal.returns-clause-ok
returns-clause-ok c w h =
    let v = value_of (names_of c.args.self.now.store) c.args.value in
    let f = (function_tree c.args.self.now.call.function.now) in
    record {
      world = pop f w;
      same = ap (λ b. settle (cond b (Traps Trap.NoValue w) (Gives v (pop f w))) c.args.caller.function.now.name (guards_of c.args.caller.guards)
          (tasks_of c.args.caller.tasks) (values_of (names_of c.args.self.now.store) c.args.caller.values)
          (frames_of (names_of c.args.self.now.store) c.args.self.now.waiting))
          (ap (λ b. b && not (is_dropped (tasks_of c.args.caller.tasks))) (sym (c.lacks.ensures (names_of c.args.self.now.store))) ∙
          ap (λ b. c.lacks.result && not b) (sym c.drops_next-dropped.ensures.drops) ∙ sym c.is_refused.ensures ∙ c.if-is_refused.false)
          ∙ ap (λ k. At c.args.caller.function.now.name (guards_of c.args.caller.guards) k
          (v ∷ values_of (names_of c.args.self.now.store) c.args.caller.values)
          (frames_of (names_of c.args.self.now.store) c.args.self.now.waiting) (pop f w)) (sym c.drops_next-dropped.ensures.tasks)
          ∙ ap (λ vs. At c.args.caller.function.now.name (guards_of c.args.caller.guards) (tasks_of c.drops_next-dropped.new.tasks)
          (values_of (names_of c.args.self.now.store) vs) (frames_of (names_of c.args.self.now.store) c.args.self.now.waiting) (pop f w))
          (sym c.in_ok-push.ensures.ok)
          ∙ ap (λ s. At c.args.caller.function.now.name (guards_of c.args.caller.guards) (tasks_of c.drops_next-dropped.new.tasks)
          (values_of s c.push.new.self) (frames_of s c.args.self.now.waiting) (pop f w))
          (ap (λ n. names_of (record c.args.self.now.store { names = n })) (sym c.leave.ensures.names));
      has = record {
        holds = c.leave.ensures.left f w h.holds;
        cells = omega (arith, c.saturating_sub-self.ensures, h.cells, c.cells_of.ensures);
        answers = h.answers;
        linked = h.linked;
        called = h.waiting 0 c.args.caller (omega arith);
        waiting = λ k d l. h.waiting (suc k) d (omega arith);
      };
      input = refl;
      events = refl;
    }
