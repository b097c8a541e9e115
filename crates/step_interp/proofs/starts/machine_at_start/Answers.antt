use Rattle.std.proofs.Common.{[], map, refl, subst}
use Rattle.jump_meaning.specs.Code.{code_of, function_tree}
use Rattle.jump_meaning.specs.Values.{Integer}
use Rattle.jump_meaning.specs.World.{slot_at_start, world_at_start}
use Rattle.step_memory.specs.Rooms.{AreSlots}
use Rattle.step_memory.specs.Stores.{names_of}
use Rattle.step_interp.proofs.starts.machine_at_start.Goals as goal

pub returns : goal.returns
returns c =
    let f = function_tree c.args.routine.now.function.now in
    let ns = names_of c.in_ok-store.store in
    record {
      program = refl;
      functions = refl;
      cells = refl;
      function = c.in_ok-call.ensures.function;
      labels = c.in_ok-call.ensures.labels;
      guards = c.in_ok-call.ensures.guards;
      tasks = c.in_ok-call.ensures.tasks;
      values = c.in_ok-call.ensures.values;
      waiting = c.new-2.ensures;
      holds = λ input. c.in_ok-enter.ensures.ok f (map Integer c.args.arguments.now)
          (subst (λ vs. AreSlots ns c.in_ok-rooms.rooms (slot_at_start f vs)) (c.in_ok-values.ensures ns) (c.in_ok-rooms.ensures.slots ns))
          (world_at_start (code_of c.args.program.now) input []) (c.in_ok-store.ensures input);
    }
