use Rattle.std.proofs.Common.{◌≡◌, ◌+◌, ◌≤◌, arith, le-ltb}
use Rattle.jump_meaning.specs.Code.{cells_of, global_cells}
use Rattle.jump_meaning.specs.World.{most_cells}
use Rattle.step_interp.proofs.StartLemmas.{begins}
use Rattle.step_interp.proofs.starts.start.Goals as goal

pub returns : goal.returns
returns c =
    let p = c.args.program.now in
    let t = c.args.functions.now in
    let f = c.in-Some.routine.now.function.now in
    let ls = c.in-Some.routine.now.labels in
    let cells = c.saturating_add-cells.result in
    let b = c.in_ok-machine.ensures in
    let few : cells ≤ most_cells = omega (arith, c.if-cells-gt-MOST_CELLS.false) in
    let sum : cells ≡ global_cells p.tops + cells_of f.slots = omega
    (arith, c.saturating_add-cells.ensures, c.global_cells.ensures, c.cells_of.ensures, c.if-cells-gt-MOST_CELLS.false) in
    record {
      ok = λ a. let r = c.in-Some.ensures p a in (
        b.program,
        λ input. begins p t c.args.name.now f ls c.args.arguments.now cells
            c.in_ok-machine.machine input r.0 r.1.named sum (le-ltb most_cells cells few) a r.1.labels b,
      );
    }
