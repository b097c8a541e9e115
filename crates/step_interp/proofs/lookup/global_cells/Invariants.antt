use Rattle.std.proofs.Common.{◌≡◌, ◌≤◌, ◌+◌, ◌*◌, drop}
use Rattle.jump_meaning.specs.Code.{global_cells}
use Rattle.step_interp.proofs.lookup.global_cells.Given as goal

abbrev pub invariant-loop-top : goal.invariant-loop-top
invariant-loop-top l = record {
  sum : l.cells + global_cells (drop l.top-index l.tops) ≡ global_cells l.tops;
  bound : l.cells ≤ 4294967295 * l.top-index;
}
