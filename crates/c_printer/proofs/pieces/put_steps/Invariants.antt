use Rattle.std.proofs.Common.{ℕ, ◌-◌, ◌*◌, List, ◌++◌, replicate}
use Rattle.rg_ports.specs.Writing.{Start, Stands}
use Rattle.c_printer.proofs.pieces.put_steps.Given as goal

abbrev pub invariant-loop : goal.invariant-loop
invariant-loop g l =
    (start : Start) (whole rest : List ℕ)
    → Stands start whole (g.W.Output.progress l.fn.out) (replicate (4 * l.depth) 32 ++ rest)
    → Stands start whole (g.W.Output.progress l.out) (replicate (4 * (l.depth - l.counter)) 32 ++ rest)
