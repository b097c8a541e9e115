use Rattle.std.proofs.Common.{◌≡◌, ℕ, suc, ◌+◌, ◌-◌, ◌*◌, ◌<◌, List, ◌∷◌, ◌++◌, replicate, ap, subst, arith}
use Rattle.rg_ports.specs.Writing.{Stands}
use Rattle.c_printer.proofs.pieces.put_steps.Goals as goal

four_spaces : (depth i : ℕ) (rest : List ℕ) → i < depth → replicate (4 * (depth - i)) 32 ++
    rest ≡ 32 ∷ 32 ∷ 32 ∷ 32 ∷ (replicate (4 * (depth - (i + 1))) 32 ++ rest)
four_spaces depth i rest h =
    let e : 4 * (depth - i) ≡ suc (suc (suc (suc (4 * (depth - (i + 1)))))) = omega arith in
    ap (λ n. replicate n 32 ++ rest) e

pub loop-preserved : goal.loop-preserved
loop-preserved g c start whole rest h =
    c.put.ensures start whole (replicate (4 * (c.args.depth - (c.loop.counter + 1))) 32 ++ rest)
    (subst (λ xs. Stands start whole (g.W.Output.progress c.loop.out) xs) (four_spaces c.args.depth c.loop.counter rest (omega arith))
    (c.loop.invariant start whole rest h))
