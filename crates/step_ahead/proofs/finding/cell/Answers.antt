use Rattle.std.proofs.Common.{◌≡◌, true, sym, ◌∙◌, subst, arith}
use Rattle.std.specs.Int.{w128}
use Rattle.std.proofs.lemmas.Int.{to_z-of_z}
use Rattle.jump_meaning.specs.Effects.{Computes}
use Rattle.jump_meaning.specs.Values.{Integer}
use Rattle.step_ahead.specs.Taken.{Leaves}
use Rattle.step_ahead.proofs.ReadLemmas.{cell_at, finds_cell}
use Rattle.step_ahead.proofs.finding.cell.Goals as goal

pub returns-in-Some : goal.returns-in-Some
returns-in-Some c f e l =
    let same = to_z-of_z w128 c.args.index.number f in
    let t : c.has_cell.result ≡ true = grind (arith, c.if-not-has_cell.false) in
    let there = cell_at _ c.in-Ok-count.count (sym c.has_cell.ensures ∙ t) in
    finds_cell c.args.store.now c.args.home.now e c.in-Ok.owner _ c.in-Ok-count.count c.args.index.steps c.in-Some.steps c.in-Ok.ensures
    c.in-Ok-count.ensures.ok there.1
    (subst (λ z. Leaves c.args.store.now (Computes e) (Integer z) c.args.index.steps) (sym (there.0 ∙ same)) l) (omega (arith, c.in-Some.ensures))
