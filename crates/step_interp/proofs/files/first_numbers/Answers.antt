use Rattle.std.proofs.Common.{to_z, of_z, [], ◌∷◌, ◌+◌, length, sym, ap, ◌∙◌, subst}
use Rattle.std.specs.Int.{w128}
use Rattle.std.proofs.lemmas.Int.{to_z-of_z}
use Rattle.std.proofs.lemmas.List.{length-append}
use Rattle.step_interp.specs.Files.{AreFirstCells, first_cell}
use Rattle.step_interp.proofs.FileLemmas.{one_number_more}
use Rattle.step_interp.proofs.files.first_numbers.Goals as goal

pub loop-at-preserved : goal.loop-at-preserved
loop-at-preserved c =
    let z = to_z w128 (of_z w128 c.first_number.result) in
    record {
      count = ap length c.in_ok-push.ensures.ok ∙ length-append c.loop-at.cells (z ∷ []) ∙ ap (λ n. n + 1) c.loop-at.invariant.count;
      cells = subst (AreFirstCells c.args.kind c.args.initialisers.now) (sym c.in_ok-push.ensures.ok)
          (one_number_more c.loop-at.cells z (first_cell c.args.kind c.args.initialisers.now) c.loop-at.invariant.cells
          (to_z-of_z w128 c.first_number.result (record { sfits = c.first_number.type_inv }) ∙ c.first_number.ensures ∙
          ap (first_cell c.args.kind c.args.initialisers.now) (sym c.loop-at.invariant.count)));
    }
