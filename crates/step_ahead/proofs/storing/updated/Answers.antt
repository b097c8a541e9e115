use Rattle.std.proofs.Common.{◌∙◌, subst}
use Rattle.std.specs.Int.{w128}
use Rattle.std.proofs.lemmas.Int.{to_z-of_z}
use Rattle.c_tree.specs.declared.tree.BinaryOp.TheVariants.{Arith}
use Rattle.c_tree.specs.declared.tree.Expression.{out-Expression}
use Rattle.c_tree.specs.Operators.{binary_result}
use Rattle.jump_meaning.specs.Operations.{operand_kind}
use Rattle.step_memory.specs.Stores.{StoresIn}
use Rattle.step_ahead.proofs.StoredLemmas.{update, match_then, result_at}
use Rattle.step_ahead.proofs.storing.updated.Goals as goal

pub returns-clause-done : goal.returns-clause-done
returns-clause-done c =
    let f = c.in-Some.found in
    let x = c.in-Some-computed.x in
    let y = c.in-Some-after.y in
    let same_old = to_z-of_z w128 c.in-Ok.old c.in-Ok.ensures.fits in
    let same_x = to_z-of_z w128 x.number c.in-Some-computed.ensures.fits in
    let result = result_at (binary_result (Arith c.args.op)) (operand_kind (out-Expression c.args.e.now).kind)
    _ (operand_kind (out-Expression c.args.value.now).kind) _ c.in-Ok.old _ x.number _ c.binary_result-number.result y.number
    c.operand_kind-j.ensures c.operand_kind-k.ensures same_old same_x c.binary_result-number.ensures c.in-Some-after.ensures.ok.0 in
    match_then _ c.stored.result c.stored.ensures.done
    (λ n d. (
      d.1,
      λ h. update c.args.store.now c.stored.new.store c.args.e.now c.args.op c.args.place.now c.args.value.now f x c.in-Ok.old y.number n h
          c.in-Some.ensures c.in-Ok.ensures.ok c.in-Some-computed.ensures.ok result
          (subst (λ z. StoresIn f.owner f.at z c.args.store.now c.stored.new.store) (to_z-of_z w128 y.number c.in-Some-after.ensures.fits) d.2)
          (d.0 ∙ c.in-Some-after.ensures.ok.1),
    ))
