use Rattle.std.proofs.Common.{pos, sym, ap, ◌∙◌, subst}
use Rattle.std.specs.Int.{w128}
use Rattle.std.proofs.lemmas.Int.{to_z-of_z}
use Rattle.c_types.specs.Numbers.{arith_result}
use Rattle.jump_meaning.specs.Operations.{count_mark}
use Rattle.step_memory.specs.Stores.{StoresIn}
use Rattle.step_ahead.proofs.StoredLemmas.{counting, match_then}
use Rattle.step_ahead.proofs.storing.counted.Goals as goal

pub returns-clause-done : goal.returns-clause-done
returns-clause-done c =
    let f = c.in-Some.found in
    let y = c.in-Some-next.number in
    let next = ap (λ k. arith_result (count_mark c.args.up) k c.in-Ok.old (pos 1)) (sym c.promote.ensures)
    ∙ ap (λ z. arith_result (count_mark c.args.up) c.promote.result z (pos 1)) (sym (to_z-of_z w128 c.in-Ok.old c.in-Ok.ensures.fits)) ∙
    c.in-Some-next.ensures.next in
    match_then _ c.stored.result c.stored.ensures.done
    (λ n d. (
      d.1,
      λ after h. counting c.args.store.now c.stored.new.store c.args.e.now c.args.place.now c.args.up after f c.in-Ok.old y c.in-Ok-kind.kind n h
          c.in-Some.ensures c.in-Ok.ensures.ok c.in-Ok-kind.ensures.ok next
          (subst (λ z. StoresIn f.owner f.at z c.args.store.now c.stored.new.store) (to_z-of_z w128 y c.in-Some-next.ensures.fits) d.2) d.0,
    ))
