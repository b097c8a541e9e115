use Rattle.std.proofs.Common.{sym}
use Rattle.std.specs.Int.{w128}
use Rattle.std.proofs.lemmas.Int.{to_z-of_z}
use Rattle.step_ahead.proofs.StoredLemmas.{assignment, match_then}
use Rattle.step_ahead.proofs.storing.assigned.Goals as goal

pub returns-clause-done : goal.returns-clause-done
returns-clause-done c =
    match_then _ c.stored.result c.stored.ensures.done
    (λ n d. (
      d.1,
      λ h. assignment c.args.store.now c.stored.new.store c.args.e.now c.args.place.now c.args.value.now c.in-Some-found.found c.in-Some.x _ n h
          c.in-Some-found.ensures c.in-Some.ensures.ok
          (sym (to_z-of_z w128 c.in-Some.x.number c.in-Some.ensures.fits)) d.2 d.0,
    ))
