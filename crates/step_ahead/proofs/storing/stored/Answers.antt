use Rattle.std.proofs.Common.{refl, subst}
use Rattle.std.specs.Int.{w128}
use Rattle.std.proofs.lemmas.Int.{to_z-of_z}
use Rattle.step_memory.specs.Stores.{StoresIn}
use Rattle.step_ahead.proofs.storing.stored.Goals as goal

pub returns-in-Ok-clause-done : goal.returns-in-Ok-clause-done
returns-in-Ok-clause-done c = (
  refl,
  c.if-steps-most.false,
  subst (λ z. StoresIn c.args.found.owner c.args.found.at z c.args.store.now c.set.new.self)
      (to_z-of_z w128 c.args.number c.ranges.number) c.in-Ok.ensures.ok,
)
