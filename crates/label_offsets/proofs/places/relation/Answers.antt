use Rattle.label_offsets.proofs.RelationLaws.{means}
use Rattle.label_offsets.proofs.places.relation.Goals as goal

pub returns-clause-steps : goal.returns-clause-steps
returns-clause-steps c =
    let p = c.args.leap.now in
    let q = c.args.land.now in
    rw (c.compare.ensures, c.as_slice.ensures.value, c.as_slice-2.ensures.value) (means p.steps p.item q.steps q.item)
