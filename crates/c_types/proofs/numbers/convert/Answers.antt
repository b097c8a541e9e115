use Rattle.std.proofs.Common.{sym, subst, ◌∙◌}
use Rattle.std.specs.Int.{w128}
use Rattle.std.proofs.lemmas.Int.{to_z-of_z}
use Rattle.c_types.specs.Numbers.{IsInRange}
use Rattle.c_types.proofs.Residues.{converted-in_kind}
use Rattle.c_types.proofs.numbers.convert.Goals as goal

pub returns-then-contains-clause-value : goal.returns-then-contains-clause-value
returns-then-contains-clause-value c =
    to_z-of_z w128 c.args.value c.ranges.value ∙ sym (converted-in_kind c.args.kind c.args.value
    (subst (IsInRange c.args.kind) (to_z-of_z w128 c.args.value c.ranges.value) (c.contains.ensures.fact.0 c.if-contains.true)))
