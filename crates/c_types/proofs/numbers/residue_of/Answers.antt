use Rattle.std.proofs.Common.{arith}
use Rattle.std.proofs.lemmas.Grind.{common_steps}
use Rattle.c_types.specs.Numbers.{converted}
use Rattle.c_types.proofs.Residues.{in_range_if_converted}
use Rattle.c_types.proofs.numbers.residue_of.Goals as goal

pub returns-else-rest-greatest-clause-in_range : goal.returns-else-rest-greatest-clause-in_range
unfolding converted
returns-else-rest-greatest-clause-in_range c = in_range_if_converted c.args.kind c.args.value _ (grind (arith, common_steps))
