use Rattle.std.proofs.Common.{arith}
use Rattle.c_fresh_names.proofs.NameSets.{no_more}
use Rattle.c_fresh_names.proofs.used.UsedNames.most.Goals as goal

pub returns-in-Some-clause-enough : goal.returns-in-Some-clause-enough
returns-in-Some-clause-enough c = omega (arith, no_more c.args.self.now.file c.args.self.now.own, c.len.ensures.value, c.len-2.ensures.value, c.in-Some.ensures)
