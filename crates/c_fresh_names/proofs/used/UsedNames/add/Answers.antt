use Rattle.std.proofs.Common.{ap, ◌∙◌}
use Rattle.std.proofs.lemmas.Result.{on_ok_weaker}
use Rattle.c_copies.specs.Names.{with_names}
use Rattle.c_fresh_names.proofs.NameSets.{more_own}
use Rattle.c_fresh_names.proofs.used.UsedNames.add.Goals as goal

pub returns-clause-ok : goal.returns-clause-ok
returns-clause-ok c =
    on_ok_weaker c.add.result (λ h. ap (with_names c.args.self.now.file) h ∙ more_own c.args.self.now.file c.args.self.now.own c.args.name.now) c.add.ensures.ok
