use Rattle.c_copies.proofs.SetLemmas.{list_any-has_name}
use Rattle.c_copies.proofs.name_set.NameSet.contains.Goals as goal

pub returns : goal.returns
returns c = let e = list_any-has_name c.args.name.now c.self.inside.names.keys in cc (e, c.contains.ensures, c.self.view_is)
