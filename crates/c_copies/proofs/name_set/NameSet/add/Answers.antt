use Rattle.std.proofs.Common.{map, ap, ◌∙◌}
use Rattle.std.specs.String.{string_bytes}
use Rattle.c_copies.proofs.SetLemmas.{map-insert_key}
use Rattle.c_copies.proofs.name_set.NameSet.add.Goals as goal

pub returns-clause-ok : goal.returns-clause-ok
returns-clause-ok c =
    let e = ap (map string_bytes) c.in_ok-insert.ensures.keys ∙ map-insert_key c.self.inside.names.keys c.in_ok-name.name in
    cc (e, c.in_ok-name.ensures.ok, c.self.view_is)
