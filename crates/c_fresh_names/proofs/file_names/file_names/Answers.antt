use Rattle.std.proofs.Common.{◌≡◌, [], ◌++◌}
use Rattle.c_types.specs.Words.{known_functions}
use Rattle.c_copies.specs.Names.{with_names}
use Rattle.c_copies.proofs.NameLemmas.{then_names}
use Rattle.c_fresh_names.proofs.file_names.file_names.Goals as goal

pub returns : goal.returns
returns c =
    let two = then_names c.new-used.result c.add_given.new.used c.add_known.new.used c.args.names.now known_functions c.in_ok-add_given.ensures
    c.in_ok-add_known.ensures in
    let same : c.add_known.new.used ≡ with_names [] (c.args.names.now ++ known_functions) = cc (two, c.new-used.ensures) in
    same
