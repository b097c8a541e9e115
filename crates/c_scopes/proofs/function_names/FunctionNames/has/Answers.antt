use Rattle.std.proofs.Common.{ap, ◌∙◌}
use Rattle.std.specs.List.{list_any}
use Rattle.std.specs.BTreeMap.{is_at}
use Rattle.c_types.specs.Words.{name_cmp}
use Rattle.c_scopes.specs.FunctionNames.{has_function}
use Rattle.c_scopes.proofs.Names.{has_in}
use Rattle.c_scopes.proofs.function_names.FunctionNames.has.Goals as goal

pub returns : goal.returns
returns c = c.contains.ensures ∙ ap (λ k. list_any (is_at (name_cmp k)) c.self.inside.names.keys) c.key_of.ensures
    ∙ has_in c.args.name.now c.self.inside.names.keys ∙ ap (λ s. has_function s c.args.name.now) c.self.view_is
