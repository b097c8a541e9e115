use Rattle.std.proofs.Common.{ap, ◌∙◌}
use Rattle.c_scopes.specs.FunctionNames.{with_function}
use Rattle.c_scopes.proofs.function_names.FunctionNames.add.Goals as goal

pub returns : goal.returns
returns c = c.in_ok-insert.ensures.keys ∙ ap (λ k. with_function k c.self.inside.names.keys) c.key_of.ensures
    ∙ ap (with_function c.args.name.now) c.self.view_is
