use Rattle.std.proofs.Common.{ap, ◌∙◌}
use Rattle.c_kinds.specs.Scopes.{with_entry}
use Rattle.c_statements.proofs.label_numbers.LabelNumbers.insert.Goals as goal

pub returns : goal.returns
returns c = c.in_ok-insert.ensures.entries ∙ ap (λ k. with_entry k c.args.number c.self.inside.numbers.entries) c.key_of.ensures
    ∙ ap (with_entry c.args.name.now c.args.number) c.self.view_is
