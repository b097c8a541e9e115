use Rattle.std.proofs.Common.{ap, ◌∙◌}
use Rattle.std.specs.BTreeMap.{get_by}
use Rattle.c_types.specs.Words.{name_cmp}
use Rattle.c_kinds.specs.Scopes.{found}
use Rattle.c_kinds.proofs.Lookups.{found_in}
use Rattle.c_statements.proofs.label_numbers.LabelNumbers.get.Goals as goal

pub returns : goal.returns
returns c = c.get.ensures.value ∙ ap (λ k. get_by (name_cmp k) c.self.inside.numbers) c.key_of.ensures
    ∙ found_in c.args.name.now c.self.inside.numbers.entries ∙ ap (found c.args.name.now) c.self.view_is
