use Rattle.std.proofs.Common.{ap, ◌∙◌}
use Rattle.std.specs.BTreeSet.{contains}
use Rattle.std.specs.Int.{w128}
use Rattle.std.specs.Ordering.{int_cmp}
use Rattle.std.proofs.lemmas.Int.{to_z-of_z}
use Rattle.c_statements.specs.Cases.{is_among}
use Rattle.c_statements.proofs.cases.Numbers.has.Goals as goal

pub returns : goal.returns
returns c =
    c.contains.ensures ∙ ap (contains int_cmp c.self.inside.numbers) (to_z-of_z w128 c.args.number c.ranges.number) ∙ ap (is_among c.args.number) c.self.view_is
