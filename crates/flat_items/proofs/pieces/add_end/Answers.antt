use Rattle.std.proofs.Common.{sym, ap, ◌∙◌}
use Rattle.c_tree.specs.Trees.{trees_of, join}
use Rattle.c_tree.proofs.TreeLaws.{join-nil}
use Rattle.flat_items.proofs.pieces.add_end.Goals as goal
use Rattle.flat_items.specs.Plans.{aim_of}
use Rattle.flat_laws.specs.FlatForm.{end_goto}

pub returns-else-ends : goal.returns-else-ends
returns-else-ends c = sym (ap (λ z. join (trees_of c.args.out.now) (end_goto z (aim_of c.args.aim))) c.if-ends.false ∙ join-nil (trees_of c.args.out.now))
