use Rattle.std.proofs.Common.{sym, ap, ◌∙◌}
use Rattle.c_tree.specs.Trees.{trees_of, join}
use Rattle.c_tree.proofs.TreeLaws.{join-nil}
use Rattle.flat_laws.specs.Pieces.{mark_of}
use Rattle.flat_items.proofs.pieces.add_mark.Goals as goal
use Rattle.flat_items.specs.Plans.{aim_of}

pub returns-in-Stays : goal.returns-in-Stays
returns-in-Stays c = sym (ap (λ z. join (trees_of c.args.out.now) (mark_of (aim_of z))) c.in-Stays.is ∙ join-nil (trees_of c.args.out.now))

pub returns-in-Absent : goal.returns-in-Absent
returns-in-Absent c = sym (ap (λ z. join (trees_of c.args.out.now) (mark_of (aim_of z))) c.in-Absent.is ∙ join-nil (trees_of c.args.out.now))
