use Rattle.std.proofs.Common.{subst}
use Rattle.c_tree.specs.Views.{tree_at}
use Rattle.break_recovery.specs.Exits.{HoldsAtMost}
use Rattle.break_recovery.proofs.here.changed_loop.Goals as goal

pub broken-requires : goal.broken-requires
broken-requires c = (subst (λ r. HoldsAtMost r c.args.exits (tree_at c.args.item.now)) c.in-Break.is c.requires).1

pub continued-requires : goal.continued-requires
continued-requires c = (subst (λ r. HoldsAtMost r c.args.exits (tree_at c.args.item.now)) c.in-Continue.is c.requires).1.0
