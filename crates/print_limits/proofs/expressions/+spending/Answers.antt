use Rattle.std.proofs.Common.{sym, subst}
use Rattle.print_limits.specs.Views.{Spends}
use Rattle.print_limits.proofs.Layers.{counted-is}
use Rattle.print_limits.proofs.expressions.+spending.Goals as goal

pub spend_expression-returns : goal.spend_expression-returns
spend_expression-returns t c = subst (λ n. Spends n c.args.room c.spend_node.result) (sym (counted-is c.args.e.now)) c.spend_node.ensures
