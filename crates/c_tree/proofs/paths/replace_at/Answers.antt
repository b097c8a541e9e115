use Rattle.c_tree.proofs.ExchangeLemmas.{exchanged}
use Rattle.c_tree.proofs.paths.replace_at.Goals as goal

pub returns-clause-exchanged : goal.returns-clause-exchanged
returns-clause-exchanged c =
    exchanged c.args.list.now c.args.steps.now c.args.new c.exchange.result c.exchange.new.list c.exchange.ensures.taken c.exchange.ensures.put
