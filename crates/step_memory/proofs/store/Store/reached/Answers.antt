use Rattle.std.proofs.lemmas.Result.{IfOk-weaker}
use Rattle.c_tree.specs.declared.tree.Home.{Home}
use Rattle.step_memory.specs.Stores.{Names, Reaches}
use Rattle.step_memory.proofs.store.Store.reached.Goals as goal

pub returns-in-Some : goal.returns-in-Some
returns-in-Some c = c.holder.ensures c.args.self.now c.args.home.now c.in_ok-owner.ensures c.in-Some.ensures

pub returns-in-None : goal.returns-in-None
returns-in-None c =
    IfOk-weaker c.holder_behind.result (λ o. (h : Home) → Names c.args.self.now h c.in_ok-owner.owner → Reaches c.args.self.now h o)
    (λ o. Reaches c.args.self.now c.args.home.now o)
    (λ o k. k c.args.home.now c.in_ok-owner.ensures) c.holder_behind.ensures
