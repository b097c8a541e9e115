use Rattle.std.proofs.Common.{OnOk, sym, subst}
use Rattle.tidy_slots.specs.Counts.{list_count}
use Rattle.tidy_slots.specs.Added.{Adds}
use Rattle.tidy_slots.proofs.AddedLemmas.{none_added}
use Rattle.tidy_loops.specs.Slots.{items_in}
use Rattle.tidy_loops.proofs.counts.count_body.Goals as goal

pub returns-in-Some : goal.returns-in-Some
returns-in-Some c = subst (λ b. OnOk c.count_list.result (Adds c.args.counts.now (λ g. list_count g (items_in b)) c.count_list.new.counts))
    (sym c.in-Some.is) c.count_list.ensures

pub returns-in-None : goal.returns-in-None
returns-in-None c = subst (λ b. Adds c.args.counts.now (λ g. list_count g (items_in b)) c.args.counts.now) (sym c.in-None.is) (none_added c.args.counts.now)
