use Rattle.std.proofs.Common.{◌≤◌, sym, ap, subst, ◌∙◌}
use Rattle.c_tree.specs.Trees.{Continue}
use Rattle.tidy_laws.specs.Changes.{tailed}
use Rattle.tidy_slots.specs.Counts.{list_count}
use Rattle.tidy_loops.proofs.Read.{front_left}
use Rattle.tidy_loops.proofs.making.tailed_front.Goals as goal

pub tailed-requires : goal.tailed-requires
tailed-requires c = subst (λ a. list_count c.args.slot a ≤ c.args.left)
    (sym (front_left c.args.list.now c.pop.new.self c.pop.result c.pop.ensures)) c.requires

pub returns : goal.returns
returns c = c.in_ok-tailed.ensures.made ∙ ap (tailed c.args.slot Continue) (front_left c.args.list.now c.pop.new.self c.pop.result c.pop.ensures)
