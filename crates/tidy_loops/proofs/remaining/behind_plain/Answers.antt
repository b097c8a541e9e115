use Rattle.std.proofs.Common.{refl}
use Rattle.c_tree.specs.Views.{tree_at}
use Rattle.tidy_laws.specs.Mentions.{item_lacks}
use Rattle.tidy_slots.specs.Counts.{item_count}
use Rattle.tidy_slots.proofs.CountLemmas.{none_item}
use Rattle.tidy_loops.proofs.LeftOver.{some_named, none_named, left_none}
use Rattle.tidy_loops.proofs.remaining.behind_plain.Goals as goal

pub returns-then-item_names : goal.returns-then-item_names
returns-then-item_names c =
    let x = tree_at c.args.item.now in
    some_named (item_count c.args.slot x) c.item_names.result (item_lacks c.args.slot x) c.item_names.ensures (none_item c.args.slot x) c.if-item_names.true

pub returns : goal.returns
returns c =
    let x = tree_at c.args.item.now in
    left_none c.args.left 0 (item_count c.args.slot x) refl
    (none_named (item_count c.args.slot x) c.item_names.result (item_lacks c.args.slot x) c.item_names.ensures (none_item c.args.slot x) c.if-item_names.false)
