use Rattle.std.proofs.Common.{false, get_or, refl, sym, ap, ◌∙◌, arith}
use Rattle.std.proofs.lemmas.List.{length_push}
use Rattle.c_tree.specs.Trees.{trees_of, join}
use Rattle.c_tree.specs.Views.{tree_at}
use Rattle.c_tree.proofs.TreeLaws.{trees-none}
use Rattle.tidy_loops.specs.Exits.{way_given, ways_given}
use Rattle.tidy_loops.proofs.Giving.{ways_none, ways_more}
use Rattle.tidy_loops.proofs.ways.give_ways.Goals as goal

pub loop-item-init : goal.loop-item-init
loop-item-init c = record {
  at = refl;
  value = ap trees_of c.new-out.ensures ∙ trees-none ∙ sym (ways_none c.args.told.now);
}

pub loop-item-preserved : goal.loop-item-preserved
loop-item-preserved c = record {
  at = omega (arith, c.loop-item.invariant.at, length_push c.loop-item.yielded c.in-Some.item);
  value =
      let bs = c.args.told.now in
      let x = tree_at c.in-Some.item in
      let done = ways_given bs (trees_of c.loop-item.yielded) in
      c.in_ok-add.ensures ∙ ap (λ a. join a (way_given c.is_told.result x)) c.loop-item.invariant.value
      ∙ ap (λ b. join done (way_given b x)) (c.is_told.ensures ∙ ap (λ i. get_or bs i false) c.loop-item.invariant.at)
      ∙ sym (ways_more bs c.loop-item.yielded c.in-Some.item);
}
