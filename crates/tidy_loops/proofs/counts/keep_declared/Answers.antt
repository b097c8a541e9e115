use Rattle.std.proofs.Common.{◌+◌, drop}
use Rattle.c_tree.specs.Trees.{trees_of}
use Rattle.jump_meaning.specs.Code.{function_tree}
use Rattle.c_tree.specs.Views.{tree_at}
use Rattle.c_tree.proofs.Views.{trees-at, trees-end}
use Rattle.tidy_loops.proofs.Kept.{none_yet, one_more_kept, all_kept}
use Rattle.tidy_loops.proofs.counts.keep_declared.Goals as goal

pub loop-i-init : goal.loop-i-init
loop-i-init c = none_yet (function_tree c.args.function.now) c.args.counts.now (trees_of c.args.items.now) c.args.kept.now

pub loop-i-preserved : goal.loop-i-preserved
loop-i-preserved c =
    let xs = c.args.items.now in
    let i = c.loop-i.i in
    let x = c.index-items-i.result in
    one_more_kept (function_tree c.args.function.now) c.args.counts.now (trees_of xs) c.args.kept.now (trees_of (drop i xs)) c.loop-i.kept (tree_at x)
    (trees_of (drop (i + 1) xs)) c.keep_if.new.kept
    (trees-at xs i x c.loop-i-test.true c.index-items-i.is) c.keep_if.ensures.as_long c.keep_if.ensures.kept c.loop-i.invariant

pub returns : goal.returns
returns c =
    let xs = c.args.items.now in
    let i = c.loop-i.i in
    record {
      as_long = c.loop-i.invariant.as_long;
      kept =
          all_kept (function_tree c.args.function.now) c.args.counts.now (trees_of xs) c.args.kept.now (trees_of (drop i xs)) c.loop-i.kept
          (trees-end xs i c.loop-i-test.false) c.loop-i.invariant;
    }
