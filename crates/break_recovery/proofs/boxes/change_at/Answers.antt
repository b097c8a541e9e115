use Rattle.std.proofs.Common.{drop}
use Rattle.c_tree.specs.Trees.{trees_of}
use Rattle.tidy_loops.proofs.Results.{if_ok_more}
use Rattle.break_recovery.proofs.Likeness.{was_asked}
use Rattle.break_recovery.proofs.boxes.change_at.Goals as goal

pub returns-then-was_asked : goal.returns-then-was_asked
returns-then-was_asked c =
    let a = trees_of (drop c.args.at c.args.list.now) in
    let o = c.was_asked.ensures c.if-was_asked.true in
    let u = was_asked c.args.sure.now in
    record {
      made = if_ok_more c.change_within.result _ _
          (λ it k f h p. k f h (u f c.args.level c.args.way.now a o.0 o.1 p) p) c.change_within.ensures.made;
      kept = c.change_within.ensures.kept;
      way = if_ok_more c.change_within.result _ _
          (λ it k g r f h d l z p. k g r f h d l z (u f c.args.level c.args.way.now a o.0 o.1 p, p)) c.change_within.ensures.way;
    }
