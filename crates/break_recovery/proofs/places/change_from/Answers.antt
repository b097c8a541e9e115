use Rattle.c_tree.specs.Trees.{trees_of}
use Rattle.tidy_loops.proofs.Results.{if_ok_more}
use Rattle.break_recovery.proofs.Outermost.{no_doubt}
use Rattle.break_recovery.proofs.places.change_from.Goals as goal

pub returns : goal.returns
returns c =
    let s = c.args.start in
    let a = trees_of c.args.list.now in
    let o = c.if-start.false in
    record {
      made = if_ok_more c.change_behind.result _ _
          (λ it k f h q. k f h (no_doubt f c.args.level s.doubt s.from a o q.0) q.1)
          c.change_behind.ensures.made;
      kept = c.change_behind.ensures.kept;
      way = if_ok_more c.change_behind.result _ _
          (λ it k x e f h d l z q. k x e f h d l z (no_doubt f c.args.level s.doubt s.from a o q.0, q.1))
          c.change_behind.ensures.way;
    }
