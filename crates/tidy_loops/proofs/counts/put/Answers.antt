use Rattle.std.proofs.Common.{refl, ap, ◌∙◌, arith, length}
use Rattle.std.proofs.lemmas.List.{length-set}
use Rattle.tidy_loops.specs.Slots.{count_in}
use Rattle.tidy_loops.proofs.Kept.{put_at, put_past}
use Rattle.tidy_loops.proofs.counts.put.Goals as goal

pub returns-then-slot-len : goal.returns-then-slot-len
returns-then-slot-len c = record {
  as_long = ap length c.set.ensures ∙ length-set c.args.kept.now c.args.slot c.args.count;
  put = λ g h. ap (λ xs. count_in xs g) c.set.ensures ∙ put_at c.args.kept.now c.args.slot c.args.count g
      (omega (arith, c.if-slot-len.true, c.len.ensures.value));
}

pub returns-else-slot-len : goal.returns-else-slot-len
returns-else-slot-len c = record {
  as_long = refl;
  put = λ g h. put_past c.args.kept.now c.args.slot c.args.count g
      (omega (arith, c.if-slot-len.false, c.len.ensures.value)) h;
}
