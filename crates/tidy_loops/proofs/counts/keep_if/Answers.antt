use Rattle.std.proofs.Common.{cond, eqb, refl, sym, ap, ◌∙◌}
use Rattle.jump_meaning.specs.Code.{function_tree}
use Rattle.c_tree.specs.Views.{tree_at}
use Rattle.tidy_loops.specs.Slots.{count_in}
use Rattle.tidy_loops.proofs.Kept.{kept_none, kept_free, kept_bound}
use Rattle.tidy_loops.proofs.counts.keep_if.Goals as goal

pub returns-then-is_free : goal.returns-then-is_free
returns-then-is_free c = record {
  as_long = c.put.ensures.as_long;
  kept = λ g h. kept_free (function_tree c.args.function.now) (tree_at c.args.item.now) c.args.counts.now g (count_in c.args.kept.now g) c.in-Some.at
      c.in-Some.ensures (sym c.is_free.ensures ∙ c.if-is_free.true) (count_in c.put.new.kept g)
      (c.put.ensures.put g h ∙ ap (λ n. cond (eqb c.in-Some.at g) n (count_in c.args.kept.now g)) c.count_of.ensures);
}

pub returns-else-is_free : goal.returns-else-is_free
returns-else-is_free c = record {
  as_long = refl;
  kept = λ g h. kept_bound (function_tree c.args.function.now) (tree_at c.args.item.now)
      c.args.counts.now g (count_in c.args.kept.now g) c.in-Some.at c.in-Some.ensures (sym c.is_free.ensures ∙ c.if-is_free.false);
}

pub returns-in-None : goal.returns-in-None
returns-in-None c = record {
  as_long = refl;
  kept = λ g h. kept_none (function_tree c.args.function.now) (tree_at c.args.item.now) c.args.counts.now g
      (count_in c.args.kept.now g) c.in-None.ensures;
}
