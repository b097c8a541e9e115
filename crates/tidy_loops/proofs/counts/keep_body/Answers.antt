use Rattle.std.proofs.Common.{cond, ◌&&◌, refl, sym, ap, ◌∙◌}
use Rattle.c_tree.specs.Trees.{trees_of}
use Rattle.jump_meaning.specs.Code.{function_tree}
use Rattle.tidy_laws.specs.Changes.{declares}
use Rattle.tidy_loops.specs.Slots.{is_free, count_in, items_in}
use Rattle.tidy_loops.proofs.Kept.{none_kept}
use Rattle.tidy_loops.proofs.counts.keep_body.Goals as goal

pub returns-in-Some : goal.returns-in-Some
returns-in-Some c = record {
  as_long = c.keep_declared.ensures.as_long;
  kept = λ g h. c.keep_declared.ensures.kept g h ∙ ap (λ a. cond (is_free (function_tree c.args.function.now) g && declares g a)
      (count_in c.args.counts.now g) (count_in c.args.kept.now g)) (ap trees_of c.as_slice.ensures.value ∙ sym (ap items_in c.in-Some.is));
}

pub returns-in-None : goal.returns-in-None
returns-in-None c = record {
  as_long = refl;
  kept = λ g h. sym
      (ap (λ b. cond (is_free (function_tree c.args.function.now) g && declares g (items_in b)) (count_in c.args.counts.now g)
      (count_in c.args.kept.now g)) c.in-None.is ∙ none_kept (is_free (function_tree c.args.function.now) g) (count_in c.args.counts.now g)
      (count_in c.args.kept.now g));
}
