use Rattle.std.proofs.Common.{ℕ, List, Option, ap, ◌∙◌}
use Rattle.c_tree.specs.declared.tree.Top.{Top}
use Rattle.move_driver.specs.Counts.{counted, guards_past}
use Rattle.move_driver.proofs.Guards.{counted_before}
use Rattle.move_driver.proofs.counts.count.Goals as goal

pub returns : goal.returns
returns c =
    let e = c.count_guards.ensures ∙ ap (λ (ns : List (Option ℕ)). counted (guards_past ns c.as_slice-2.result.now)) c.as_slice.ensures.value
    ∙ ap (λ (us : List Top). counted (guards_past c.args.before.now us)) c.as_slice-2.ensures.value in
    λ moved h i. record {
      jumps = c.join_count.ensures i;
      moves = c.len.ensures.value i;
      guards = counted_before c.args.before.now moved c.args.plain.now c.count_guards.result e h i;
    }
