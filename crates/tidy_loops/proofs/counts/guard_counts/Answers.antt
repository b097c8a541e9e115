use Rattle.std.proofs.Common.{◌≡◌, cond, ◌&&◌, length, replicate, ap, ◌∙◌, arith}
use Rattle.jump_meaning.specs.Code.{function_tree}
use Rattle.tidy_laws.specs.Changes.{declares}
use Rattle.tidy_loops.specs.Slots.{is_free, count_in, items_in}
use Rattle.tidy_loops.proofs.Kept.{zeros_in, zeros_long, tells}
use Rattle.tidy_loops.proofs.counts.guard_counts.Goals as goal

pub returns : goal.returns
returns c =
    let f = function_tree c.args.function.now in
    let n = length c.args.function.now.slots in
    let z : c.in_ok-counts.counts ≡ replicate n 0 = c.in_ok-counts.ensures ∙ ap (λ m. replicate m 0) c.len.ensures.value in
    let y : c.in_ok-kept.kept ≡ replicate n 0 = c.in_ok-kept.ensures ∙ ap (λ m. replicate m 0) c.len-2.ensures.value in
    let k : length c.in_ok-kept.kept ≡ n = ap length y ∙ zeros_long n in
    tells f c.in_ok-counts.counts c.count_body.new.counts c.keep_body.new.kept z c.in_ok-count_body.ensures (c.keep_body.ensures.as_long ∙ k)
    (λ g h. c.keep_body.ensures.kept g (omega (arith, h, k))
    ∙ ap (cond (is_free f g && declares g (items_in c.args.function.now.body)) (count_in c.count_body.new.counts g))
    (ap (λ xs. count_in xs g) y ∙ zeros_in n g))
