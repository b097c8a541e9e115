use Rattle.std.proofs.Common.{◌≡◌, IfOk, sym, ap, subst, ◌∙◌, arith}
use mathlib.Core.Path.{ap₂}
use Rattle.c_tree.specs.Trees.{trees_of}
use Rattle.tidy_slots.specs.Counts.{list_count}
use Rattle.tidy_loops.specs.Slots.{count_in, allowed, continues, first_reset}
use Rattle.tidy_loops.proofs.Read.{front_is, back_is}
use Rattle.tidy_loops.proofs.Outside.{last_one, outside_reset}
use Rattle.tidy_loops.proofs.allowing.continue_in.Goals as goal

pub returns : goal.returns
returns c =
    let k = count_in c.args.counts.now in
    let xs = c.args.list.now in
    subst (λ z. IfOk c.continue_before.result (λ it. it ≡ z))
    (ap₂ (λ a s. allowed (continues k c.args.level a) s) (ap trees_of c.split_last.ensures.front ∙ front_is xs)
    (c.first_reset.ensures ∙ ap (λ z. first_reset (trees_of z)) c.split_last.ensures.back ∙ back_is xs))
    c.continue_before.ensures

pub continue_before-requires : goal.continue_before-requires
continue_before-requires c = λ g h.
    let xs = c.args.list.now in
    let e = ap (list_count g) (ap trees_of c.split_last.ensures.front ∙ front_is xs) in
    let r = sym (c.first_reset.ensures ∙ ap (λ z. first_reset (trees_of z)) c.split_last.ensures.back ∙ back_is xs) ∙ h in
    let l = last_one g (trees_of xs) r in
    outside_reset (count_in c.args.counts.now g) _ _ (c.requires g) (omega (arith, e, l))
