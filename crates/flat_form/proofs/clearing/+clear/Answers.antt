use Rattle.std.proofs.Common.{refl, sym, ap, ◌∙◌, arith}
use Rattle.c_tree.specs.Trees.{trees_of, sections_of}
use Rattle.flat_laws.specs.Unlabelled.{unlabelled_among}
use Rattle.flat_form.specs.Cleared.{kept, inside, each_inside, cleared_among}
use Rattle.flat_form.proofs.Cleared.{all_gone, refilled_same}
use Rattle.flat_form.proofs.Renumbered.{items_done, sections_done}
use Rattle.flat_form.proofs.clearing.+clear.Goals as goal

pub clear-returns : goal.clear-returns
clear-returns t c =
    let s = c.args.strays in
    let old = c.args.list.now in
    let lent = c.as_mut_slice.ensures.value in
    c.drop_those.ensures
    ∙ ap (λ z. kept s (trees_of z)) (refilled_same old c.as_mut_slice.result.now c.clear_items.new.items lent c.clear_items.ensures.as_long)
    ∙ ap (kept s) (c.clear_items.ensures.made ∙ ap (λ z. each_inside s (trees_of z)) lent) ∙ all_gone s (trees_of old)

pub clear_items-returns-clause-made : goal.clear_items-returns-clause-made
clear_items-returns-clause-made t c =
    let s = c.args.strays in
    let d = c.loop-i.invariant.1 in
    let end = c.loop-i-test.false in
    items_done (inside s) (each_inside s) refl (λ x a. refl) c.args.items.now c.loop-i.items d.0 (λ k x l. d.1 k x (omega (arith, l, end, d.0)))

pub clear_sections-returns-clause-made : goal.clear_sections-returns-clause-made
clear_sections-returns-clause-made t c =
    let d = c.loop-i.invariant.1 in
    let end = c.loop-i-test.false in
    sections_done unlabelled_among refl (λ x d. refl) c.args.sections.now c.loop-i.sections d.0 (λ k x l. d.1 k x (omega (arith, l, end, d.0)))
    ∙ sym (ap (λ b. cleared_among b (sections_of c.args.sections.now)) c.if-strays.false)
