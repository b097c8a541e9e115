use Rattle.std.proofs.Common.{◌≡◌, ℕ, drop, ◌+◌, ◌||◌, sym, ap, ◌∙◌, arith}
use Rattle.std.proofs.lemmas.Result.{on_ok_weaker}
use Rattle.c_tree.specs.Everywhere.{total, total_of, total_in}
use Rattle.c_tree.specs.Paths.{list_of}
use Rattle.c_tree.specs.Trees.{Tree, Forest, Sections, trees_of, sections_of}
use Rattle.flat_laws.specs.Parts.{is_some_number, gotos_to, is_named}
use Rattle.flat_questions.specs.Reading.{is_flagged}
use Rattle.c_tree.specs.Views.{tree_at}
use Rattle.c_tree.proofs.Views.{at-If, at-For}
use Rattle.flat_questions.proofs.Steps.{some_sum}
use Rattle.flat_questions.proofs.named.+naming.Goals as goal
use Rattle.c_tree.proofs.Views.{trees-at, trees-end, sections-at, sections-end}
use Rattle.flat_questions.proofs.Flags.{or_both, or_step, or_none}

both : (a b : ℕ) → is_some_number (0 + a + b) ≡ (is_some_number a || is_some_number b)
both a b = let e : 0 + a + b ≡ a + b = omega arith in ap is_some_number e ∙ some_sum a b

pub add_item-returns-in_ok-add_list-in-If : goal.add_item-returns-in_ok-add_list-in-If
add_item-returns-in_ok-add_list-in-If t c = on_ok_weaker c.add_list-in-If.result (λ h m.
    or_both (is_flagged c.args.flags.now m) (is_named (trees_of c.in-If.a) m) (is_named (trees_of c.in-If.b) m) (is_flagged c.add_list.new.flags m)
    (is_flagged c.add_list-in-If.new.flags m) (c.in_ok-add_list-in-If.ensures m) (h m)
    ∙ sym (ap (λ y. is_flagged c.args.flags.now m || is_some_number (total_of (gotos_to m) (tree_at y))) c.in-If.is
    ∙ ap (λ (x : Tree). is_flagged c.args.flags.now m || is_some_number (total_of (gotos_to m) x)) (at-If c.in-If.field-0 c.in-If.a c.in-If.b)
    ∙ ap (λ b. is_flagged c.args.flags.now m || b) (both (total (gotos_to m) (trees_of c.in-If.a)) (total (gotos_to m) (trees_of c.in-If.b)))))
    c.add_list-in-If.ensures

pub add_item-returns-in_ok-add_list-in-For : goal.add_item-returns-in_ok-add_list-in-For
add_item-returns-in_ok-add_list-in-For t c = on_ok_weaker c.add_list-in-For-2.result (λ h m.
    or_both (is_flagged c.args.flags.now m) (is_named (trees_of c.in-For.first) m) (is_named (trees_of c.in-For.a) m)
    (is_flagged c.add_list-in-For.new.flags m) (is_flagged c.add_list-in-For-2.new.flags m) (c.in_ok-add_list-in-For.ensures m) (h m)
    ∙ sym (ap (λ y. is_flagged c.args.flags.now m || is_some_number (total_of (gotos_to m) (tree_at y))) c.in-For.is
    ∙ ap (λ (x : Tree). is_flagged c.args.flags.now m || is_some_number (total_of (gotos_to m) x))
    (at-For c.in-For.first c.in-For.field-1 c.in-For.field-2 c.in-For.a)
    ∙ ap (λ b. is_flagged c.args.flags.now m || b) (both (total (gotos_to m) (trees_of c.in-For.first)) (total (gotos_to m) (trees_of c.in-For.a)))))
    c.add_list-in-For-2.ensures

pub add_items-loop-i-preserved : goal.add_items-loop-i-preserved
add_items-loop-i-preserved t c = λ m.
    let xs = c.args.items.now in
    let x = c.index-items-i.result in
    let rest = trees_of (drop (c.loop-i.i + 1) xs) in
    or_step (is_flagged c.args.flags.now m || is_named (trees_of xs) m) (is_flagged c.args.flags.now m)
    (is_some_number (total_of (gotos_to m) (tree_at x))) (is_named rest m) (is_flagged c.loop-i.flags m) (is_flagged c.add_item.new.flags m)
    (ap (λ z. is_flagged c.loop-i.flags m || z)
    (sym (ap (λ (a : Forest). is_named a m) (trees-at xs c.loop-i.i x c.loop-i-test.true c.index-items-i.is) ∙
    some_sum (total_of (gotos_to m) (tree_at x)) (total (gotos_to m) rest))) ∙ c.loop-i.invariant m)
    (c.in_ok-add_item.ensures m)

pub add_items-returns : goal.add_items-returns
add_items-returns t c = λ m.
    sym (or_none (is_flagged c.loop-i.flags m)) ∙ ap (λ z. is_flagged c.loop-i.flags m || z)
    (sym (ap (λ (a : Forest). is_named a m) (trees-end c.args.items.now c.loop-i.i c.loop-i-test.false))) ∙ c.loop-i.invariant m

pub add_sections-loop-i-preserved : goal.add_sections-loop-i-preserved
add_sections-loop-i-preserved t c = λ m.
    let cs = c.args.sections.now in
    let s = c.index-sections-i.result in
    let rest = sections_of (drop (c.loop-i.i + 1) cs) in
    or_step (is_flagged c.args.flags.now m || is_some_number (total_in (gotos_to m) (sections_of cs))) (is_flagged c.args.flags.now m)
    (is_named (trees_of (list_of s)) m) (is_some_number (total_in (gotos_to m) rest)) (is_flagged c.loop-i.flags m) (is_flagged c.add_list.new.flags m)
    (ap (λ z. is_flagged c.loop-i.flags m || z)
    (sym (ap (λ (d : Sections). is_some_number (total_in (gotos_to m) d)) (sections-at cs c.loop-i.i s c.loop-i-test.true c.index-sections-i.is) ∙
    some_sum (total (gotos_to m) (trees_of (list_of s))) (total_in (gotos_to m) rest))) ∙ c.loop-i.invariant m)
    (c.in_ok-add_list.ensures m ∙ ap (λ z. is_flagged c.loop-i.flags m || is_named (trees_of (list_of z)) m) (sym c.index-sections-i.is))

pub add_sections-returns : goal.add_sections-returns
add_sections-returns t c = λ m.
    sym (or_none (is_flagged c.loop-i.flags m)) ∙ ap (λ z. is_flagged c.loop-i.flags m || z)
    (sym (ap (λ (d : Sections). is_some_number (total_in (gotos_to m) d)) (sections-end c.args.sections.now c.loop-i.i c.loop-i-test.false))) ∙
    c.loop-i.invariant m
