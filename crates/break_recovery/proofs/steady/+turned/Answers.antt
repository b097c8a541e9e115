use Rattle.std.proofs.Common.{◌≡◌, not, ◌&&◌, OnOk, sym, ap, subst, ◌∙◌}
use Rattle.std.proofs.lemmas.Bool.{and_left, and_right, not-false}
use Rattle.c_tree.specs.declared.tree.Section.{Section}
use Rattle.c_tree.specs.Paths.{list_of}
use Rattle.c_tree.specs.Trees.{trees_of}
use Rattle.c_tree.specs.Views.{tree_at}
use Rattle.c_tree.proofs.Views.{at-Evaluate}
use Rattle.tidy_loops.proofs.FormLaws.{expression_same}
use Rattle.tidy_laws.specs.Mentions.{list_lacks}
use Rattle.tidy_loops.specs.Views.{test_at}
use Rattle.break_recovery.specs.Steady.{any_slot, both, set_turned, has_else, turned, item_turned}
use Rattle.break_recovery.proofs.Steadily.{with_none, with_any, turned_more, turned_end, section_more, sections_end, if_on, else_goes, else_stays}
use Rattle.break_recovery.proofs.Lacking.{turned_lacking}
use Rattle.break_recovery.proofs.steady.+turned.Goals as goal

pub items_turned-loop-i-preserved : goal.items_turned-loop-i-preserved
items_turned-loop-i-preserved t c =
    turned_more c.args.slot c.args.items.now c.loop-i.i c.index-items-i.result c.loop-i.turned c.item_turned.new.turned _ c.loop-i-test.true
    c.index-items-i.is c.in_ok-item_turned.ensures c.loop-i.invariant

pub items_turned-returns : goal.items_turned-returns
items_turned-returns t c = turned_end c.args.slot c.args.items.now c.loop-i.i c.loop-i.turned _ c.loop-i-test.false c.loop-i.invariant

pub sections_turned-loop-i-preserved : goal.sections_turned-loop-i-preserved
sections_turned-loop-i-preserved t c =
    section_more c.args.slot c.args.sections.now c.loop-i.i c.index-sections-i.result c.loop-i.turned c.list_turned.new.turned _ c.loop-i-test.true
    c.index-sections-i.is
    (c.in_ok-list_turned.ensures ∙ sym (ap (λ (s : Section). both c.loop-i.turned (turned c.args.slot (trees_of (list_of s)))) c.index-sections-i.is))
    c.loop-i.invariant

pub sections_turned-returns : goal.sections_turned-returns
sections_turned-returns t c = sections_end c.args.slot c.args.sections.now c.loop-i.i c.loop-i.turned _ c.loop-i-test.false c.loop-i.invariant

pub item_turned-returns-in-Evaluate : goal.item_turned-returns-in-Evaluate
item_turned-returns-in-Evaluate t c =
    let g = c.args.slot in
    let e = c.in-Evaluate.e in
    subst (λ z. OnOk c.set_turned.result (c.set_turned.new.turned ≡ both c.args.turned.now z))
    (ap (set_turned g) (sym (expression_same e)) ∙ sym (ap (item_turned g) (ap tree_at c.in-Evaluate.is ∙ at-Evaluate e)))
    c.set_turned.ensures

pub item_turned-returns-then-not-has_else : goal.item_turned-returns-then-not-has_else
item_turned-returns-then-not-has_else t c =
    let g = c.args.slot in
    let b = trees_of c.in-If.b in
    subst (λ z. OnOk c.list_turned-then-not-has_else.result (c.list_turned-then-not-has_else.new.turned ≡ z))
    (if_on g c.in-If.test c.in-If.a c.in-If.b c.args.item.now c.args.turned.now c.list_turned.new.turned (turned g b) c.in-If.is
    c.in_ok-list_turned-in-If.ensures
    (else_stays (has_else (test_at c.in-If.test) b && not (list_lacks g b)) (turned g b)
    (and_left (has_else (test_at c.in-If.test) b) (not (list_lacks g b)) (sym c.has_else.ensures ∙ c.if-not-has_else.true))))
    c.list_turned-then-not-has_else.ensures

pub item_turned-returns-then-list_names : goal.item_turned-returns-then-list_names
item_turned-returns-then-list_names t c =
    let g = c.args.slot in
    let b = trees_of c.in-If.b in
    with_any c.list_turned.new.turned
    ∙ if_on g c.in-If.test c.in-If.a c.in-If.b c.args.item.now c.args.turned.now c.list_turned.new.turned any_slot c.in-If.is
    c.in_ok-list_turned-in-If.ensures
    (else_goes (has_else (test_at c.in-If.test) b) (not (list_lacks g b)) (turned g b) (sym c.has_else.ensures ∙ c.if-not-has_else.false)
    (sym c.list_names.ensures ∙ c.if-list_names.true))

pub item_turned-returns-else-list_names : goal.item_turned-returns-else-list_names
item_turned-returns-else-list_names t c =
    let g = c.args.slot in
    let b = trees_of c.in-If.b in
    let n = sym c.list_names.ensures ∙ c.if-list_names.false in
    sym (ap (both c.list_turned.new.turned) (turned_lacking g b (not-false (list_lacks g b) n)) ∙ with_none c.list_turned.new.turned)
    ∙ if_on g c.in-If.test c.in-If.a c.in-If.b c.args.item.now c.args.turned.now c.list_turned.new.turned (turned g b) c.in-If.is
    c.in_ok-list_turned-in-If.ensures
    (else_stays (has_else (test_at c.in-If.test) b && not (list_lacks g b)) (turned g b)
    (and_right (has_else (test_at c.in-If.test) b) (not (list_lacks g b)) n))
