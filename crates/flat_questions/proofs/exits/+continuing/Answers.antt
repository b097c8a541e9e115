use Rattle.std.proofs.Common.{◌||◌, refl, sym, ap, ◌∙◌}
use Rattle.c_tree.specs.Exits.{continues, continues_of, continues_in}
use Rattle.c_tree.specs.Paths.{list_of}
use Rattle.c_tree.specs.declared.tree.Section.{Section}
use Rattle.c_tree.specs.Trees.{Tree, Forest, Sections, trees_of}
use Rattle.flat_laws.specs.Parts.{is_some_number}
use Rattle.c_tree.specs.Views.{tree_at}
use Rattle.c_tree.proofs.Views.{at-If}
use Rattle.c_tree.proofs.Searches.{found, passed, missed, found_in, passed_in, missed_in}
use Rattle.flat_questions.proofs.Steps.{some_sum}
use Rattle.flat_questions.proofs.exits.+continuing.Goals as goal

pub items_have_continue-returns-then-is_continue_in : goal.items_have_continue-returns-then-is_continue_in
items_have_continue-returns-then-is_continue_in t c = found (λ (a : Forest). is_some_number (continues a))
    (λ (x : Tree). is_some_number (continues_of x)) (λ x xs. some_sum (continues_of x) (continues xs)) c.args.items.now c.loop-i.i
    c.index-items-i.result c.loop-i-test.true c.index-items-i.is c.loop-i.invariant c.is_continue_in.result c.is_continue_in.ensures c.if-is_continue_in.true

pub items_have_continue-loop-i-preserved : goal.items_have_continue-loop-i-preserved
items_have_continue-loop-i-preserved t c = passed (λ (a : Forest). is_some_number (continues a)) (λ (x : Tree). is_some_number (continues_of x))
    (λ x xs. some_sum (continues_of x) (continues xs)) c.args.items.now c.loop-i.i c.index-items-i.result c.loop-i-test.true c.index-items-i.is
    c.loop-i.invariant c.is_continue_in.result c.is_continue_in.ensures c.if-is_continue_in.false

pub items_have_continue-returns : goal.items_have_continue-returns
items_have_continue-returns t c = missed (λ (a : Forest). is_some_number (continues a)) refl c.args.items.now c.loop-i.i c.loop-i-test.false c.loop-i.invariant

pub slice_has_continue-returns-then-has_continue : goal.slice_has_continue-returns-then-has_continue
slice_has_continue-returns-then-has_continue t c = found_in (λ (d : Sections). is_some_number (continues_in d))
    (λ (s : Section). is_some_number (continues (trees_of (list_of s)))) (λ s d. some_sum (continues (trees_of (list_of s))) (continues_in d))
    c.args.sections.now c.loop-i.i c.index-sections-i.result c.loop-i-test.true c.index-sections-i.is c.loop-i.invariant c.has_continue.result
    (c.has_continue.ensures ∙ ap (λ (s : Section). is_some_number (continues (trees_of (list_of s)))) (sym c.index-sections-i.is)) c.if-has_continue.true

pub slice_has_continue-loop-i-preserved : goal.slice_has_continue-loop-i-preserved
slice_has_continue-loop-i-preserved t c = passed_in (λ (d : Sections). is_some_number (continues_in d))
    (λ (s : Section). is_some_number (continues (trees_of (list_of s)))) (λ s d. some_sum (continues (trees_of (list_of s))) (continues_in d))
    c.args.sections.now c.loop-i.i c.index-sections-i.result c.loop-i-test.true c.index-sections-i.is c.loop-i.invariant c.has_continue.result
    (c.has_continue.ensures ∙ ap (λ (s : Section). is_some_number (continues (trees_of (list_of s)))) (sym c.index-sections-i.is)) c.if-has_continue.false

pub slice_has_continue-returns : goal.slice_has_continue-returns
slice_has_continue-returns t c = missed_in (λ (d : Sections). is_some_number (continues_in d)) refl c.args.sections.now c.loop-i.i c.loop-i-test.false
    c.loop-i.invariant

pub is_continue_in-returns-else-has_continue : goal.is_continue_in-returns-else-has_continue
is_continue_in-returns-else-has_continue t c = c.has_continue-else-has_continue.ensures ∙ sym
    (ap (λ y. (λ (x : Tree). is_some_number (continues_of x)) (tree_at y)) c.in-If.is ∙
    ap (λ (x : Tree). is_some_number (continues_of x)) (at-If c.in-If.field-0 c.in-If.a c.in-If.b) ∙
    some_sum (continues (trees_of c.in-If.a)) (continues (trees_of c.in-If.b)) ∙
    ap (λ y. y || (λ (a : Forest). is_some_number (continues a)) (trees_of c.in-If.b)) (sym c.has_continue.ensures ∙ c.if-has_continue.false))

pub is_continue_in-returns-then-has_continue : goal.is_continue_in-returns-then-has_continue
is_continue_in-returns-then-has_continue t c = c.if-has_continue.true ∙ sym
    (ap (λ y. (λ (x : Tree). is_some_number (continues_of x)) (tree_at y)) c.in-If.is ∙
    ap (λ (x : Tree). is_some_number (continues_of x)) (at-If c.in-If.field-0 c.in-If.a c.in-If.b) ∙
    some_sum (continues (trees_of c.in-If.a)) (continues (trees_of c.in-If.b)) ∙
    ap (λ y. y || (λ (a : Forest). is_some_number (continues a)) (trees_of c.in-If.b)) (sym c.has_continue.ensures ∙ c.if-has_continue.true))
