use Rattle.std.proofs.Common.{not, ◌||◌, refl, sym, ap, ◌∙◌}
use Rattle.c_tree.specs.TextItems.{is_empty}
use Rattle.c_tree.specs.Trees.{Tree, Forest, trees_of}
use Rattle.flat_laws.specs.Parts.{arrivals, arrivals_in}
use Rattle.c_tree.specs.Views.{tree_at}
use Rattle.c_tree.proofs.Views.{at-If}
use Rattle.c_tree.proofs.Searches.{found, passed, missed}
use Rattle.flat_questions.proofs.Steps.{some_append}
use Rattle.flat_questions.proofs.arrivals.+arrival.Goals as goal

pub items_have_arrival-returns-then-is_arrival_in : goal.items_have_arrival-returns-then-is_arrival_in
items_have_arrival-returns-then-is_arrival_in t c = found (λ (a : Forest). not (is_empty (arrivals a))) (λ (x : Tree). not (is_empty (arrivals_in x)))
    (λ x xs. some_append (arrivals_in x) (arrivals xs)) c.args.items.now c.loop-i.i c.index-items-i.result c.loop-i-test.true c.index-items-i.is
    c.loop-i.invariant c.is_arrival_in.result c.is_arrival_in.ensures c.if-is_arrival_in.true

pub items_have_arrival-loop-i-preserved : goal.items_have_arrival-loop-i-preserved
items_have_arrival-loop-i-preserved t c = passed (λ (a : Forest). not (is_empty (arrivals a))) (λ (x : Tree). not (is_empty (arrivals_in x)))
    (λ x xs. some_append (arrivals_in x) (arrivals xs)) c.args.items.now c.loop-i.i c.index-items-i.result c.loop-i-test.true c.index-items-i.is
    c.loop-i.invariant c.is_arrival_in.result c.is_arrival_in.ensures c.if-is_arrival_in.false

pub items_have_arrival-returns : goal.items_have_arrival-returns
items_have_arrival-returns t c = missed (λ (a : Forest). not (is_empty (arrivals a))) refl c.args.items.now c.loop-i.i c.loop-i-test.false c.loop-i.invariant

pub is_arrival_in-returns-else-has_arrival : goal.is_arrival_in-returns-else-has_arrival
is_arrival_in-returns-else-has_arrival t c = c.has_arrival-else-has_arrival.ensures ∙ sym
    (ap (λ y. (λ (x : Tree). not (is_empty (arrivals_in x))) (tree_at y)) c.in-If.is ∙
    ap (λ (x : Tree). not (is_empty (arrivals_in x))) (at-If c.in-If.field-0 c.in-If.a c.in-If.b) ∙
    some_append (arrivals (trees_of c.in-If.a)) (arrivals (trees_of c.in-If.b)) ∙
    ap (λ y. y || (λ (a : Forest). not (is_empty (arrivals a))) (trees_of c.in-If.b)) (sym c.has_arrival.ensures ∙ c.if-has_arrival.false))

pub is_arrival_in-returns-then-has_arrival : goal.is_arrival_in-returns-then-has_arrival
is_arrival_in-returns-then-has_arrival t c = c.if-has_arrival.true ∙ sym
    (ap (λ y. (λ (x : Tree). not (is_empty (arrivals_in x))) (tree_at y)) c.in-If.is ∙
    ap (λ (x : Tree). not (is_empty (arrivals_in x))) (at-If c.in-If.field-0 c.in-If.a c.in-If.b) ∙
    some_append (arrivals (trees_of c.in-If.a)) (arrivals (trees_of c.in-If.b)) ∙
    ap (λ y. y || (λ (a : Forest). not (is_empty (arrivals a))) (trees_of c.in-If.b)) (sym c.has_arrival.ensures ∙ c.if-has_arrival.true))
