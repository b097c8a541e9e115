use Rattle.std.proofs.Common.{◌||◌, refl, sym, ap, ◌∙◌}
use Rattle.c_tree.specs.Trees.{Tree, Forest, trees_of}
use Rattle.flat_laws.specs.Parts.{arrivals, arrivals_in, has_default}
use Rattle.flat_laws.proofs.LooserItems.{default_append}
use Rattle.c_tree.specs.Views.{tree_at}
use Rattle.c_tree.proofs.Views.{at-If}
use Rattle.c_tree.proofs.Searches.{found, passed, missed}
use Rattle.flat_questions.proofs.arrivals.+nested_default.Goals as goal

pub items_have_default-returns-then-is_default_in : goal.items_have_default-returns-then-is_default_in
items_have_default-returns-then-is_default_in t c = found (λ (a : Forest). has_default (arrivals a)) (λ (x : Tree). has_default (arrivals_in x))
    (λ x xs. default_append (arrivals_in x) (arrivals xs)) c.args.items.now c.loop-i.i c.index-items-i.result c.loop-i-test.true c.index-items-i.is
    c.loop-i.invariant c.is_default_in.result c.is_default_in.ensures c.if-is_default_in.true

pub items_have_default-loop-i-preserved : goal.items_have_default-loop-i-preserved
items_have_default-loop-i-preserved t c = passed (λ (a : Forest). has_default (arrivals a)) (λ (x : Tree). has_default (arrivals_in x))
    (λ x xs. default_append (arrivals_in x) (arrivals xs)) c.args.items.now c.loop-i.i c.index-items-i.result c.loop-i-test.true c.index-items-i.is
    c.loop-i.invariant c.is_default_in.result c.is_default_in.ensures c.if-is_default_in.false

pub items_have_default-returns : goal.items_have_default-returns
items_have_default-returns t c = missed (λ (a : Forest). has_default (arrivals a)) refl c.args.items.now c.loop-i.i c.loop-i-test.false c.loop-i.invariant

pub is_default_in-returns-else-has_default : goal.is_default_in-returns-else-has_default
is_default_in-returns-else-has_default t c = c.has_default-else-has_default.ensures ∙ sym
    (ap (λ y. (λ (x : Tree). has_default (arrivals_in x)) (tree_at y)) c.in-If.is ∙
    ap (λ (x : Tree). has_default (arrivals_in x)) (at-If c.in-If.field-0 c.in-If.a c.in-If.b) ∙
    default_append (arrivals (trees_of c.in-If.a)) (arrivals (trees_of c.in-If.b)) ∙
    ap (λ y. y || (λ (a : Forest). has_default (arrivals a)) (trees_of c.in-If.b)) (sym c.has_default.ensures ∙ c.if-has_default.false))

pub is_default_in-returns-then-has_default : goal.is_default_in-returns-then-has_default
is_default_in-returns-then-has_default t c = c.if-has_default.true ∙ sym
    (ap (λ y. (λ (x : Tree). has_default (arrivals_in x)) (tree_at y)) c.in-If.is ∙
    ap (λ (x : Tree). has_default (arrivals_in x)) (at-If c.in-If.field-0 c.in-If.a c.in-If.b) ∙
    default_append (arrivals (trees_of c.in-If.a)) (arrivals (trees_of c.in-If.b)) ∙
    ap (λ y. y || (λ (a : Forest). has_default (arrivals a)) (trees_of c.in-If.b)) (sym c.has_default.ensures ∙ c.if-has_default.true))
