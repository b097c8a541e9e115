use Rattle.std.proofs.Common.{◌≡◌, ℕ, ◌+◌, ◌||◌, refl, sym, ap, ◌∙◌, arith}
use Rattle.c_tree.specs.Everywhere.{total, total_of, total_in}
use Rattle.c_tree.specs.Paths.{list_of}
use Rattle.c_tree.specs.declared.tree.Section.{Section}
use Rattle.c_tree.specs.Trees.{Tree, Forest, Sections, trees_of}
use Rattle.flat_laws.specs.Parts.{is_some_number, jumps_of}
use Rattle.c_tree.specs.Views.{tree_at}
use Rattle.c_tree.proofs.Views.{at-If}
use Rattle.c_tree.proofs.Searches.{found, passed, missed, found_in, passed_in, missed_in}
use Rattle.flat_questions.proofs.Steps.{some_sum}
use Rattle.flat_questions.proofs.jumps.+having.Goals as goal

both : (a b : ℕ) → is_some_number (0 + a + b) ≡ (is_some_number a || is_some_number b)
both a b = let e : 0 + a + b ≡ a + b = omega arith in ap is_some_number e ∙ some_sum a b

pub items_have_jumps-returns-then-is_jump : goal.items_have_jumps-returns-then-is_jump
items_have_jumps-returns-then-is_jump t c = found (λ (a : Forest). is_some_number (total jumps_of a))
    (λ (x : Tree). is_some_number (total_of jumps_of x)) (λ x xs. some_sum (total_of jumps_of x) (total jumps_of xs)) c.args.items.now c.loop-i.i
    c.index-items-i.result c.loop-i-test.true c.index-items-i.is c.loop-i.invariant c.is_jump.result c.is_jump.ensures c.if-is_jump.true

pub items_have_jumps-loop-i-preserved : goal.items_have_jumps-loop-i-preserved
items_have_jumps-loop-i-preserved t c = passed (λ (a : Forest). is_some_number (total jumps_of a))
    (λ (x : Tree). is_some_number (total_of jumps_of x)) (λ x xs. some_sum (total_of jumps_of x) (total jumps_of xs)) c.args.items.now c.loop-i.i
    c.index-items-i.result c.loop-i-test.true c.index-items-i.is c.loop-i.invariant c.is_jump.result c.is_jump.ensures c.if-is_jump.false

pub items_have_jumps-returns : goal.items_have_jumps-returns
items_have_jumps-returns t c = missed (λ (a : Forest). is_some_number (total jumps_of a)) refl c.args.items.now c.loop-i.i c.loop-i-test.false
    c.loop-i.invariant

pub sections_have_jumps-returns-then-has_jumps : goal.sections_have_jumps-returns-then-has_jumps
sections_have_jumps-returns-then-has_jumps t c = found_in (λ (d : Sections). is_some_number (total_in jumps_of d))
    (λ (s : Section). is_some_number (total jumps_of (trees_of (list_of s))))
    (λ s d. some_sum (total jumps_of (trees_of (list_of s))) (total_in jumps_of d)) c.args.sections.now c.loop-i.i c.index-sections-i.result
    c.loop-i-test.true c.index-sections-i.is c.loop-i.invariant c.has_jumps.result
    (c.has_jumps.ensures ∙ ap (λ (s : Section). is_some_number (total jumps_of (trees_of (list_of s)))) (sym c.index-sections-i.is)) c.if-has_jumps.true

pub sections_have_jumps-loop-i-preserved : goal.sections_have_jumps-loop-i-preserved
sections_have_jumps-loop-i-preserved t c = passed_in (λ (d : Sections). is_some_number (total_in jumps_of d))
    (λ (s : Section). is_some_number (total jumps_of (trees_of (list_of s))))
    (λ s d. some_sum (total jumps_of (trees_of (list_of s))) (total_in jumps_of d)) c.args.sections.now c.loop-i.i c.index-sections-i.result
    c.loop-i-test.true c.index-sections-i.is c.loop-i.invariant c.has_jumps.result
    (c.has_jumps.ensures ∙ ap (λ (s : Section). is_some_number (total jumps_of (trees_of (list_of s)))) (sym c.index-sections-i.is)) c.if-has_jumps.false

pub sections_have_jumps-returns : goal.sections_have_jumps-returns
sections_have_jumps-returns t c = missed_in (λ (d : Sections). is_some_number (total_in jumps_of d)) refl c.args.sections.now c.loop-i.i
    c.loop-i-test.false c.loop-i.invariant

pub is_jump-returns-else-has_jumps : goal.is_jump-returns-else-has_jumps
is_jump-returns-else-has_jumps t c =
    let m = total jumps_of (trees_of c.in-If.a) in
    let n = total jumps_of (trees_of c.in-If.b) in
    c.has_jumps-else-has_jumps.ensures ∙ sym (ap (λ y. is_some_number (total_of jumps_of (tree_at y))) c.in-If.is ∙
    ap (λ (x : Tree). is_some_number (total_of jumps_of x)) (at-If c.in-If.field-0 c.in-If.a c.in-If.b)
    ∙ both m n ∙ ap (λ y. y || is_some_number n) (sym c.has_jumps.ensures ∙ c.if-has_jumps.false))
