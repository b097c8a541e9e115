use Rattle.std.proofs.Common.{refl, sym, ap, ◌∙◌}
use Rattle.c_tree.specs.Paths.{list_of}
use Rattle.c_tree.specs.declared.tree.Section.{Section}
use Rattle.c_tree.specs.Trees.{Tree, Forest, Sections, trees_of}
use Rattle.flat_laws.specs.Parts.{holds_jump, holds_jump_in, holds_jump_among}
use Rattle.flat_questions.specs.Reading.{is_flagged}
use Rattle.c_tree.proofs.Searches.{found, passed, missed, found_in, passed_in, missed_in}
use Rattle.flat_questions.proofs.jumps.+jump.Goals as goal

pub items_hold_jump-returns-then-is_jump_in : goal.items_hold_jump-returns-then-is_jump_in
items_hold_jump-returns-then-is_jump_in t c = found (λ (a : Forest). holds_jump (is_flagged c.args.named.now) a)
    (λ (x : Tree). holds_jump_in (is_flagged c.args.named.now) x) (λ x xs. refl) c.args.items.now c.loop-i.i c.index-items-i.result c.loop-i-test.true
    c.index-items-i.is c.loop-i.invariant c.is_jump_in.result c.is_jump_in.ensures c.if-is_jump_in.true

pub items_hold_jump-loop-i-preserved : goal.items_hold_jump-loop-i-preserved
items_hold_jump-loop-i-preserved t c = passed (λ (a : Forest). holds_jump (is_flagged c.args.named.now) a)
    (λ (x : Tree). holds_jump_in (is_flagged c.args.named.now) x) (λ x xs. refl) c.args.items.now c.loop-i.i c.index-items-i.result c.loop-i-test.true
    c.index-items-i.is c.loop-i.invariant c.is_jump_in.result c.is_jump_in.ensures c.if-is_jump_in.false

pub items_hold_jump-returns : goal.items_hold_jump-returns
items_hold_jump-returns t c = missed (λ (a : Forest). holds_jump (is_flagged c.args.named.now) a) refl c.args.items.now c.loop-i.i c.loop-i-test.false
    c.loop-i.invariant

pub slice_holds_jump-returns-then-holds_jump : goal.slice_holds_jump-returns-then-holds_jump
slice_holds_jump-returns-then-holds_jump t c = found_in (λ (d : Sections). holds_jump_among (is_flagged c.args.named.now) d)
    (λ (s : Section). holds_jump (is_flagged c.args.named.now) (trees_of (list_of s))) (λ s d. refl) c.args.sections.now c.loop-i.i
    c.index-sections-i.result c.loop-i-test.true c.index-sections-i.is c.loop-i.invariant c.holds_jump.result
    (c.holds_jump.ensures ∙ ap (λ (s : Section). holds_jump (is_flagged c.args.named.now) (trees_of (list_of s))) (sym c.index-sections-i.is))
    c.if-holds_jump.true

pub slice_holds_jump-loop-i-preserved : goal.slice_holds_jump-loop-i-preserved
slice_holds_jump-loop-i-preserved t c = passed_in (λ (d : Sections). holds_jump_among (is_flagged c.args.named.now) d)
    (λ (s : Section). holds_jump (is_flagged c.args.named.now) (trees_of (list_of s))) (λ s d. refl) c.args.sections.now c.loop-i.i
    c.index-sections-i.result c.loop-i-test.true c.index-sections-i.is c.loop-i.invariant c.holds_jump.result
    (c.holds_jump.ensures ∙ ap (λ (s : Section). holds_jump (is_flagged c.args.named.now) (trees_of (list_of s))) (sym c.index-sections-i.is))
    c.if-holds_jump.false

pub slice_holds_jump-returns : goal.slice_holds_jump-returns
slice_holds_jump-returns t c = missed_in (λ (d : Sections). holds_jump_among (is_flagged c.args.named.now) d) refl c.args.sections.now c.loop-i.i
    c.loop-i-test.false c.loop-i.invariant
