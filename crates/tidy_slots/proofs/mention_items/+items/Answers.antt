use Rattle.std.proofs.Common.{rules, not, ◌&&◌, option_map, refl, sym, ap, ◌∙◌}
use Rattle.c_tree.specs.ExpressionTrees.{expression_tree}
use Rattle.c_tree.specs.TestTrees.{test_tree}
use Rattle.c_tree.specs.Paths.{list_of}
use Rattle.c_tree.specs.declared.tree.Section.{Section}
use Rattle.c_tree.specs.Trees.{Tree, Forest, Sections, trees_of}
use Rattle.c_tree.specs.Views.{tree_at}
use Rattle.c_tree.proofs.Views.{at-If, at-For}
use Rattle.c_tree.proofs.Searches.{found, passed, missed, found_in, passed_in, missed_in}
use Rattle.tidy_laws.specs.Mentions.{test_lacks, option_lacks, item_lacks, list_lacks, sections_lack}
use Rattle.tidy_slots.proofs.NamingLaws.{either_named, either_lacks}
use Rattle.tidy_slots.proofs.mention_items.+items.Goals as goal

pub items_name-returns-then-item_names : goal.items_name-returns-then-item_names
items_name-returns-then-item_names t c = found (λ (a : Forest). not (list_lacks c.args.slot a)) (λ (x : Tree). not (item_lacks c.args.slot x))
    (λ x xs. either_lacks (item_lacks c.args.slot x) (list_lacks c.args.slot xs)) c.args.items.now c.loop-i.i c.index-items-i.result
    c.loop-i-test.true c.index-items-i.is c.loop-i.invariant c.item_names.result c.item_names.ensures c.if-item_names.true

pub items_name-loop-i-preserved : goal.items_name-loop-i-preserved
items_name-loop-i-preserved t c = passed (λ (a : Forest). not (list_lacks c.args.slot a)) (λ (x : Tree). not (item_lacks c.args.slot x))
    (λ x xs. either_lacks (item_lacks c.args.slot x) (list_lacks c.args.slot xs)) c.args.items.now c.loop-i.i c.index-items-i.result
    c.loop-i-test.true c.index-items-i.is c.loop-i.invariant c.item_names.result c.item_names.ensures c.if-item_names.false

pub items_name-returns : goal.items_name-returns
items_name-returns t c = missed (λ (a : Forest). not (list_lacks c.args.slot a)) refl c.args.items.now c.loop-i.i c.loop-i-test.false c.loop-i.invariant

pub sections_name-returns-then-list_names : goal.sections_name-returns-then-list_names
sections_name-returns-then-list_names t c = found_in (λ (d : Sections). not (sections_lack c.args.slot d))
    (λ (s : Section). not (list_lacks c.args.slot (trees_of (list_of s))))
    (λ s d. either_lacks (list_lacks c.args.slot (trees_of (list_of s))) (sections_lack c.args.slot d)) c.args.sections.now c.loop-i.i
    c.index-sections-i.result c.loop-i-test.true c.index-sections-i.is c.loop-i.invariant c.list_names.result
    (c.list_names.ensures ∙ ap (λ (s : Section). not (list_lacks c.args.slot (trees_of (list_of s)))) (sym c.index-sections-i.is)) c.if-list_names.true

pub sections_name-loop-i-preserved : goal.sections_name-loop-i-preserved
sections_name-loop-i-preserved t c = passed_in (λ (d : Sections). not (sections_lack c.args.slot d))
    (λ (s : Section). not (list_lacks c.args.slot (trees_of (list_of s))))
    (λ s d. either_lacks (list_lacks c.args.slot (trees_of (list_of s))) (sections_lack c.args.slot d)) c.args.sections.now c.loop-i.i
    c.index-sections-i.result c.loop-i-test.true c.index-sections-i.is c.loop-i.invariant c.list_names.result
    (c.list_names.ensures ∙ ap (λ (s : Section). not (list_lacks c.args.slot (trees_of (list_of s)))) (sym c.index-sections-i.is)) c.if-list_names.false

pub sections_name-returns : goal.sections_name-returns
sections_name-returns t c = missed_in (λ (d : Sections). not (sections_lack c.args.slot d)) refl c.args.sections.now c.loop-i.i c.loop-i-test.false
    c.loop-i.invariant

pub item_names-returns-in-If : goal.item_names-returns-in-If
item_names-returns-in-If t c =
    let g = c.args.slot in
    either_named c.test_names-test.result _ (test_lacks g (test_tree c.in-If.test))
    (list_lacks g (trees_of c.in-If.a) && list_lacks g (trees_of c.in-If.b)) (search rules)
    (either_named c.list_names-a.result c.list_names-b.result (list_lacks g (trees_of c.in-If.a)) (list_lacks g (trees_of c.in-If.b)) (search rules)
    (search rules))
    ∙ sym (ap (λ y. not (item_lacks g (tree_at y))) c.in-If.is ∙ ap (λ y. not (item_lacks g y)) (at-If c.in-If.test c.in-If.a c.in-If.b))

pub item_names-returns-in-For : goal.item_names-returns-in-For
item_names-returns-in-For t c =
    let g = c.args.slot in
    let f = list_lacks g (trees_of c.in-For.first) in
    let i = option_lacks g (option_map expression_tree c.in-For.test) in
    let u = option_lacks g (option_map expression_tree c.in-For.third) in
    let a = list_lacks g (trees_of c.in-For.a) in
    either_named c.list_names-first.result _ f (i && (u && a)) (search rules)
    (either_named c.part_names-test.result _ i (u && a) (search rules)
    (either_named c.part_names-third.result c.list_names-a-in-For.result u a (search rules) (search rules)))
    ∙ sym (ap (λ y. not (item_lacks g (tree_at y))) c.in-For.is ∙ ap (λ y. not (item_lacks g y))
    (at-For c.in-For.first c.in-For.test c.in-For.third c.in-For.a))
