use denote.Param.Weighed.{at_most}
use Rattle.c_tree.proofs.tree.Item.TheLaws.{the_size as item_size}
use Rattle.c_tree.proofs.tree.Section.TheLaws.{the_size as section_size}
use Rattle.std.proofs.Common.{◌+◌, ◌-◌, ◌≤◌, ◌≡◌, inl, inr, leb, length, drop, refl, sym, ap, subst, ◌∙◌, arith}
use Rattle.std.proofs.lemmas.Result.{on_ok_weaker}
use Rattle.c_tree.specs.Trees.{trees_of, sections_of}
use Rattle.c_tree.specs.Views.{tree_at}
use Rattle.tidy_laws.specs.Changes.{inner_sections}
use Rattle.tidy_slots.specs.Counts.{item_count, sections_count}
use Rattle.tidy_slots.proofs.LoopLaws.{refilled_same}
use Rattle.tidy_loops.specs.Exits.{jump_of, checks_within}
use Rattle.tidy_loops.specs.Remaining.{exits_within, item_exits}
use Rattle.tidy_loops.specs.Rewritten.{list_rewritten, each_rewritten, item_rewritten}
use Rattle.tidy_loops.proofs.Giving.{rewritten_given}
use Rattle.tidy_loops.proofs.Unnamed.{list_unnamed, within_most}
use Rattle.tidy_loops.proofs.InPlace.{item_change, section_change, none_made, one_left, one_made, all_made, all_left, item_made, item_left, alone, section_made, section_left, list_made}
use Rattle.tidy_loops.proofs.tails.+rewrite.Goals as goal

pub rewrite_items-items-init : goal.rewrite_items-items-init
rewrite_items-items-init t c =
    none_made (item_change c.args.tail c.args.slot (jump_of c.args.exit)) c.args.left c.args.items.now (length c.args.items.now) refl

pub rewrite_items-returns-then-still-eq0-clause-made : goal.rewrite_items-returns-then-still-eq0-clause-made
rewrite_items-returns-then-still-eq0-clause-made t c =
    all_made (item_change c.args.tail c.args.slot (jump_of c.args.exit)) c.args.left c.args.items.now c.items.ahead c.items.items c.items.still
    c.items.invariant c.requires (inl c.if-still-eq0.true)

pub rewrite_items-returns-then-still-eq0-clause-left : goal.rewrite_items-returns-then-still-eq0-clause-left
rewrite_items-returns-then-still-eq0-clause-left t c =
    let z = c.if-still-eq0.true in
    let l = all_left (item_change c.args.tail c.args.slot (jump_of c.args.exit)) c.args.left c.args.items.now c.items.ahead c.items.items c.items.still
    c.items.invariant c.requires (inl z) in
    omega (arith, z, l)

pub rewrite_items-rewrite_item-requires : goal.rewrite_items-rewrite_item-requires
rewrite_items-rewrite_item-requires t c =
    let i = c.items.ahead in
    let j = i - 1 in
    let x = c.index-items-at.result in
    let more = c.items-test.true in
    let same = c.items.invariant.front.1 j x (omega (arith, more)) in
    let long = c.items.invariant.front.0 in
    let inside = c.items.invariant.inside in
    let size = at_most item_size c.args.items.now j x (omega (arith, more, inside)) in (
      rw same (omega (arith, size, c.decreases)),
      subst (λ z. item_count c.args.slot (tree_at z) ≤ c.items.still) c.index-items-at.is
          (one_left (item_change c.args.tail c.args.slot (jump_of c.args.exit)) c.args.left c.args.items.now i c.items.items c.items.still c.items.invariant
          j x c.requires (omega (arith, more)) c.index-items-at.is),
    )

pub rewrite_items-items-preserved : goal.rewrite_items-items-preserved
rewrite_items-items-preserved t c =
    let g = c.args.slot in
    let l = jump_of c.args.exit in
    let tail = c.args.tail in
    let old = c.args.items.now in
    let i = c.items.ahead in
    let j = i - 1 in
    let x = c.index-items-at.result in
    let y = c.rewrite_item.new.item in
    let next = c.in_ok-still.still in
    let still = c.items.still in
    let b = leb c.first_at_tail-first.result j in
    let a = trees_of (drop (j + 1) old) in
    let more = c.items-test.true in
    let inside = c.items.invariant.inside in
    let e = c.first_at_tail-first.ensures j (omega (arith, more, inside)) in
    one_made (item_change tail g l) c.args.left old i c.items.items still c.items.invariant j x y next (omega (arith, more)) c.index-items-at.is
    (item_made tail g l x y a b e (c.in_ok-still.ensures.made ∙ ap (λ z. item_rewritten b g l (tree_at z)) (sym c.index-items-at.is)))
    (item_left tail g x a b next still e (subst (λ z. next + item_exits b g (tree_at z) ≡ still) (sym c.index-items-at.is) c.in_ok-still.ensures.left))

pub rewrite_items-returns-clause-made : goal.rewrite_items-returns-clause-made
rewrite_items-returns-clause-made t c =
    let z = c.items-test.false in
    all_made (item_change c.args.tail c.args.slot (jump_of c.args.exit)) c.args.left c.args.items.now c.items.ahead c.items.items c.items.still
    c.items.invariant c.requires (inr (omega (arith, z)))

pub rewrite_items-returns-clause-left : goal.rewrite_items-returns-clause-left
rewrite_items-returns-clause-left t c =
    let z = c.items-test.false in
    all_left (item_change c.args.tail c.args.slot (jump_of c.args.exit)) c.args.left c.args.items.now c.items.ahead c.items.items c.items.still
    c.items.invariant c.requires (inr (omega (arith, z)))

pub rewrite_list-returns-then-left-eq0-clause-made : goal.rewrite_list-returns-then-left-eq0-clause-made
rewrite_list-returns-then-left-eq0-clause-made t c =
    let z = c.if-left-eq0.true in
    let r = c.requires in
    list_unnamed c.args.tail c.args.slot (jump_of c.args.exit) (trees_of c.args.list.now) (omega (arith, z, r))

pub rewrite_list-returns-then-left-eq0-clause-left : goal.rewrite_list-returns-then-left-eq0-clause-left
rewrite_list-returns-then-left-eq0-clause-left t c =
    let z = c.if-left-eq0.true in
    let r = c.requires in
    let m = within_most c.args.tail c.args.slot (trees_of c.args.list.now) in
    omega (arith, z, r, m)

pub rewrite_list-returns-clause-behind : goal.rewrite_list-returns-clause-behind
rewrite_list-returns-clause-behind t c =
    let m = within_most c.args.tail c.args.slot (trees_of c.args.list.now) in
    let q = ap (λ z. exits_within c.args.tail c.args.slot (trees_of z)) c.as_mut_slice.ensures.value in
    let l = c.in_ok-still.ensures.left in
    omega (arith, m, q, l)

pub rewrite_list-returns-clause-made : goal.rewrite_list-returns-clause-made
rewrite_list-returns-clause-made t c =
    let g = c.args.slot in
    let l = jump_of c.args.exit in
    let tail = c.args.tail in
    list_made g (each_rewritten tail g l) (list_rewritten tail g l) (rewritten_given tail g l) c.args.list.now c.as_slice.result.now
    c.as_mut_slice.result.now c.rewrite_items.new.items c.in_ok-checks.checks (trees_of c.give_ways.new.list)
    c.as_slice.ensures.value c.in_ok-checks.ensures c.as_mut_slice.ensures.value c.rewrite_items.ensures.as_long c.in_ok-still.ensures.made
    c.in_ok-give_ways.ensures

pub rewrite_switch-returns-clause-made : goal.rewrite_switch-returns-clause-made
rewrite_switch-returns-clause-made t c =
    let q = c.as_mut_slice.ensures.value in
    on_ok_weaker c.rewrite_sections.result
    (λ h. ap sections_of (refilled_same c.args.sections.now c.as_mut_slice.result.now c.rewrite_sections.new.sections q c.rewrite_sections.ensures.as_long)
    ∙ h ∙ ap (λ z. inner_sections c.args.slot (sections_of z)) q)
    c.rewrite_sections.ensures.made

pub rewrite_sections-sections-init : goal.rewrite_sections-sections-init
rewrite_sections-sections-init t c =
    none_made (section_change c.args.slot) c.args.left c.args.sections.now (length c.args.sections.now) refl

pub rewrite_sections-returns-then-still-eq0-clause-made : goal.rewrite_sections-returns-then-still-eq0-clause-made
rewrite_sections-returns-then-still-eq0-clause-made t c =
    all_made (section_change c.args.slot) c.args.left c.args.sections.now c.sections.ahead c.sections.sections c.sections.still
    c.sections.invariant c.requires (inl c.if-still-eq0.true)

pub rewrite_sections-returns-then-still-eq0-clause-left : goal.rewrite_sections-returns-then-still-eq0-clause-left
rewrite_sections-returns-then-still-eq0-clause-left t c =
    let z = c.if-still-eq0.true in
    let l = all_left (section_change c.args.slot) c.args.left c.args.sections.now c.sections.ahead c.sections.sections c.sections.still
    c.sections.invariant c.requires (inl z) in
    omega (arith, z, l)

pub rewrite_sections-rewrite_section-requires : goal.rewrite_sections-rewrite_section-requires
rewrite_sections-rewrite_section-requires t c =
    let i = c.sections.ahead in
    let j = i - 1 in
    let x = c.index-sections-at.result in
    let more = c.sections-test.true in
    let same = c.sections.invariant.front.1 j x (omega (arith, more)) in
    let long = c.sections.invariant.front.0 in
    let inside = c.sections.invariant.inside in
    let size = at_most section_size c.args.sections.now j x (omega (arith, more, inside)) in (
      rw same (omega (arith, size, c.decreases)),
      subst (λ z. sections_count c.args.slot (alone z) ≤ c.sections.still) c.index-sections-at.is
          (one_left (section_change c.args.slot) c.args.left c.args.sections.now i c.sections.sections c.sections.still c.sections.invariant
          j x c.requires (omega (arith, more)) c.index-sections-at.is),
    )

pub rewrite_sections-sections-preserved : goal.rewrite_sections-sections-preserved
rewrite_sections-sections-preserved t c =
    let g = c.args.slot in
    let old = c.args.sections.now in
    let i = c.sections.ahead in
    let j = i - 1 in
    let x = c.index-sections-at.result in
    let y = c.rewrite_section.new.section in
    let next = c.in_ok-still.still in
    let still = c.sections.still in
    let d = sections_of (drop (j + 1) old) in
    let more = c.sections-test.true in
    one_made (section_change g) c.args.left old i c.sections.sections still c.sections.invariant j x y next (omega (arith, more)) c.index-sections-at.is
    (section_made g x y d (c.in_ok-still.ensures.made ∙ ap (λ z. inner_sections g (alone z)) (sym c.index-sections-at.is)))
    (section_left g x d next still (subst (λ z. next + checks_within g (alone z) ≡ still) (sym c.index-sections-at.is) c.in_ok-still.ensures.left))

pub rewrite_sections-returns-clause-made : goal.rewrite_sections-returns-clause-made
rewrite_sections-returns-clause-made t c =
    let z = c.sections-test.false in
    all_made (section_change c.args.slot) c.args.left c.args.sections.now c.sections.ahead c.sections.sections c.sections.still
    c.sections.invariant c.requires (inr (omega (arith, z)))

pub rewrite_sections-returns-clause-left : goal.rewrite_sections-returns-clause-left
rewrite_sections-returns-clause-left t c =
    let z = c.sections-test.false in
    all_left (section_change c.args.slot) c.args.left c.args.sections.now c.sections.ahead c.sections.sections c.sections.still
    c.sections.invariant c.requires (inr (omega (arith, z)))
