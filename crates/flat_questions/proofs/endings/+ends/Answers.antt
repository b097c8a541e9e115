use Rattle.std.proofs.Common.{◌≡◌, ◌+◌, length, sym, ap, ◌∙◌, arith}
use Rattle.c_tree.specs.Paths.{list_of}
use Rattle.c_tree.specs.Trees.{trees_of}
use Rattle.flat_laws.specs.Parts.{ending}
use Rattle.flat_questions.specs.Reading.{is_flagged}
use Rattle.flat_questions.proofs.endings.+ends.Goals as goal
use Rattle.std.proofs.Common.{◌-◌, arith}
use Rattle.flat_laws.specs.Parts.{is_gone}
use Rattle.flat_questions.proofs.EndLaws.{goes, goes_end, goes_before, ends_here, ends_from, gone_is, last_at, last_none}

pub items_end_by-loop-k-init : goal.items_end_by-loop-k-init
items_end_by-loop-k-init t c = goes_end (is_flagged c.args.named.now) c.args.items.now (length c.args.items.now - 0) (omega arith)

pub items_end_by-returns-then-not-is_gone : goal.items_end_by-returns-then-not-is_gone
items_end_by-returns-then-not-is_gone t c =
    let live = is_flagged c.args.named.now in
    let xs = c.args.items.now in
    let k = c.loop-k.k in
    let n = length xs in
    let stays = sym (ap is_gone c.item_ends_by-ending.ensures) ∙ sym c.is_gone.ensures ∙ c.if-not-is_gone.true in
    let here = ends_here live xs (n - 1 - k) (n - k) c.index-items-at.result (omega arith) (omega arith) c.index-items-at.is c.loop-k.invariant in
    c.item_ends_by-ending.ensures ∙ sym here ∙ sym (ends_from live xs (n - 1 - k) (ap is_gone here ∙ stays))

pub items_end_by-loop-k-preserved : goal.items_end_by-loop-k-preserved
items_end_by-loop-k-preserved t c =
    let live = is_flagged c.args.named.now in
    let xs = c.args.items.now in
    let k = c.loop-k.k in
    let n = length xs in
    goes_before live xs (n - 1 - k) (n - k) (n - (k + 1)) c.index-items-at.result (omega arith) (omega arith) (omega arith) c.index-items-at.is
    c.loop-k.invariant
    (sym (ap is_gone c.item_ends_by-ending.ensures) ∙ sym c.is_gone.ensures ∙ c.if-not-is_gone.false)

pub items_end_by-returns : goal.items_end_by-returns
items_end_by-returns t c =
    let live = is_flagged c.args.named.now in
    let xs = c.args.items.now in
    let e : 0 ≡ length xs - c.loop-k.k = omega arith in
    sym (gone_is (ending live (trees_of xs)) (ap (goes live xs) e ∙ c.loop-k.invariant))

pub last_ends_by-returns-then-count-eq0 : goal.last_ends_by-returns-then-count-eq0
last_ends_by-returns-then-count-eq0 t c = sym (last_none (is_flagged c.args.named.now) c.args.sections.now (omega arith))

pub last_ends_by-returns-else-count-eq0 : goal.last_ends_by-returns-else-count-eq0
last_ends_by-returns-else-count-eq0 t c =
    let live = is_flagged c.args.named.now in
    let cs = c.args.sections.now in
    c.ends_by.ensures ∙ ap (λ z. ending live (trees_of (list_of z))) (sym c.index-sections-at.is) ∙
    sym (last_at live cs (length cs - 1) c.index-sections-at.result (omega arith) c.index-sections-at.is)
