use Rattle.std.proofs.Common.{◌≡◌, map, slice_set, refl, ap, sym, ◌∙◌, subst, arith}
use Rattle.step_memory.specs.Pages.{room_at_start, shown, ArePages}
use Rattle.step_memory.proofs.PageLemmas.{part, page_at_start_pages, page_at_start_shown}
use Rattle.step_memory.proofs.rooms.make_page.Goals as goal

pub returns-clause-pages : goal.returns-clause-pages
returns-clause-pages c =
    let ss = c.args.slots.now in
    let ps = c.add_pages.new.pages in
    let e : c.set.new.self ≡ slice_set ps c.args.page (map room_at_start (part c.args.page ss)) =
    c.set.ensures ∙ ap (slice_set ps c.args.page) (c.in_ok-rooms.ensures ∙ ap (map room_at_start) c.part.ensures) in
    subst (λ qs. ArePages qs ss) (sym e) (page_at_start_pages ps ss c.args.page c.add_pages.ensures.pages)

pub returns-clause-rooms : goal.returns-clause-rooms
returns-clause-rooms c =
    let ss = c.args.slots.now in
    let ps = c.add_pages.new.pages in
    let e : c.set.new.self ≡ slice_set ps c.args.page (map room_at_start (part c.args.page ss)) =
    c.set.ensures ∙ ap (slice_set ps c.args.page) (c.in_ok-rooms.ensures ∙ ap (map room_at_start) c.part.ensures) in
    ap (λ qs. shown qs ss) e
    ∙ page_at_start_shown ps ss c.args.page (c.add_pages.ensures.each c.args.page ∙ c.if-is_made.ensures.unmade refl)
    (omega (arith, c.in_ok-add_pages.ensures.count)) ∙ c.add_pages.ensures.rooms
