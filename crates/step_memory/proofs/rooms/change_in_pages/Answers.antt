use Rattle.std.proofs.Common.{◌/◌, slice_set, ap, ◌∙◌, subst, arith}
use Rattle.std.proofs.lemmas.Result.{on_ok_weaker, on_err_weaker}
use Rattle.c_tree.proofs.PathLemmas.{set_same}
use Rattle.step_memory.specs.Changes.{changed}
use Rattle.step_memory.specs.Rooms.{BecomesAt}
use Rattle.step_memory.specs.Pages.{shown}
use Rattle.step_memory.proofs.PageLemmas.{page_becomes, page_changes}
use Rattle.step_memory.proofs.rooms.change_in_pages.Goals as goal

pub returns-clause-pages : goal.returns-clause-pages
returns-clause-pages c =
    page_changes c.make_page.new.pages c.args.slots.now (c.args.place / 64) c.at_mut.result.now c.change_in.new.rooms c.make_page.ensures.pages
    c.at_mut.ensures.value c.in_ok-make_page.ensures.made.1 c.change_in.ensures.length

pub returns-clause-ok : goal.returns-clause-ok
returns-clause-ok c =
    let ps = c.make_page.new.pages in
    let ss = c.args.slots.now in
    on_ok_weaker c.change_in.result
    (λ b. subst (λ rs. BecomesAt (changed c.args.change) c.args.place rs (shown (slice_set ps (c.args.place / 64) c.change_in.new.rooms) ss))
    c.make_page.ensures.rooms
    (page_becomes (changed c.args.change) ps ss c.args.place c.at_mut.result.now c.change_in.new.rooms c.make_page.ensures.pages
    (omega (arith, c.if-place-slots.false)) c.at_mut.ensures.value c.in_ok-make_page.ensures.made.1 b))
    c.change_in.ensures.ok

pub returns-clause-err : goal.returns-clause-err
returns-clause-err c =
    let ps = c.make_page.new.pages in
    let ss = c.args.slots.now in
    on_err_weaker c.change_in.result
    (λ e. ap (λ p. shown (slice_set ps (c.args.place / 64) p) ss) e ∙ ap (λ qs. shown qs ss)
    (set_same ps (c.args.place / 64) c.at_mut.result.now c.at_mut.ensures.value) ∙ c.make_page.ensures.rooms)
    c.change_in.ensures.err
