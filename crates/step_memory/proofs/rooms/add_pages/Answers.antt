use Rattle.std.proofs.Common.{[], ◌∷◌, ◌++◌, ◌≡◌, get_or, length, ap, sym, ◌∙◌, subst, arith}
use Rattle.std.proofs.lemmas.List.{length_push}
use Rattle.step_memory.specs.Pages.{shown, ArePages}
use Rattle.step_memory.proofs.PageLemmas.{one_more_pages, one_more_shown, one_more_at}
use Rattle.step_memory.proofs.rooms.add_pages.Goals as goal

pub loop-at-preserved : goal.loop-at-preserved
loop-at-preserved c =
    let ps = c.loop-at.pages in
    let ss = c.args.slots.now in
    let e : c.push.new.self ≡ ps ++ [] ∷ [] = c.in_ok-push.ensures.ok ∙ ap (λ p. ps ++ p ∷ []) c.new.ensures in
    record {
      pages = subst (λ qs. ArePages qs ss) (sym e) (one_more_pages ps ss c.loop-at.invariant.pages);
      rooms = ap (λ qs. shown qs ss) e ∙ one_more_shown ps ss ∙ c.loop-at.invariant.rooms;
      each = λ q. ap (λ qs. get_or qs q []) e ∙ one_more_at ps q ∙ c.loop-at.invariant.each q;
      count = omega (arith, ap length e, length_push ps []);
    }
