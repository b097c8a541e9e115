use Rattle.std.proofs.Common.{subst, sym, ◌<◌}
use Rattle.std.proofs.lemmas.List.Elements.{All-push}
use Rattle.break_recovery.specs.declared.held.Held.{Held}
use Rattle.break_recovery.specs.Held.{IsHeldAt, AreHeld}
use Rattle.break_recovery.proofs.held.look.Goals as goal

pub returns-in_ok-push-in-Some-clause-known : goal.returns-in_ok-push-in-Some-clause-known
returns-in_ok-push-in-Some-clause-known c =
    let xs = c.args.list.now in
    subst (λ hs. AreHeld hs xs c.args.place) (sym c.in_ok-push-in-Some.ensures.ok)
    (All-push (λ (h : Held). c.args.place < h.place → IsHeldAt h.slot xs h.place) c.args.holds.now.known (record { slot = c.args.slot; place = c.in-Some.at })
    c.requires.known
    (λ l. subst (λ ys. IsHeldAt c.args.slot ys c.in-Some.at) c.as_slice.ensures.value c.in-Some.ensures.1))
