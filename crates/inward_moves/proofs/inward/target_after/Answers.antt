use Rattle.std.proofs.Common.{◌≡◌, inl, inr, ◌<◌, Some, slice_get, length, sym, ap, subst, ◌∙◌, arith}
use Rattle.std.proofs.lemmas.Bool.{cases_lt}
use Rattle.std.proofs.lemmas.Option.{slice_get_within, slice_get-get_or}
use Rattle.c_tree.specs.Join.{Holds}
use Rattle.c_tree.proofs.RuleChanges.{held_some}
use Rattle.inward_moves.specs.Entering.{LeadsTo}
use Rattle.inward_moves.proofs.inward.target_after.Goals as goal

pub loop-j-preserved : goal.loop-j-preserved
loop-j-preserved c k b after before h =
    let items = c.args.items.now in
    let x = c.index-items-j.result in
    elim (cases_lt k c.loop-j.j) [
      | inl l ↦ c.loop-j.invariant k b after l h
      | inr g ↦
          let same : k ≡ c.loop-j.j = omega arith in
          let there : slice_get items c.loop-j.j ≡ Some x = slice_get-get_or items c.loop-j.j x c.loop-j-test.true ∙ ap Some (sym c.index-items-j.is) in
          c.in_default.ensures.none b (subst (Holds (LeadsTo c.args.label b)) (ap (slice_get items) same ∙ there) h)
    ]

pub returns-clause-none : goal.returns-clause-none
returns-clause-none c j b after h =
    let items = c.args.items.now in
    let x = held_some (LeadsTo c.args.label b) (slice_get items j) h in
    let within : j < length items = slice_get_within items j x.0 x.1 in
    c.loop-j.invariant j b after (omega arith) h
