use Rattle.std.proofs.Common.{◌++◌, refl, sym, ap, subst, ◌∙◌}
use Rattle.label_offsets.specs.Leaps.{leaps_from}
use Rattle.label_offsets.proofs.FirstFound.{none_in_front}
use Rattle.move_order_laws.specs.Derivations.{Derives}
use Rattle.move_bodies.proofs.Underway.{first_label, less_leaps, one_leap_more, all_done}
use Rattle.move_bodies.proofs.moving.derive.Goals as goal

pub loop-moves-init : goal.loop-moves-init
loop-moves-init c =
    (record { continues = λ ns end d. subst (λ ms. Derives c.args.body.now (ms ++ ns) end) (sym c.new-moves.ensures) d; well_made = c.requires }, refl)

pub eliminate-requires-clause-leap : goal.eliminate-requires-clause-leap
eliminate-requires-clause-leap c = first_label c.loop-moves.body c.in-Some.at (sym c.in_ok-at.ensures ∙ c.in-Some.is)

pub loop-moves-smaller : goal.loop-moves-smaller
loop-moves-smaller c = less_leaps c.loop-moves.body c.eliminate.new.body c.in-Some.at c.loop-moves.moves c.eliminate.new.moves c.in_ok-front.ensures.eliminated

pub loop-moves-preserved : goal.loop-moves-preserved
loop-moves-preserved c = (
  one_leap_more c.args.body.now c.loop-moves.body c.eliminate.new.body c.in-Some.at c.loop-moves.moves c.eliminate.new.moves c.loop-moves.invariant.0
      (sym c.in_ok-at.ensures ∙ c.in-Some.is) c.in_ok-front.ensures.eliminated c.in_ok-front.ensures.well_made,
  ap (leaps_from 0) c.in_ok-front.ensures.front.1 ∙ none_in_front c.loop-moves.body c.in-Some.at c.in_ok-front.front
      (sym c.in_ok-at.ensures ∙ c.in-Some.is) c.in_ok-front.ensures.front.0,
)

pub returns-clause-derives : goal.returns-clause-derives
returns-clause-derives c = all_done c.args.body.now c.loop-moves.body c.loop-moves.moves c.loop-moves.invariant.0 (sym c.in_ok-at.ensures ∙ c.in_default.is)
