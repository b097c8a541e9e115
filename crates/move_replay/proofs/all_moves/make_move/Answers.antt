use Rattle.std.proofs.lemmas.Result.{IfOk-weaker}
use Rattle.move_replay.proofs.MovesMade.{made_at, not_at, nowhere, leapless_there, leapless_set}
use Rattle.std.proofs.Common.{refl}
use Rattle.restructure_laws.specs.Replayed.{IsTopWellMade}
use Rattle.move_replay.proofs.Placing.{all_there, flat_there}
use Rattle.move_replay.proofs.all_moves.make_move.Goals as goal

pub returns-in-Some-clause-yes : goal.returns-in-Some-clause-yes
returns-in-Some-clause-yes c =
    IfOk-weaker c.move_top.result _ _ (λ b h e. made_at c.args.step.now c.args.tops.now c.args.tops.now c.in-Some.i c.at_mut.result.now
    c.move_top.new.top refl (c.in-Some.ensures c.args.tops.now c.requires.places) c.at_mut.ensures.value (h e)) c.move_top.ensures.yes

pub returns-in-Some-clause-no : goal.returns-in-Some-clause-no
returns-in-Some-clause-no c =
    IfOk-weaker c.move_top.result _ _ (λ b h e us k. not_at c.args.step.now c.args.tops.now c.args.tops.now us c.in-Some.i c.at_mut.result.now refl
    (c.in-Some.ensures c.args.tops.now c.requires.places) c.at_mut.ensures.value (h e) k) c.move_top.ensures.no

pub returns-in-None-clause-no : goal.returns-in-None-clause-no
returns-in-None-clause-no c = λ e us k. nowhere (c.in-None.ensures c.args.tops.now c.requires.places) k

pub at_mut-requires : goal.at_mut-requires
at_mut-requires c = (c.in-Some.ensures c.args.tops.now c.requires.places).within

pub move_top-requires-clause-made : goal.move_top-requires-clause-made
move_top-requires-clause-made c = all_there IsTopWellMade c.args.tops.now c.in-Some.i c.at_mut.result.now c.at_mut.ensures.value c.requires.made

pub move_top-requires-clause-flat : goal.move_top-requires-clause-flat
move_top-requires-clause-flat c = flat_there c.args.step.now.function c.args.tops.now c.in-Some.i c.at_mut.result.now
    (c.in-Some.ensures c.args.tops.now c.requires.places) c.at_mut.ensures.value

pub move_top-requires-clause-leapless : goal.move_top-requires-clause-leapless
move_top-requires-clause-leapless c =
    leapless_there c.args.known.now.leapless c.args.tops.now c.in-Some.i c.at_mut.result.now c.requires.leapless c.at_mut.ensures.value

pub returns-in-Some-clause-leapless : goal.returns-in-Some-clause-leapless
returns-in-Some-clause-leapless c =
    let ts = c.args.tops.now in
    let t = c.at_mut.result.now in
    IfOk-weaker c.move_top.result _ _ (λ b h e. leapless_set c.move_top.new.known.leapless ts c.in-Some.i t c.move_top.new.top c.at_mut.ensures.value (h e))
    c.move_top.ensures.leapless
