use Rattle.std.proofs.Common.{refl}
use Rattle.std.proofs.lemmas.Result.{IfOk-weaker}
use Rattle.move_replay.proofs.Leaping.{no_simplification, stays_leapless}
use Rattle.move_replay.proofs.one_move.move_in.Goals as goal

pub returns-else-branch-clause-no : goal.returns-else-branch-clause-no
returns-else-branch-clause-no c =
    IfOk-weaker c.apply_one.result _ _ (λ b h e g k. no_simplification c.args.step.now c.args.function.now
    (c.in_ok-has_leap_now.ensures.no c.if-branch.false) (h e) g k) c.apply_one.ensures.no

pub returns-else-branch-clause-leapless : goal.returns-else-branch-clause-leapless
returns-else-branch-clause-leapless c =
    let none = c.in_ok-has_leap_now.ensures.no c.if-branch.false in
    let stays = stays_leapless c.args.step.now c.args.function.now c.apply_one.new.function c.requires.flat c.requires.name none in
    IfOk-weaker c.apply_one.result _ _ (λ b h e. (refl, stays (h e))) c.apply_one.ensures.yes
