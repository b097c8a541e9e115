use Rattle.std.proofs.Common.{sym, ◌∙◌}
use Rattle.std.proofs.lemmas.Result.{IfOk-weaker}
use Rattle.move_replay.proofs.Leaping.{same_body, no_move}
use Rattle.move_replay.proofs.one_move.move_leap_of.Goals as goal

pub move_leap-done-requires : goal.move_leap-done-requires
move_leap-done-requires c = same_body c.args.function.now c.in-Some.body (sym c.replace.ensures.value ∙ c.in-Some.is) c.requires.flat c.requires.made

pub returns-clause-no : goal.returns-clause-no
returns-clause-no c =
    IfOk-weaker c.move_leap-done.result _ _ (λ b h e g k. no_move c.args.step.now c.args.function.now c.in-Some.body
    (sym c.replace.ensures.value ∙ c.in-Some.is) c.requires.leap (h e) g k) c.move_leap-done.ensures.no
