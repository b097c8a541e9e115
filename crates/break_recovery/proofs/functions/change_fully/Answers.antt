use Rattle.break_recovery.proofs.Numbered.{as_many, function_tidied, none_tidied}
use Rattle.break_recovery.proofs.functions.change_fully.Goals as goal

pub returns-then-made-eq0 : goal.returns-then-made-eq0
returns-then-made-eq0 c = none_tidied c.in_ok-made.made.0 c.args.function.now c.in_ok-made.made.1 c.change_all.new.function c.if-made-eq0.true
    c.in_ok-made.ensures

pub number_again-requires : goal.number_again-requires
number_again-requires c = as_many c.in_ok-made.made.0 c.args.function.now c.in_ok-made.made.1 c.change_all.new.function c.in_ok-made.ensures

pub returns : goal.returns
returns c = function_tidied c.in_ok-made.made.0 c.args.function.now c.in_ok-made.made.1 c.change_all.new.function c.number_again.new.function
    c.if-made-eq0.false c.in_ok-made.ensures c.in_ok-number_again.ensures
